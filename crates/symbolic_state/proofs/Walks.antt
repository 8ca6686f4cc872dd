-- Lists that are gone through one by one.
use Rattle.std.proofs.Common.{◌≡◌, ℕ, ◌+◌, ◌<◌, ◌≤◌, List, [], ◌∷◌, ◌++◌, length, drop, get_or, refl, sym, ap, ◌∙◌}
use Rattle.std.specs.Prelude.{Ok, Err}
use Rattle.std.proofs.lemmas.List.{append-nil, append_assoc, drop_more, drop_all}
use Rattle.outline_rules.specs.Refusals.{Ruling, Refusal, ◌>>=◌}
use Rattle.symbolic_state.specs.words.Walks.{all_by}

-- what comes of the rest, behind what is done
abbrev pub behind : {B : Type 0} → List B → Ruling (List B) → Ruling (List B)
behind done rest = rest >>= λ ys. Ok (done ++ ys)

behind-nothing : {B : Type 0} (rest : Ruling (List B)) → behind [] rest ≡ rest
behind-nothing (Ok ys) = refl
behind-nothing (Err e) = refl

module _ {A B : Type 0} (test : A → Ruling B) where
  pub walk-start : (xs : List A) → all_by test xs ≡ behind [] (all_by test (drop 0 xs))
  walk-start xs = sym (behind-nothing (all_by test xs))

  joined : (done : List B) (y : B) (r : Ruling (List B)) → behind done (r >>= λ zs. Ok (y ∷ zs)) ≡ behind (done ++ y ∷ []) r
  joined done y (Ok zs) = ap Ok (sym (append_assoc done (y ∷ []) zs))
  joined done y (Err e) = refl

  module _ (whole : Ruling (List B)) (done : List B) (xs : List A) (i : ℕ) (x : A) (low : i < length xs) (at : x ≡ get_or xs i x) (is : whole ≡ behind done (all_by test (drop i xs))) where
    here : whole ≡ behind done (test x >>= λ y. all_by test (drop (i + 1) xs) >>= λ ys. Ok (y ∷ ys))
    here =
        is ∙ ap (λ l. behind done (all_by test l)) (drop_more xs i x low)
        ∙ λ j. behind done (test (sym at j) >>= λ y. all_by test (drop (i + 1) xs) >>= λ ys. Ok (y ∷ ys))

    pub walk-next : (y : B) → test x ≡ Ok y → whole ≡ behind (done ++ y ∷ []) (all_by test (drop (i + 1) xs))
    walk-next y gives = here ∙ ap (λ r. behind done (r >>= λ y. all_by test (drop (i + 1) xs) >>= λ ys. Ok (y ∷ ys))) gives ∙ joined done y (all_by test (drop (i + 1) xs))

    pub walk-stop : (e : Refusal) → test x ≡ Err e → whole ≡ Err e
    walk-stop e fails = here ∙ ap (λ r. behind done (r >>= λ y. all_by test (drop (i + 1) xs) >>= λ ys. Ok (y ∷ ys))) fails

  pub walk-end : (whole : Ruling (List B)) (done : List B) (xs : List A) (i : ℕ) → length xs ≤ i → whole ≡ behind done (all_by test (drop i xs)) → whole ≡ Ok done
  walk-end whole done xs i high is = is ∙ ap (λ l. behind done (all_by test l)) (drop_all i xs high) ∙ ap Ok (append-nil done)

pub ruleset walks = (walk-start, walk-next, walk-stop, walk-end)

-- Terms of operands that are gathered from the last on.
use Rattle.std.proofs.Common.{◌≡◌, ℕ, zero, suc, ◌+◌, ◌<◌, List, [], ◌∷◌, ◌++◌, length, map, take, drop, Some, None, refl, sym, ap, subst, ◌∙◌, arith}
use Rattle.std.specs.Prelude.{slice_get}
use Rattle.std.proofs.lemmas.List.{map-append, reverse-append}
use Rattle.std.proofs.lemmas.List.Elements.{All-nil, All-push}
use Rattle.wasm_values.specs.declared.number.ValType.{ValType}
use Rattle.term_trees.specs.declared.term.Term.{Term}
use Rattle.term_logic.specs.Table.{tree_at}
use Rattle.symbolic_state.specs.States.{Tracked, entry_at}
use Rattle.symbolic_calls.specs.words.Topmost.{terms_turned, Gathered}

-- the entry in a place is the first of those from there on
there : {A : Type 0} (xs : List A) (n k : ℕ) (x : A) → k < n → Some x ≡ slice_get xs k → drop k (take n xs) ≡ x ∷ drop (suc k) (take n xs)
there [] n k x low is = let never : Some x ≡ None = is in cc
there (y ∷ xs) zero k x low is = absurd (omega arith)
there (y ∷ xs) (suc n) zero x low is = let same : x ≡ y = cc in ap (λ z. z ∷ take n xs) (sym same)
there (y ∷ xs) (suc n) (suc k) x low is = there xs n k x (omega arith) is

-- no entry in a place, none from there on
not-there : {A : Type 0} (xs : List A) (n k : ℕ) → None ≡ slice_get xs k → drop k (take n xs) ≡ drop (suc k) (take n xs)
not-there [] zero zero is = refl
not-there [] zero (suc k) is = refl
not-there [] (suc n) zero is = refl
not-there [] (suc n) (suc k) is = refl
not-there (y ∷ xs) zero zero is = refl
not-there (y ∷ xs) zero (suc k) is = refl
not-there (y ∷ xs) (suc n) zero is = let never : None ≡ Some y = is in cc
not-there (y ∷ xs) (suc n) (suc k) is = not-there xs n k is

all-gone : {A : Type 0} (xs : List A) (n : ℕ) → drop n (take n xs) ≡ []
all-gone [] zero = refl
all-gone [] (suc n) = refl
all-gone (x ∷ xs) zero = refl
all-gone (x ∷ xs) (suc n) = all-gone xs n

turned-cons : (e : ValType × Term) (es : List (ValType × Term)) → terms_turned (e ∷ es) ≡ terms_turned es ++ e.1 ∷ []
turned-cons e es = reverse-append (e.1 ∷ []) (map (λ d. d.1) es)

pub gathered-none : (t : Tracked) (n : ℕ) → Gathered t n n []
gathered-none t n = record {
  low = omega arith;
  terms = sym (ap terms_turned (all-gone t.state.operands n));
  within = All-nil (λ id. id < length t.terms);
}

module _ (t : Tracked) (n m k : ℕ) (ids : List ℕ) (next : m ≡ k + 1) (so_far : Gathered t n m ids) where
  before : Gathered t n (suc k) ids
  before = let P : ℕ → Type 0 = λ j. Gathered t n j ids in let same : m ≡ suc k = omega (arith, next) in subst P same so_far

  pub gathered-past : None ≡ slice_get t.state.operands k → Gathered t n k ids
  gathered-past is = record {
    low = omega (arith, before.low);
    terms = before.terms ∙ sym (ap terms_turned (not-there t.state.operands n k is));
    within = before.within;
  }

  pub gathered-one : (e : ValType × ℕ) → Some (entry_at t.terms e) ≡ slice_get t.state.operands k → e.1 < length t.terms → Gathered t n k (ids ++ e.1 ∷ [])
  gathered-one e is within = record {
    low = omega (arith, before.low);
    terms =
        map-append (tree_at t.terms) ids (e.1 ∷ [])
        ∙ ap (λ us. us ++ tree_at t.terms e.1 ∷ []) before.terms
        ∙ sym (turned-cons (entry_at t.terms e) (drop (suc k) (take n t.state.operands)))
        ∙ sym (ap terms_turned (there t.state.operands n k (entry_at t.terms e) (omega (arith, before.low)) is));
    within = All-push (λ id. id < length t.terms) ids e.1 before.within within;
  }

pub ruleset gathering = (gathered-none, gathered-past, gathered-one)

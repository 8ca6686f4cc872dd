-- What a look-up in facts finds.
use Rattle.std.proofs.Common.{◌≡◌, ℕ, zero, suc, ◌-◌, ◌<◌, ◌≤◌, List, [], ◌∷◌, ◌++◌, map, length, slice_get, refl, sym, ap, ◌∙◌, arith}
use Rattle.std.specs.Option.{option_map}
use Rattle.std.proofs.lemmas.Option.{slice_get-map}

get-append_within : {A : Type 0} (xs ys : List A) (k : ℕ) → k < length xs → slice_get (xs ++ ys) k ≡ slice_get xs k
get-append_within [] ys k low = absurd (omega arith)
get-append_within (x ∷ xs) ys zero low = refl
get-append_within (x ∷ xs) ys (suc k) low = get-append_within xs ys k (omega arith)

get-append_past : {A : Type 0} (xs ys : List A) (k : ℕ) → length xs ≤ k → slice_get (xs ++ ys) k ≡ slice_get ys (k - length xs)
get-append_past [] ys k high = ap (slice_get ys) (omega arith)
get-append_past (x ∷ xs) ys zero high = absurd (omega arith)
get-append_past (x ∷ xs) ys (suc k) high = get-append_past xs ys k (omega arith) ∙ ap (slice_get ys) (omega arith)

module _ {A B : Type 0} (f : A → B) (xs ys : List A) (k : ℕ) where
  pub seen_within : k < length xs → slice_get (map f (xs ++ ys)) k ≡ slice_get (map f xs) k
  seen_within low = slice_get-map f (xs ++ ys) k ∙ ap (option_map f) (get-append_within xs ys k low) ∙ sym (slice_get-map f xs k)

  pub seen_past : length xs ≤ k → slice_get (map f (xs ++ ys)) k ≡ slice_get (map f ys) (k - length xs)
  seen_past high = slice_get-map f (xs ++ ys) k ∙ ap (option_map f) (get-append_past xs ys k high) ∙ sym (slice_get-map f ys (k - length xs))

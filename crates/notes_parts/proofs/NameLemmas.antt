-- Names of lemmas in the order in which they came.
use Rattle.std.proofs.Common.{◌≡◌, ℕ, ◌+◌, Bool, true, false, cond, ◌||◌, if◌then◌else◌, List, [], ◌∷◌, ◌++◌, map, Some, position, is_some, refl, sym, ap, ◌∙◌}
use Rattle.std.specs.List.{list_any, position_from}
use Rattle.std.proofs.lemmas.Iterator.Adapters.{position_from-zero}
use Rattle.std.proofs.lemmas.List.{map_push}
use Rattle.indexmap.specs.IndexSet.{insert_key}

from-map : {X Y : Type 0} (p : Y → Bool) (f : X → Y) (n : ℕ) (xs : List X) → position_from (λ x. p (f x)) n xs ≡ position_from p n (map f xs)
from-map p f n [] = refl
from-map p f n (x ∷ xs) = ap (λ r. cond (p (f x)) (Some n) r) (from-map p f (n + 1) xs)

pub position-map : {X Y : Type 0} (p : Y → Bool) (f : X → Y) (xs : List X) → position (λ x. p (f x)) xs ≡ position p (map f xs)
position-map p f xs = position_from-zero (λ x. p (f x)) xs ∙ from-map p f 0 xs ∙ sym (position_from-zero p (map f xs))

some_from : {X : Type 0} (p : X → Bool) (n : ℕ) (xs : List X) → list_any p xs ≡ is_some (position_from p n xs)
some_from p n [] = refl
some_from {X} p n (x ∷ xs) = by (p x) (some_from p (n + 1) xs)
  where
    by : (b : Bool) → list_any p xs ≡ is_some (position_from p (n + 1) xs) → (b || list_any p xs) ≡ is_some (cond b (Some n) (position_from p (n + 1) xs))
    by true e = refl
    by false e = e

pub some_position : {X : Type 0} (p : X → Bool) (xs : List X) → list_any p xs ≡ is_some (position p xs)
some_position p xs = some_from p 0 xs ∙ ap is_some (sym (position_from-zero p xs))

-- a key that isn't there goes last
pub pushed_key : {X Y : Type 0} (eq : X → X → Bool) (p : Y → Bool) (f : X → Y) (ks : List X) (k : X) → ((x : X) → eq k x ≡ p (f x)) →
    is_some (position p (map f ks)) ≡ false → map f (insert_key eq ks k) ≡ map f ks ++ f k ∷ []
pushed_key {X} {Y} eq p f ks k same none = by (list_any (eq k) ks) (any ks ∙ some_position (λ x. p (f x)) ks ∙ ap is_some (position-map p f ks) ∙ none)
  where
    any : (xs : List X) → list_any (eq k) xs ≡ list_any (λ x. p (f x)) xs
    any [] = refl
    any (x ∷ xs) = (λ i. same x i || any xs i)

    by : (b : Bool) → b ≡ false → map f (if b then ks else ks ++ k ∷ []) ≡ map f ks ++ f k ∷ []
    by true e = absurd cc
    by false e = map_push f ks k

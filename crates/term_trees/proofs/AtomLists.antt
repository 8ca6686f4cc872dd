-- Lists of atoms, and the parts that a coefficient gives them.
use Rattle.std.proofs.Common.{◌≡◌, ℤ, pos, Bool, true, false, not, ◌&&◌, ◌||◌, List, [], ◌∷◌, ◌++◌, map, Some, None, refl, sym, ap, ◌∙◌}
use Rattle.std.specs.Prelude.{filter, if◌then◌else◌, option_map}
use Rattle.std.specs.List.{list_all}
use Rattle.term_trees.specs.declared.term.Term.{Term}
use Rattle.term_trees.specs.Same.{same}
use Rattle.term_trees.specs.Normal.{is_low, distinct}
use Rattle.term_trees.specs.Linear.{coefficient_in, occurs_in, limited_parts}
use Rattle.term_trees.proofs.Sameness.{same-exact}

-- whether a term is one of a list
abbrev pub among : List Term → Term → Bool
among [] x = false
among (y ∷ ys) x = same y x || among ys x

or-assoc : (a b c : Bool) → ((a || b) || c) ≡ (a || (b || c))
or-assoc true b c = refl
or-assoc false b c = refl

pub among-append : (xs ys : List Term) (x : Term) → among (xs ++ ys) x ≡ (among xs x || among ys x)
among-append [] ys x = refl
among-append (z ∷ xs) ys x = ap (λ b. same z x || b) (among-append xs ys x) ∙ sym (or-assoc (same z x) (among xs x) (among ys x))

abbrev pub without : Term → List Term → List Term
without z ys = filter (λ y. not (same z y)) ys

-- a list without a term has the others
or-swap : (a b c d : Bool) → (a || c) ≡ (a || d) → (a || (b || c)) ≡ (a || (b || d))
or-swap true b c d e = refl
or-swap false b c d e = ap (λ k. b || k) e

or-drop : (a b d : Bool) → b ≡ a → (a || d) ≡ (a || (b || d))
or-drop true b d e = refl
or-drop false b d e = ap (λ k. k || d) (sym e)

among-step : (z y : Term) (ys : List Term) (x : Term) (b : Bool) → same z y ≡ b → (same z x || among (without z ys) x) ≡ (same z x || among ys x)
    → (same z x || among (if not b then y ∷ without z ys else without z ys) x) ≡ (same z x || (same y x || among ys x))
among-step z y ys x false e ih = or-swap (same z x) (same y x) (among (without z ys) x) (among ys x) ih
among-step z y ys x true e ih = ih ∙ or-drop (same z x) (same y x) (among ys x) (ap (λ w. same w x) (sym (same-exact z y e)))

among-without : (z : Term) (ys : List Term) (x : Term) → (same z x || among (without z ys) x) ≡ (same z x || among ys x)
among-without z [] x = refl
among-without z (y ∷ ys) x = among-step z y ys x (same z y) refl (among-without z ys x)

pub among-distinct : (xs : List Term) (x : Term) → among (distinct xs) x ≡ among xs x
among-distinct [] x = refl
among-distinct (z ∷ xs) x = among-without z (distinct xs) x ∙ ap (λ b. same z x || b) (among-distinct xs x)

filter-step : {X : Type 0} (x : X) (b : Bool) (us vs ws : List X) → us ≡ vs ++ ws → (if b then x ∷ us else us) ≡ (if b then x ∷ vs else vs) ++ ws
filter-step x true us vs ws e = λ j. x ∷ e j
filter-step x false us vs ws e = e

filter-append : {X : Type 0} (p : X → Bool) (xs ys : List X) → filter p (xs ++ ys) ≡ filter p xs ++ filter p ys
filter-append p [] ys = refl
filter-append p (x ∷ xs) ys = filter-step x (p x) _ _ _ (filter-append p xs ys)

filter-filter-step : (z y : Term) (us vs : List Term) (a b : Bool) → same z y ≡ a → without z us ≡ vs
    → without z (if not b then y ∷ us else us) ≡ (if not (a || b) then y ∷ vs else vs)
filter-filter-step z y us vs true true e ih = ih
filter-filter-step z y us vs false true e ih = ih
filter-filter-step z y us vs true false e ih = ap (λ b. if not b then y ∷ without z us else without z us) e ∙ ih
filter-filter-step z y us vs false false e ih = ap (λ b. if not b then y ∷ without z us else without z us) e ∙ (λ j. y ∷ ih j)

filter-filter : (z : Term) (q : Term → Bool) (ys : List Term) → without z (filter (λ y. not (q y)) ys) ≡ filter (λ y. not (same z y || q y)) ys
filter-filter z q [] = refl
filter-filter z q (y ∷ ys) = filter-filter-step z y (filter (λ y. not (q y)) ys) _ (same z y) (q y) refl (filter-filter z q ys)

keep_all : (ys : List Term) → filter (λ y. true) ys ≡ ys
keep_all [] = refl
keep_all (y ∷ ys) = λ j. y ∷ keep_all ys j

-- the first occurrences in one list after another: those of the first, and those of the second that are not in the first
pub distinct-append : (xs ys : List Term) → distinct (xs ++ ys) ≡ distinct xs ++ filter (λ y. not (among xs y)) (distinct ys)
distinct-append [] ys = sym (keep_all (distinct ys))
distinct-append (z ∷ xs) ys =
    (λ j. z ∷ filter (λ y. not (same z y)) (distinct-append xs ys j))
    ∙ (λ j. z ∷ filter-append (λ y. not (same z y)) (distinct xs) (filter (λ y. not (among xs y)) (distinct ys)) j)
    ∙ (λ j. z ∷ filter (λ y. not (same z y)) (distinct xs) ++ filter-filter z (among xs) (distinct ys) j)

and-swap : (a b c d : Bool) → (a && c) ≡ (a && d) → (a && (b && c)) ≡ (a && (b && d))
and-swap true b c d e = ap (λ k. b && k) e
and-swap false b c d e = refl

and-drop : (a b d : Bool) → b ≡ a → (a && d) ≡ (a && (b && d))
and-drop true b d e = ap (λ k. k && d) (sym e)
and-drop false b d e = refl

all-step : (p : Term → Bool) (z y : Term) (ys : List Term) (b : Bool) → same z y ≡ b → (p z && list_all p (without z ys)) ≡ (p z && list_all p ys)
    → (p z && list_all p (if not b then y ∷ without z ys else without z ys)) ≡ (p z && (p y && list_all p ys))
all-step p z y ys false e ih = and-swap (p z) (p y) (list_all p (without z ys)) (list_all p ys) ih
all-step p z y ys true e ih = ih ∙ and-drop (p z) (p y) (list_all p ys) (ap p (sym (same-exact z y e)))

all-without : (p : Term → Bool) (z : Term) (ys : List Term) → (p z && list_all p (without z ys)) ≡ (p z && list_all p ys)
all-without p z [] = refl
all-without p z (y ∷ ys) = all-step p z y ys (same z y) refl (all-without p z ys)

-- a test of each element holds where it holds of each first occurrence
pub list_all-distinct : (p : Term → Bool) (xs : List Term) → list_all p (distinct xs) ≡ list_all p xs
list_all-distinct p [] = refl
list_all-distinct p (x ∷ xs) = all-without p x (distinct xs) ∙ ap (λ b. p x && b) (list_all-distinct p xs)

-- ---- parts by a coefficient

abbrev pub with_coefficients : (Term → ℤ) → List Term → List (Term × ℤ)
with_coefficients k xs = map (λ x. (x, k x)) xs

coefficient-step : (k : Term → ℤ) (y x : Term) (b c : Bool) (v : ℤ) → same y x ≡ b → v ≡ (if c then k x else pos 0) → (if b then k y else v) ≡ (if b || c then k x else pos 0)
coefficient-step k y x true c v e ih = ap k (same-exact y x e)
coefficient-step k y x false c v e ih = ih

pub coefficient_in-with : (k : Term → ℤ) (xs : List Term) (x : Term) → coefficient_in (with_coefficients k xs) x ≡ (if among xs x then k x else pos 0)
coefficient_in-with k [] x = refl
coefficient_in-with k (y ∷ ys) x = coefficient-step k y x (same y x) (among ys x) _ refl (coefficient_in-with k ys x)

pub occurs_in-with : (k : Term → ℤ) (xs : List Term) (x : Term) → occurs_in (with_coefficients k xs) x ≡ among xs x
occurs_in-with k [] x = refl
occurs_in-with k (y ∷ ys) x = ap (λ b. same y x || b) (occurs_in-with k ys x)

pub list_all-with : (k : Term → ℤ) (p : ℤ → Bool) (xs : List Term) → list_all (λ (q : Term × ℤ). p q.1) (with_coefficients k xs) ≡ list_all (λ x. p (k x)) xs
list_all-with k p [] = refl
list_all-with k p (x ∷ xs) = ap (λ b. p (k x) && b) (list_all-with k p xs)

pub limited_parts-all : (ps : List (Term × ℤ)) → limited_parts ps ≡ (if list_all (λ p. is_low p.1) ps then Some ps else None)
limited_parts-all [] = refl
limited_parts-all (p ∷ ps) = ap (λ o. if is_low p.1 then option_map (λ qs. p ∷ qs) o else None) (limited_parts-all ps) ∙ step (is_low p.1) (list_all (λ p. is_low p.1) ps)
  where
    step : (a b : Bool) → (if a then option_map (λ qs. p ∷ qs) (if b then Some ps else None) else None) ≡ (if a && b then Some (p ∷ ps) else None)
    step true true = refl
    step true false = refl
    step false b = refl

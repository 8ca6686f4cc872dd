-- The ground value of a term, by its outermost form.
use Rattle.std.proofs.Common.{◌≡◌, ℕ, ◌<◌, ◌^◌, ℤ, pos, ◌+ℤ◌, ◌-ℤ◌, ◌*ℤ◌, Bool, true, false, ◌&&◌, List, [], ◌∷◌, ◌++◌, Some, None, refl, sym, ap, ◌∙◌, arith}
use Rattle.std.specs.Prelude.{option_and_then, unwrap_or, if◌then◌else◌, unsigned_abs}
use Rattle.std.specs.List.{list_all}
use Rattle.std.proofs.lemmas.Int.{to_z-of_z, fits_signed_from_abs}
use mir.Val.{to_z, of_z}
use mir.Syntax.{w128}
use Rattle.wasm_values.specs.declared.number.NumOp.{NumOp}
use Rattle.wasm_values.specs.Operators.{num_width, num_unary, num_binary, signed, sign_extended}
use Rattle.term_trees.specs.declared.term.Place.{Place}
use Rattle.term_trees.specs.declared.term.Term.{Term, roll-Term, out-roll-Term, map-Term, fold-roll-Term}
use Rattle.term_trees.specs.declared.term.Term.TheOpen.{Term-F, Num, Var, Own, At, Add, Sub, Mul, One, Two, Low, Sext, Sgn}
use Rattle.term_trees.specs.declared.term.Term.TheVariants as term
use Rattle.term_trees.specs.declared.term.Term.TheVariants.{rolls-Num, rolls-Var, rolls-Own, rolls-At, rolls-Add, rolls-Sub, rolls-Mul, rolls-One, rolls-Two, rolls-Low, rolls-Sext, rolls-Sgn}
use Rattle.term_trees.specs.Terms.{joined_here, subterms}
use Rattle.term_trees.specs.Meaning.{modulo, value_here, value}
use Rattle.term_trees.specs.Ground.{no_numbers, names_nothing_here, is_small, bounded, both, is_ground, ground_value}
use Rattle.term_trees.proofs.Subterms.{subterms-roll}

pub list_all-append : {X : Type 0} (p : X → Bool) (xs ys : List X) → list_all p (xs ++ ys) ≡ (list_all p xs && list_all p ys)
list_all-append p [] ys = refl
list_all-append p (x ∷ xs) ys = ap (λ b. p x && b) (list_all-append p xs ys) ∙ and-assoc (p x) (list_all p xs) (list_all p ys)
  where
    and-assoc : (a b c : Bool) → (a && (b && c)) ≡ ((a && b) && c)
    and-assoc true b c = refl
    and-assoc false b c = refl

abbrev pub grounded : Term → Bool
grounded t = list_all is_ground (subterms t)

abbrev pub layer_value : Term-F Term → ℤ
layer_value l = value_here no_numbers (map-Term Term ℤ (value no_numbers) l)

value-roll : (l : Term-F Term) → value no_numbers (roll-Term l) ≡ layer_value l
value-roll l = fold-roll-Term ℤ (value_here no_numbers) l

-- whether a term is ground all through, by its layer
pub grounded-roll : (l : Term-F Term) → grounded (roll-Term l) ≡ ((names_nothing_here l && is_small (layer_value l)) && list_all is_ground (joined_here (map-Term Term (List Term) subterms l)))
grounded-roll l =
    ap (list_all is_ground) (subterms-roll l)
    ∙ (λ j. (names_nothing_here (out-roll-Term l j) && is_small (value-roll l j)) && list_all is_ground (joined_here (map-Term Term (List Term) subterms l)))

ground_value-roll : (l : Term-F Term) → ground_value (roll-Term l) ≡ (if (names_nothing_here l && is_small (layer_value l)) && list_all is_ground (joined_here (map-Term Term (List Term) subterms l)) then Some (layer_value l) else None)
unfolding ground_value
ground_value-roll l = λ j. if grounded-roll l j then Some (value-roll l j) else None

-- ---- one part, and two

small_and : (s : Bool) (z : ℤ) → (if s && true then Some z else None) ≡ (if s then Some z else None)
small_and true z = refl
small_and false z = refl

none_and : (s : Bool) (z : ℤ) → (if s && false then Some z else None) ≡ None
none_and true z = refl
none_and false z = refl

part_one : (f : ℤ → ℤ) (v : ℤ) (g : Bool) → (if is_small (f v) && g then Some (f v) else None) ≡ option_and_then (λ x. bounded (f x)) (if g then Some v else None)
part_one f v true = small_and (is_small (f v)) (f v)
part_one f v false = none_and (is_small (f v)) (f v)

part_two : (f : ℤ → ℤ → ℤ) (v w : ℤ) (g h : Bool) → (if is_small (f v w) && (g && h) then Some (f v w) else None) ≡ option_and_then (λ p. bounded (f p.0 p.1)) (both (if g then Some v else None) (if h then Some w else None))
part_two f v w true true = small_and (is_small (f v w)) (f v w)
part_two f v w true false = none_and (is_small (f v w)) (f v w)
part_two f v w false h = none_and (is_small (f v w)) (f v w)

value_one : (f : ℤ → ℤ) (a : Term) → (if is_small (f (value no_numbers a)) && grounded a then Some (f (value no_numbers a)) else None) ≡ option_and_then (λ x. bounded (f x)) (ground_value a)
unfolding ground_value
value_one f a = part_one f (value no_numbers a) (grounded a)

value_two : (f : ℤ → ℤ → ℤ) (a b : Term) → (if is_small (f (value no_numbers a) (value no_numbers b)) && list_all is_ground (subterms a ++ subterms b) then Some (f (value no_numbers a) (value no_numbers b)) else None)
    ≡ option_and_then (λ p. bounded (f p.0 p.1)) (both (ground_value a) (ground_value b))
unfolding ground_value
value_two f a b =
    ap (λ g. if is_small (f (value no_numbers a) (value no_numbers b)) && g then Some (f (value no_numbers a) (value no_numbers b)) else None) (list_all-append is_ground (subterms a) (subterms b))
    ∙ part_two f (value no_numbers a) (value no_numbers b) (grounded a) (grounded b)

-- ---- each form

pub ground-num : (n : ℤ) → ground_value (term.Num n) ≡ bounded n
ground-num n = ap ground_value (sym (rolls-Num n)) ∙ ground_value-roll (Num n) ∙ small_and (is_small n) n

pub ground-var : (k : ℕ) → ground_value (term.Var k) ≡ None
ground-var k = ap ground_value (sym (rolls-Var k)) ∙ ground_value-roll (Var k)

pub ground-own : (k : ℕ) → ground_value (term.Own k) ≡ None
ground-own k = ap ground_value (sym (rolls-Own k)) ∙ ground_value-roll (Own k)

pub ground-at : (p : Place) → ground_value (term.At p) ≡ None
ground-at p = ap ground_value (sym (rolls-At p)) ∙ ground_value-roll (At p)

pub ground-add : (a b : Term) → ground_value (term.Add a b) ≡ option_and_then (λ p. bounded (p.0 +ℤ p.1)) (both (ground_value a) (ground_value b))
ground-add a b = ap ground_value (sym (rolls-Add a b)) ∙ ground_value-roll (Add a b) ∙ value_two (λ x y. x +ℤ y) a b

pub ground-sub : (a b : Term) → ground_value (term.Sub a b) ≡ option_and_then (λ p. bounded (p.0 -ℤ p.1)) (both (ground_value a) (ground_value b))
ground-sub a b = ap ground_value (sym (rolls-Sub a b)) ∙ ground_value-roll (Sub a b) ∙ value_two (λ x y. x -ℤ y) a b

pub ground-mul : (a b : Term) → ground_value (term.Mul a b) ≡ option_and_then (λ p. bounded (p.0 *ℤ p.1)) (both (ground_value a) (ground_value b))
ground-mul a b = ap ground_value (sym (rolls-Mul a b)) ∙ ground_value-roll (Mul a b) ∙ value_two (λ x y. x *ℤ y) a b

pub ground-one : (op : NumOp) (a : Term) → ground_value (term.One op a) ≡ option_and_then (λ x. bounded (pos (num_unary op (modulo x (2 ^ num_width op))))) (ground_value a)
ground-one op a = ap ground_value (sym (rolls-One op a)) ∙ ground_value-roll (One op a) ∙ value_one (λ x. pos (num_unary op (modulo x (2 ^ num_width op)))) a

pub ground-two : (op : NumOp) (a b : Term) → ground_value (term.Two op a b) ≡ option_and_then (λ p. bounded (pos (unwrap_or (num_binary op (modulo p.0 (2 ^ num_width op)) (modulo p.1 (2 ^ num_width op))) 0))) (both (ground_value a) (ground_value b))
ground-two op a b =
    ap ground_value (sym (rolls-Two op a b)) ∙ ground_value-roll (Two op a b)
    ∙ value_two (λ x y. pos (unwrap_or (num_binary op (modulo x (2 ^ num_width op)) (modulo y (2 ^ num_width op))) 0)) a b

pub ground-low : (k : ℕ) (a : Term) → ground_value (term.Low k a) ≡ option_and_then (λ x. bounded (pos (modulo x (2 ^ k)))) (ground_value a)
ground-low k a = ap ground_value (sym (rolls-Low k a)) ∙ ground_value-roll (Low k a) ∙ value_one (λ x. pos (modulo x (2 ^ k))) a

pub ground-sext : (k n : ℕ) (a : Term) → ground_value (term.Sext k n a) ≡ option_and_then (λ x. bounded (pos (sign_extended k n (modulo x (2 ^ k))))) (ground_value a)
ground-sext k n a = ap ground_value (sym (rolls-Sext k n a)) ∙ ground_value-roll (Sext k n a) ∙ value_one (λ x. pos (sign_extended k n (modulo x (2 ^ k)))) a

pub ground-sgn : (n : ℕ) (a : Term) → ground_value (term.Sgn n a) ≡ option_and_then (λ x. bounded (signed n (modulo x (2 ^ n)))) (ground_value a)
ground-sgn n a = ap ground_value (sym (rolls-Sgn n a)) ∙ ground_value-roll (Sgn n a) ∙ value_one (λ x. signed n (modulo x (2 ^ n))) a

-- a small number is kept as it is
pub stored : (x : ℤ) → unsigned_abs x < 2 ^ 120 → to_z w128 (of_z w128 x) ≡ x
stored x h = to_z-of_z w128 x (fits_signed_from_abs w128 x (omega arith))

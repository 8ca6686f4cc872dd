-- The rules of equality and order but for rewriting and linear arithmetic: when a conclusion c follows from premises.
use Rattle.std.specs.Prelude.{ℤ, pos, ◌+ℤ◌, ◌-ℤ◌, ◌*ℤ◌, Bool, ◌&&◌, int_lt, int_le, if◌then◌else◌, Option, Some, None}
use Rattle.std.specs.Option.{option_map, option_and_then}
use Rattle.std.specs.Ordering.{int_eq}
use Rattle.term_trees.specs.declared.term.Term.{Term}
use Rattle.term_trees.specs.declared.term.Formula.{Formula}
use Rattle.term_trees.specs.Ground.{both, ground_truth}
use Rattle.term_trees.specs.Same.{passes, same}
use Rattle.term_trees.specs.Views.{num_of, product_of, eq_of, le_of, lt_of, not_of, or_of}

-- whether there are two sides, and they are a and b
abbrev pub are_sides : Option (Term × Term) → Term → Term → Bool
are_sides o a b = passes o (λ p. same a p.0 && same b p.1)

-- `refl`: c is `(= a a)`.
abbrev pub is_refl : Formula → Bool
is_refl c = passes (eq_of c) (λ s. same s.0 s.1)

-- `eval`: c has no variables and no places, each of its subterms is below 2 ^ 120 in absolute value, and it is true.
abbrev pub is_eval : Formula → Bool
is_eval c = passes (ground_truth c) (λ b. b)

-- whether f is `(or (= a b) (< b a))`
abbrev pub is_equal_or_above : Formula → Term → Term → Bool
is_equal_or_above f a b = passes (or_of f) (λ q. are_sides (eq_of q.0) a b && are_sides (lt_of q.1) b a)

-- `order`: c is `(or (< a b) (or (= a b) (< b a)))`.
abbrev pub is_order : Formula → Bool
is_order c = passes (or_of c) (λ p. passes (lt_of p.0) (λ s. is_equal_or_above p.1 s.0 s.1))

-- `notle`: from `(not (<= a b))` to `(< b a)`.
abbrev pub is_notle : Formula → Formula → Bool
is_notle p c = passes (not_of p) (λ f. passes (le_of f) (λ s. are_sides (lt_of c) s.1 s.0))

-- `notlt`: from `(not (< a b))` to `(<= b a)`.
abbrev pub is_notlt : Formula → Formula → Bool
is_notlt p c = passes (not_of p) (λ f. passes (lt_of f) (λ s. are_sides (le_of c) s.1 s.0))

-- whether a term is the number 0
abbrev pub is_zero : Term → Bool
is_zero t = passes (num_of t) (λ n. int_eq n (pos 0))

-- the term a of `(<= 0 a)`
abbrev pub nonnegative_of : Formula → Option Term
nonnegative_of f = option_and_then (λ s. if is_zero s.0 then Some s.1 else None) (le_of f)

-- `mulpos`: from `(<= 0 a)` and `(<= 0 b)` to `(<= 0 (* a b))`.
abbrev pub is_mulpos : Formula → Formula → Formula → Bool
is_mulpos p q c = passes (both (nonnegative_of p) (nonnegative_of q)) (λ s. passes (nonnegative_of c) (λ t. are_sides (product_of t) s.0 s.1))

-- ---- quotients

-- both values, where there are both
abbrev pub together : {X Y : Type 0} → Option X → Option Y → Option (X × Y)
together (Some x) (Some y) = Some (x, y)
together _ _ = None

-- the number d and the term a of `(* d a)`
abbrev pub multiple_of : Term → Option (ℤ × Term)
multiple_of t = option_and_then (λ p. option_map (λ d. (d, p.1)) (num_of p.0)) (product_of t)

-- d, a and the number n of `(<= (* d a) n)`
abbrev pub upper_of : Formula → Option ((ℤ × Term) × ℤ)
upper_of f = option_and_then (λ s. together (multiple_of s.0) (num_of s.1)) (le_of f)

-- the number n, d and a of `(<= n (* d a))`
abbrev pub lower_of : Formula → Option (ℤ × (ℤ × Term))
lower_of f = option_and_then (λ s. together (num_of s.0) (multiple_of s.1)) (le_of f)

-- q is the greatest number with d * q at most n, for d at least 1
abbrev pub is_greatest : ℤ → ℤ → ℤ → Bool
is_greatest d n q = int_le (d *ℤ q) n && int_lt n (d *ℤ (q +ℤ pos 1))

-- q is the least number with d * q at least n, for d at least 1
abbrev pub is_least : ℤ → ℤ → ℤ → Bool
is_least d n q = int_lt (d *ℤ (q -ℤ pos 1)) n && int_le n (d *ℤ q)

-- `floor`: from `(<= (* d a) n)`, for numbers d at least 1 and n, to `(<= a q)`, q the greatest number with dq at most n.
abbrev pub is_floor : Formula → Formula → Bool
is_floor p c =
    passes (together (upper_of p) (le_of c)) (λ u. passes (num_of u.1.1) (λ q. same u.0.0.1 u.1.0 && (int_le (pos 1) u.0.0.0 && is_greatest u.0.0.0 u.0.1 q)))

-- `ceil`: from `(<= n (* d a))`, for such numbers, to `(<= q a)`, q the least number with dq at least n.
abbrev pub is_ceil : Formula → Formula → Bool
is_ceil p c =
    passes (together (lower_of p) (le_of c)) (λ u. passes (num_of u.1.0) (λ q. same u.0.1.1 u.1.1 && (int_le (pos 1) u.0.1.0 && is_least u.0.1.0 u.0.0 q)))

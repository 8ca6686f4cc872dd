-- Linear arithmetic: a conclusion that is the sum of premises, each times a number, and a constant.
use Rattle.std.specs.Prelude.{ℤ, pos, negsuc, Bool, not, ◌&&◌, ◌||◌, int_le, if◌then◌else◌, is_some, List, [], ◌∷◌, Option, Some, None}
use Rattle.std.specs.Option.{option_map, option_and_then}
use Rattle.std.specs.List.{list_all}
use Rattle.std.specs.Ordering.{int_eq}
use Rattle.term_logic.specs.declared.term.Term.{Term}
use Rattle.term_logic.specs.declared.term.Term.TheVariants as term
use Rattle.term_logic.specs.declared.term.Formula.{Formula}
use Rattle.term_logic.specs.Normal.{Form, form, on_the_way, fits, is_constant}
use Rattle.term_logic.specs.Same.{passes}
use Rattle.term_logic.specs.Views.{is_false, eq_of, le_of, lt_of}
use Rattle.equality_rules.specs.Equality.{together}

-- b - a, for the sides a and b
abbrev pub difference : Term × Term → Term
difference s = term.Sub s.1 s.0

-- b - a - 1
abbrev pub strict_difference : Term × Term → Term
strict_difference s = term.Sub (difference s) (term.Num (pos 1))

-- the first, where it is there, and else the second
abbrev pub first_of : {X : Type 0} → Option X → Option X → Option X
first_of (Some x) o = Some x
first_of None o = o

-- The term that a formula says to be 0, an equation, or to be at least 0: b - a for `(= a b)` and `(<= a b)`, and
-- b - a - 1 for `(< a b)`. No other formula says so of a term.
abbrev pub claimed_term : Formula → Option Term
claimed_term f = first_of (option_map difference (eq_of f)) (first_of (option_map difference (le_of f)) (option_map strict_difference (lt_of f)))

-- The same for a conclusion, where `false` says of -1 that it is at least 0.
abbrev pub concluded_term : Formula → Option Term
concluded_term c = if is_false c then Some (term.Num (negsuc 0)) else claimed_term c

-- Whether a formula is an equation.
abbrev pub is_equation : Formula → Bool
is_equation f = is_some (eq_of f)

-- The term of a premise that may have the number k: that of an inequality isn't negative.
abbrev pub weighed_term : Formula → ℤ → Option Term
weighed_term f k = if int_le (pos 0) k || is_equation f then claimed_term f else None

-- The premises' terms, each with its number. There is one number for each premise.
abbrev pub weighted : List Formula → List ℤ → Option (List (ℤ × Term))
weighted [] [] = Some []
weighted (f ∷ fs) (k ∷ ks) =
    option_and_then (λ t. option_map (λ ps. (k, t) ∷ ps) (weighted fs ks)) (weighed_term f k)
weighted _ _ = None

-- a term, and then each term times its number, in their order
abbrev pub sum_after : Term → List (ℤ × Term) → Term
sum_after s [] = s
sum_after s (p ∷ ps) = sum_after (term.Add s (term.Mul (term.Num p.0) p.1)) ps

-- The sum of the terms, each times its number.
abbrev pub weighted_sum : List (ℤ × Term) → Term
weighted_sum ps = sum_after (term.Num (pos 0)) ps

-- Whether the term has a normal form: all numbers on the way, those of the sum's products and partial sums among them,
-- are below 2 ^ 96 in absolute value.
unfoldable pub is_bounded : Term → Bool
is_bounded t = list_all (λ u. fits (form u)) (on_the_way t)

-- whether a form has no atoms left, and a constant that isn't negative, or is 0
abbrev pub is_remainder : Bool → Form → Bool
is_remainder none f = is_constant f && (if none then int_eq f.constant (pos 0) else int_le (pos 0) f.constant)

-- whether a term is the sum of the terms, each times its number, and a constant that isn't negative, or is 0
abbrev pub is_sum : Bool → Term → List (ℤ × Term) → Bool
is_sum none t ps = (is_bounded t && is_bounded (weighted_sum ps)) && is_remainder none (form (term.Sub t (weighted_sum ps)))

-- `linear`: the conclusion's term is the sum of the premises' terms, each times its number, and a constant that isn't
-- negative. For an equation all premises are equations, and the constant is 0.
abbrev pub is_linear : List Formula → List ℤ → Formula → Bool
is_linear fs ks c =
    passes (together (concluded_term c) (weighted fs ks)) (λ p.
    (not (is_equation c) || list_all is_equation fs) && is_sum (is_equation c) p.0 p.1)

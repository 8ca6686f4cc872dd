-- Whether premises and a conclusion are those of a row: the width and the terms are read off the conclusion.
use Rattle.std.specs.Prelude.{ℕ, ◌-◌, ◌^◌, ℤ, pos, int_le, Bool, true, false, ◌&&◌, ◌||◌, ◌==◌, if◌then◌else◌, List, [], ◌∷◌, Option, Some, None}
use Rattle.std.specs.Option.{option_map, option_and_then}
use Rattle.std.specs.List.{list_any, range_with_len}
use Rattle.wasm_values.specs.declared.number.ValType.{ValType}
use Rattle.wasm_values.specs.declared.number.ValType.TheVariants.{I32, I64}
use Rattle.wasm_values.specs.declared.number.IntOp.{IntOp}
use Rattle.wasm_values.specs.declared.number.NumOp.{NumOp}
use Rattle.wasm_values.specs.declared.number.NumOp.TheVariants.{W32, W64}
use Rattle.wasm_values.specs.Operators.{width_of}
use Rattle.term_trees.specs.declared.term.Term.{Term, Term-F, out-Term}
use Rattle.term_trees.specs.declared.term.Term.TheOpen as layer
use Rattle.term_trees.specs.declared.term.Term.TheVariants as term
use Rattle.term_trees.specs.declared.term.Formula.{Formula}
use Rattle.term_trees.specs.Same.{passes, same_formula}
use Rattle.term_trees.specs.Terms.{is_low_width, is_sext_pair}
use Rattle.term_trees.specs.Views.{num_of, one_of, two_of, low_of, sext_of, sgn_of, eq_of, le_of, lt_of, and_of, or_of}
use Rattle.integer_rules.specs.declared.rule.IntegerRule.{IntegerRule}
use Rattle.integer_rules.specs.declared.rule.IntegerRule.TheVariants as rule
use Rattle.integer_rules.specs.Rows.{Row, greatest, add_row, addwrap_row, sub_row, subwrap_row, mul_row, divu_row, divs_row, unsigned_claim, signed_claim, test_row, zero_row, tests_row, sgn_row, range_row, limit, shift_as, shift_row, mask_row, changed, changed_row, low_row, sext_row}

-- Whether two lists have the same formulas, one after another.
abbrev pub same_formulas : List Formula → List Formula → Bool
same_formulas [] [] = true
same_formulas (f ∷ fs) (g ∷ gs) = same_formula f g && same_formulas fs gs
same_formulas _ _ = false

-- Whether the premises and the conclusion are those of the row.
abbrev pub fits_row : Row → List Formula → Formula → Bool
fits_row r premises c = same_formula r.conclusion c && same_formulas r.premises premises

-- ---- what is read off a conclusion

-- The width and the name of an operator that there is at both widths.
abbrev pub sized : NumOp → Option (ValType × IntOp)
sized (W32 o) = Some (I32, o)
sized (W64 o) = Some (I64, o)
sized _ = None

-- The width, the name and the operands of an operator with two.
abbrev pub applied : Term → Option (ValType × IntOp × Term × Term)
applied t = option_and_then (λ p. option_map (λ o. (o.0, o.1, p.1, p.2)) (sized p.0)) (two_of t)

-- The left side of an equation.
abbrev pub left_of : Formula → Option Term
left_of f = option_map (λ p. p.0) (eq_of f)

-- The second part of the second part of a disjunction of conjunctions.
abbrev pub last_of : Formula → Option Formula
last_of f = option_map (λ p. p.1) (option_and_then (λ p. and_of p.1) (or_of f))

-- The operator on the left of an equation.
abbrev pub equated : Formula → Option (ValType × IntOp × Term × Term)
equated f = option_and_then applied (left_of f)

-- The right side of an equation.
abbrev pub right_of : Formula → Option Term
right_of f = option_map (λ p. p.1) (eq_of f)

-- The first part of a conjunction.
abbrev pub first_of : Formula → Option Formula
first_of f = option_map (λ p. p.0) (and_of f)

-- The test that a choice speaks of first.
abbrev pub test_in : Formula → Option Term
test_in f = option_and_then left_of (option_map (λ p. p.0) (option_and_then (λ p. and_of p.0) (or_of f)))

-- The remainder that the last part of a division speaks of.
abbrev pub remainder_in : Formula → Option Term
remainder_in f = option_map (λ p. p.0) (option_and_then lt_of (option_map (λ p. p.1) (option_and_then (λ p. and_of p.1) (and_of f))))

-- The width of so many bits.
abbrev pub width_with : ℕ → Option ValType
width_with n = if n == 32 then Some I32 else (if n == 64 then Some I64 else None)

-- Whether the width's numbers have k among them.
abbrev pub is_among : ValType → ℤ → Bool
is_among v k = int_le (pos 0) k && int_le k (greatest v)

-- The greatest value that a term may have, by its outermost form.
abbrev pub limit_here : Term-F Term → Option ℤ
limit_here (layer.One o a) = Some (pos (limit o))
limit_here (layer.Two o a b) = Some (pos (limit o))
limit_here (layer.Low k a) = if is_low_width k then Some (pos (2 ^ k - 1)) else None
limit_here (layer.Sext k n a) = if is_sext_pair k n then Some (pos (2 ^ n - 1)) else None
limit_here _ = None

-- The greatest value that an operator, a `low` or a `sext` term may have.
abbrev pub limit_of : Term → Option ℤ
limit_of t = limit_here (out-Term t)

-- ---- each rule

-- The term of a range is what its first part bounds from below.
abbrev pub fits_range : List Formula → Formula → Bool
fits_range premises c =
    passes (option_and_then le_of (first_of c)) (λ p. passes (limit_of p.1) (λ m. fits_row (range_row p.1 m) premises c))

-- `add`, with the width and the operands on the left of the equation
abbrev pub fits_add : List Formula → Formula → Bool
fits_add premises c = passes (equated c) (λ x. fits_row (add_row x.0 x.2 x.3) premises c)

-- `addwrap`, with the same
abbrev pub fits_addwrap : List Formula → Formula → Bool
fits_addwrap premises c = passes (equated c) (λ x. fits_row (addwrap_row x.0 x.2 x.3) premises c)

-- `sub`, with the same
abbrev pub fits_sub : List Formula → Formula → Bool
fits_sub premises c = passes (equated c) (λ x. fits_row (sub_row x.0 x.2 x.3) premises c)

-- `subwrap`, with the same
abbrev pub fits_subwrap : List Formula → Formula → Bool
fits_subwrap premises c = passes (equated c) (λ x. fits_row (subwrap_row x.0 x.2 x.3) premises c)

-- `mul`, with the same
abbrev pub fits_mul : List Formula → Formula → Bool
fits_mul premises c = passes (equated c) (λ x. fits_row (mul_row x.0 x.2 x.3) premises c)

-- `divu`, with the width and the operands of the remainder in the last part
abbrev pub fits_divu : List Formula → Formula → Bool
fits_divu premises c = passes (option_and_then applied (remainder_in c)) (λ x. fits_row (divu_row x.0 x.2 x.3) premises c)

-- `divs`, with the width and the operands on the left of the first equation
abbrev pub fits_divs : List Formula → Formula → Bool
fits_divs premises c = passes (option_and_then equated (first_of c)) (λ x. fits_row (divs_row x.0 x.2 x.3) premises c)

-- `test` with the test t for zero
abbrev pub fits_zero : Term → List Formula → Formula → Bool
fits_zero t premises c = passes (one_of t) (λ x. passes (sized x.0) (λ o. fits_row (zero_row o.0 x.1) premises c))

-- `test` with the comparison t
abbrev pub fits_compared : Term → List Formula → Formula → Bool
fits_compared t premises c =
    passes (applied t) (λ x. passes (unsigned_claim x.1 x.2 x.3) (λ f. fits_row (test_row x.0 x.1 x.2 x.3 f) premises c))

-- `test`, with the test that the choice speaks of first
abbrev pub fits_test : List Formula → Formula → Bool
fits_test premises c = passes (test_in c) (λ t. fits_zero t premises c || fits_compared t premises c)

-- `tests`, with the comparison that the choice speaks of first
abbrev pub fits_tests : List Formula → Formula → Bool
fits_tests premises c =
    passes (option_and_then applied (test_in c)) (λ x. passes (signed_claim x.1 (term.Sgn (width_of x.0) x.2) (term.Sgn (width_of x.0) x.3)) (λ f. fits_row (tests_row x.0 x.1 x.2 x.3 f) premises c))

-- `sgn`, with the width and the term of the signed reading in the last part
abbrev pub fits_sgn : List Formula → Formula → Bool
fits_sgn premises c =
    passes (option_and_then sgn_of (option_and_then left_of (last_of c))) (λ x. passes (width_with x.0) (λ v. fits_row (sgn_row v x.1) premises c))

-- `shift`, with the shift on the left of the equation, by a number that the width has
abbrev pub fits_shift : List Formula → Formula → Bool
fits_shift premises c =
    passes (equated c) (λ x. passes (shift_as x.1) (λ r. passes (num_of x.3) (λ k. is_among x.0 k && fits_row (shift_row x.0 x.1 r x.2 k) premises c)))

-- `mask` at a term, with some number of low digits from 1 to N - 1
unfoldable pub fits_some_mask : ValType → Term → List Formula → Formula → Bool
fits_some_mask v a premises c = list_any (λ k. fits_row (mask_row v a k) premises c) (range_with_len 1 (width_of v - 1))

-- `mask`, at the term that the operator on the right of the equation is applied to
abbrev pub fits_mask : List Formula → Formula → Bool
fits_mask premises c = passes (option_and_then applied (right_of c)) (λ x. fits_some_mask x.0 x.2 premises c)

-- `widen` with a change between the widths
abbrev pub fits_changed : List Formula → Formula → Bool
fits_changed premises c =
    passes (option_and_then one_of (left_of c)) (λ x. passes (changed x.0 x.1) (λ t. fits_row (changed_row x.0 x.1 t) premises c))

-- `widen` with the low digits of a number of so many bits
abbrev pub fits_low : List Formula → Formula → Bool
fits_low premises c = passes (option_and_then low_of (left_of c)) (λ x. is_low_width x.0 && fits_row (low_row x.0 x.1) premises c)

-- `widen` with a sign extension
abbrev pub fits_sext : List Formula → Formula → Bool
fits_sext premises c =
    passes (option_and_then sext_of (option_and_then left_of (last_of c))) (λ x. is_sext_pair x.0 x.1 && fits_row (sext_row x.0 x.1 x.2) premises c)

-- `widen`: one of these three
abbrev pub fits_widen : List Formula → Formula → Bool
fits_widen premises c = fits_changed premises c || (fits_low premises c || fits_sext premises c)

-- Whether the premises and the conclusion are those of a rule of machine integers.
unfoldable pub fits : IntegerRule → List Formula → Formula → Bool
fits rule.Range premises c = fits_range premises c
fits rule.Add premises c = fits_add premises c
fits rule.Addwrap premises c = fits_addwrap premises c
fits rule.Sub premises c = fits_sub premises c
fits rule.Subwrap premises c = fits_subwrap premises c
fits rule.Mul premises c = fits_mul premises c
fits rule.Divu premises c = fits_divu premises c
fits rule.Divs premises c = fits_divs premises c
fits rule.Test premises c = fits_test premises c
fits rule.Tests premises c = fits_tests premises c
fits rule.Sgn premises c = fits_sgn premises c
fits rule.Shift premises c = fits_shift premises c
fits rule.Mask premises c = fits_mask premises c
fits rule.Widen premises c = fits_widen premises c

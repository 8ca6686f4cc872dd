-- The rows of the rules of machine integers: at each width and at all terms, the premises and what follows from them.
-- In the comments N is the number of bits of the width, and M the greatest number of so many bits.
use Rattle.std.specs.Prelude.{ℕ, ◌-◌, ◌^◌, ℤ, pos, Bool, true, false, if◌then◌else◌, List, [], ◌∷◌, Option, Some, None}
use Rattle.wasm_values.specs.declared.number.ValType.{ValType}
use Rattle.wasm_values.specs.declared.number.ValType.TheVariants.{I32, I64}
use Rattle.wasm_values.specs.declared.number.IntOp.{IntOp}
use Rattle.wasm_values.specs.declared.number.IntOp.TheVariants as op
use Rattle.wasm_values.specs.declared.number.NumOp.{NumOp}
use Rattle.wasm_values.specs.declared.number.NumOp.TheVariants.{W32, W64, Wrap, ExtendS, ExtendU}
use Rattle.wasm_values.specs.Operators.{width_of, is_test}
use Rattle.term_logic.specs.declared.term.Term.{Term}
use Rattle.term_logic.specs.declared.term.Term.TheVariants as term
use Rattle.term_logic.specs.declared.term.Formula.{Formula}
use Rattle.term_logic.specs.declared.term.Formula.TheVariants as formula
use Rattle.term_logic.specs.Meaning.{modulo}

-- A row at its width and terms: the premises, in the order of the references, and the conclusion.
pub record Row : Type 0 where
  pub premises : List Formula
  pub conclusion : Formula

-- ---- operators, numbers and bounds

-- The operator at a width.
abbrev pub operator : ValType → IntOp → NumOp
operator I32 o = W32 o
operator I64 o = W64 o

-- M, as a whole number.
abbrev pub greatest : ValType → ℤ
greatest v = pos (2 ^ width_of v - 1)

-- 2 ^ N, as a whole number.
abbrev pub modulus : ValType → ℤ
modulus v = pos (2 ^ width_of v)

-- 2 ^ (N - 1), the least number whose signed reading is negative.
abbrev pub half : ValType → ℤ
half v = pos (2 ^ (width_of v - 1))

-- 2 ^ (N - 1) - 1, the greatest signed reading.
abbrev pub greatest_signed : ValType → ℤ
greatest_signed v = pos (2 ^ (width_of v - 1) - 1)

-- `(<= k a)`, k a number
abbrev pub at_least : ℤ → Term → Formula
at_least k a = formula.Le (term.Num k) a

-- `(<= a k)`, k a number
abbrev pub at_most : Term → ℤ → Formula
at_most a k = formula.Le a (term.Num k)

-- ---- sums, differences, products and quotients

-- The sum is exact where it doesn't pass M.
abbrev pub add_row : ValType → Term → Term → Row
add_row v a b = record {
  premises = at_least (pos 0) a ∷ at_least (pos 0) b ∷ at_most (term.Add a b) (greatest v) ∷ [];
  conclusion = formula.Eq (term.Two (operator v op.Add) a b) (term.Add a b);
}

-- The sum is less by 2 ^ N where it passes M.
abbrev pub addwrap_row : ValType → Term → Term → Row
addwrap_row v a b = record {
  premises = at_most a (greatest v) ∷ at_most b (greatest v) ∷ at_least (modulus v) (term.Add a b) ∷ [];
  conclusion = formula.Eq (term.Two (operator v op.Add) a b) (term.Sub (term.Add a b) (term.Num (modulus v)));
}

-- The difference is exact where it isn't negative.
abbrev pub sub_row : ValType → Term → Term → Row
sub_row v a b = record {
  premises = at_least (pos 0) b ∷ formula.Le b a ∷ at_most a (greatest v) ∷ [];
  conclusion = formula.Eq (term.Two (operator v op.Sub) a b) (term.Sub a b);
}

-- The difference is greater by 2 ^ N where it is negative.
abbrev pub subwrap_row : ValType → Term → Term → Row
subwrap_row v a b = record {
  premises = at_least (pos 0) a ∷ formula.Lt a b ∷ at_most b (greatest v) ∷ [];
  conclusion = formula.Eq (term.Two (operator v op.Sub) a b) (term.Add (term.Sub a b) (term.Num (modulus v)));
}

-- The product is exact where it doesn't pass M.
abbrev pub mul_row : ValType → Term → Term → Row
mul_row v a b = record {
  premises = at_least (pos 0) a ∷ at_least (pos 0) b ∷ at_most (term.Mul a b) (greatest v) ∷ [];
  conclusion = formula.Eq (term.Two (operator v op.Mul) a b) (term.Mul a b);
}

-- The remainder of a by b lies between 0 and b.
abbrev pub remainder_bounds : ValType → Term → Term → Formula
remainder_bounds v a b =
    let r = term.Two (operator v op.RemU) a b in
    formula.And (at_least (pos 0) r) (formula.Lt r b)

-- The quotient and the remainder of a by b.
abbrev pub divu_row : ValType → Term → Term → Row
divu_row v a b =
    let q = term.Two (operator v op.DivU) a b in
    let r = term.Two (operator v op.RemU) a b in
    record {
      premises = at_least (pos 0) a ∷ at_most a (greatest v) ∷ at_least (pos 1) b ∷ at_most b (greatest v) ∷ [];
      conclusion = formula.And (formula.Eq a (term.Add (term.Mul b q) r)) (remainder_bounds v a b);
    }

-- Signed and unsigned division agree on numbers that read the same.
abbrev pub divs_row : ValType → Term → Term → Row
divs_row v a b = record {
  premises = at_least (pos 0) a ∷ at_most a (greatest_signed v) ∷ at_least (pos 1) b ∷ at_most b (greatest_signed v) ∷ [];
  conclusion = formula.And (formula.Eq (term.Two (operator v op.DivS) a b) (term.Two (operator v op.DivU) a b)) (formula.Eq (term.Two (operator v op.RemS) a b) (term.Two (operator v op.RemU) a b));
}

-- ---- comparisons

-- What a comparison that knows no sign says of its operands.
abbrev pub unsigned_claim : IntOp → Term → Term → Option Formula
unsigned_claim op.Eq a b = Some (formula.Eq a b)
unsigned_claim op.Ne a b = Some (formula.Not (formula.Eq a b))
unsigned_claim op.LtU a b = Some (formula.Lt a b)
unsigned_claim op.GtU a b = Some (formula.Lt b a)
unsigned_claim op.LeU a b = Some (formula.Le a b)
unsigned_claim op.GeU a b = Some (formula.Le b a)
unsigned_claim _ a b = None

-- What a comparison of signed readings says of these.
abbrev pub signed_claim : IntOp → Term → Term → Option Formula
signed_claim op.LtS a b = Some (formula.Lt a b)
signed_claim op.GtS a b = Some (formula.Lt b a)
signed_claim op.LeS a b = Some (formula.Le a b)
signed_claim op.GeS a b = Some (formula.Le b a)
signed_claim _ a b = None

-- The test t is 1 where the claim is true, and else 0.
abbrev pub choice : Term → Formula → Formula
choice t f = formula.Or (formula.And (formula.Eq t (term.Num (pos 1))) f) (formula.And (formula.Eq t (term.Num (pos 0))) (formula.Not f))

-- A comparison that knows no sign, by what it says of its operands.
abbrev pub test_row : ValType → IntOp → Term → Term → Formula → Row
test_row v o a b f = record {
  premises = at_least (pos 0) a ∷ at_most a (greatest v) ∷ at_least (pos 0) b ∷ at_most b (greatest v) ∷ [];
  conclusion = choice (term.Two (operator v o) a b) f;
}

-- The test for zero.
abbrev pub zero_row : ValType → Term → Row
zero_row v a = record {
  premises = at_least (pos 0) a ∷ at_most a (greatest v) ∷ [];
  conclusion = choice (term.One (operator v op.Eqz) a) (formula.Eq a (term.Num (pos 0)));
}

-- A comparison of signed readings, by what it says of these.
abbrev pub tests_row : ValType → IntOp → Term → Term → Formula → Row
tests_row v o a b f = record { premises = []; conclusion = choice (term.Two (operator v o) a b) f }

-- ---- readings of numbers

-- The signed reading of a number of N bits: the number itself below 2 ^ (N - 1), and from there on less by 2 ^ N.
abbrev pub sgn_row : ValType → Term → Row
sgn_row v a =
    let s = term.Sgn (width_of v) a in
    record {
      premises = at_least (pos 0) a ∷ at_most a (greatest v) ∷ [];
      conclusion = formula.Or
          (formula.And (at_most a (greatest_signed v)) (formula.Eq s a))
          (formula.And (at_least (half v) a) (formula.Eq s (term.Sub a (term.Num (modulus v)))));
    }

-- A term whose value lies between 0 and m.
abbrev pub range_row : Term → ℤ → Row
range_row t m = record { premises = []; conclusion = formula.And (at_least (pos 0) t) (at_most t m) }

-- Whether an operator counts binary digits.
abbrev pub is_count : IntOp → Bool
is_count op.Clz = true
is_count op.Ctz = true
is_count op.Popcnt = true
is_count _ = false

-- 1 for a comparison, n for a count of digits, and else m.
abbrev pub limited : IntOp → ℕ → ℕ → ℕ
limited o n m = if is_test o then 1 else (if is_count o then n else m)

-- The greatest number that an operator may give: 1, N, or the greatest of its type.
abbrev pub limit : NumOp → ℕ
limit (W32 o) = limited o 32 (2 ^ 32 - 1)
limit (W64 o) = limited o 64 (2 ^ 64 - 1)
limit Wrap = 2 ^ 32 - 1
limit ExtendS = 2 ^ 64 - 1
limit ExtendU = 2 ^ 64 - 1

-- What a shift by a number of digits does to a number: it multiplies, or it divides.
abbrev pub shift_as : IntOp → Option IntOp
shift_as op.Shl = Some op.Mul
shift_as op.ShrU = Some op.DivU
shift_as _ = None

-- A shift by k multiplies or divides by 2 to the j, j = k modulo N.
abbrev pub shift_row : ValType → IntOp → IntOp → Term → ℤ → Row
shift_row v o r a k = record {
  premises = [];
  conclusion = formula.Eq (term.Two (operator v o) a (term.Num k)) (term.Two (operator v r) a (term.Num (pos (2 ^ modulo k (width_of v)))));
}

-- The low k digits are the remainder by 2 to the k.
abbrev pub mask_row : ValType → Term → ℕ → Row
mask_row v a k = record {
  premises = [];
  conclusion = formula.Eq (term.Two (operator v op.And) a (term.Num (pos (2 ^ k - 1)))) (term.Two (operator v op.RemU) a (term.Num (pos (2 ^ k))));
}

-- ---- changes of width

-- What a change of width gives: the low 32 digits, or the sign extension from 32 to 64 bits.
abbrev pub changed : NumOp → Term → Option Term
changed Wrap a = Some (term.Low 32 a)
changed ExtendU a = Some (term.Low 32 a)
changed ExtendS a = Some (term.Sext 32 64 a)
changed _ a = None

-- A change of width, by the term t that it gives.
abbrev pub changed_row : NumOp → Term → Term → Row
changed_row o a t = record { premises = []; conclusion = formula.Eq (term.One o a) t }

-- a is a number of k bits
abbrev pub has_bits : ℕ → Term → List Formula
has_bits k a = at_least (pos 0) a ∷ at_most a (pos (2 ^ k - 1)) ∷ []

-- The low k digits of a number of k bits are the number.
abbrev pub low_row : ℕ → Term → Row
low_row k a = record { premises = has_bits k a; conclusion = formula.Eq (term.Low k a) a }

-- The sign extension from k to n bits of a number of k bits: the number itself below 2 ^ (k - 1), and from there on
-- greater by 2 ^ n - 2 ^ k.
abbrev pub sext_row : ℕ → ℕ → Term → Row
sext_row k n a =
    let s = term.Sext k n a in
    record {
      premises = has_bits k a;
      conclusion = formula.Or
          (formula.And (at_most a (pos (2 ^ (k - 1) - 1))) (formula.Eq s a))
          (formula.And (at_least (pos (2 ^ (k - 1))) a) (formula.Eq s (term.Add a (term.Num (pos (2 ^ n - 2 ^ k))))));
    }

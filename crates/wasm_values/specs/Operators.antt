-- What the integer operators of WebAssembly give, in whole numbers (WebAssembly Core Specification 1.0, section 4.3.2).
-- A value of n bits is a whole number from 0 to 2 ^ n - 1. The definitions are total: at greater numbers they say nothing of the standard.
use Rattle.std.specs.Prelude.{◌≡◌, ℕ, zero, suc, ◌+◌, ◌-◌, ◌*◌, ◌/◌, ◌%◌, ◌^◌, Bool, true, false, ◌&&◌, if◌then◌else◌, ◌==◌, nat_lt, nat_le, ◌⊎◌, ℤ, pos, negsuc, neg_ℤ, ◌-ℤ◌, int_lt, int_le, int_div, int_rem, bit_and, bit_or, bit_xor, Option, Some, None, List, [], ◌∷◌}
use Rattle.std.specs.Int.{int_shr}
use Rattle.wasm_values.specs.declared.number.IntOp.{IntOp}
use Rattle.wasm_values.specs.declared.number.IntOp.TheVariants.{Eqz, Eq, Ne, LtS, LtU, GtS, GtU, LeS, LeU, GeS, GeU, Clz, Ctz, Popcnt, Add, Sub, Mul, DivS, DivU, RemS, RemU, And, Or, Xor, Shl, ShrS, ShrU, Rotl, Rotr}
use Rattle.wasm_values.specs.declared.number.NumOp.{NumOp}
use Rattle.wasm_values.specs.declared.number.NumOp.TheVariants.{W32, W64, Wrap, ExtendS, ExtendU}
use Rattle.wasm_values.specs.declared.number.ValType.{ValType}
use Rattle.wasm_values.specs.declared.number.ValType.TheVariants.{I32 as I32_type, I64 as I64_type}
use Rattle.wasm_values.specs.declared.number.Val.{Val}
use Rattle.wasm_values.specs.declared.number.Val.TheVariants.{I32, I64}

-- ---- widths and signs

-- Values have 32 or 64 bits (2.3.1).
abbrev pub IsWidth : ℕ → Type 0
IsWidth n = (n ≡ 32) ⊎ (n ≡ 64)

-- The signed reading of a value of n bits: from 2 ^ (n - 1) on it is less by 2 ^ n (4.3.2, 'Sign Interpretation').
abbrev pub signed : ℕ → ℕ → ℤ
signed n a = if nat_lt a (2 ^ (n - 1)) then pos a else (pos a -ℤ pos (2 ^ n))

-- The value of n bits whose signed reading is z: a negative z is greater by 2 ^ n (4.3.2, the inverse of the signed reading).
-- `negsuc k` is the whole number -(k + 1).
abbrev pub unsigned : ℕ → ℤ → ℕ
unsigned n (pos k) = k
unsigned n (negsuc k) = 2 ^ n - (k + 1)

-- A test gives 1 where it holds and 0 where it doesn't (4.3.2, 'Boolean Interpretation').
abbrev pub truth : Bool → ℕ
truth b = if b then 1 else 0

-- ---- counts of binary digits

-- How many of the positions from 0 to n - 1 pass a test. Position k is that of the digit worth 2 ^ k.
unfoldable pub count_positions : ℕ → (ℕ → Bool) → ℕ
count_positions zero passes = 0
count_positions (suc n) passes = count_positions n passes + truth (passes n)

-- How many of n digits are zeros above all ones: no digit from the position on is set (4.3.2, iclz).
abbrev pub leading_zeros_of : ℕ → ℕ → ℕ
leading_zeros_of n a = count_positions n (λ k. a / 2 ^ k == 0)

-- How many of n digits are zeros below all ones: no digit up to the position is set (4.3.2, ictz).
abbrev pub trailing_zeros_of : ℕ → ℕ → ℕ
trailing_zeros_of n a = count_positions n (λ k. a % 2 ^ (k + 1) == 0)

-- How many of n digits are ones (4.3.2, ipopcnt).
abbrev pub ones_of : ℕ → ℕ → ℕ
ones_of n a = count_positions n (λ k. (a / 2 ^ k) % 2 == 1)

-- ---- operators of either width

-- How many operands an operator takes (2.4.1: one for tests and unary operators, two for comparisons and binary operators).
abbrev pub operands : IntOp → ℕ
operands Eqz = 1
operands Clz = 1
operands Ctz = 1
operands Popcnt = 1
operands _ = 2

-- What an operator of one operand gives at a value of n bits (4.3.2, ieqz, iclz, ictz, ipopcnt).
-- Of operators of two operands it says nothing.
abbrev pub unary : ℕ → IntOp → ℕ → ℕ
unary n Eqz a = truth (a == 0)
unary n Clz a = leading_zeros_of n a
unary n Ctz a = trailing_zeros_of n a
unary n Popcnt a = ones_of n a
unary n _ a = 0

-- The signed quotient, rounded towards zero. There is none by 0, and none of -2 ^ (n - 1) by -1, whose quotient has no signed reading (4.3.2, idiv_s).
abbrev pub quotient : ℕ → ℕ → ℕ → Option ℕ
quotient n a b =
    if b == 0 then None else
    (if (a == 2 ^ (n - 1)) && (b == 2 ^ n - 1) then None else Some (unsigned n (int_div (signed n a) (signed n b))))

-- The remainder of that quotient, with the sign of the dividend. There is none by 0 (4.3.2, irem_s).
abbrev pub remainder : ℕ → ℕ → ℕ → Option ℕ
remainder n a b = if b == 0 then None else Some (unsigned n (int_rem (signed n a) (signed n b)))

-- What an operator of two operands gives at values of n bits: `None` where it is undefined (4.3.2, iadd to ige_s).
-- Sums, differences and products are taken modulo 2 ^ n, and the counts of shifts and rotations modulo n.
-- A shift to the right by k divides by 2 ^ k and rounds down, the signed one at the signed readings.
-- A rotation by k puts the k digits that leave at one end in at the other. Of operators of one operand this says nothing.
abbrev pub binary : ℕ → IntOp → ℕ → ℕ → Option ℕ
binary n Eq a b = Some (truth (a == b))
binary n Ne a b = Some (truth (if a == b then false else true))
binary n LtS a b = Some (truth (int_lt (signed n a) (signed n b)))
binary n LtU a b = Some (truth (nat_lt a b))
binary n GtS a b = Some (truth (int_lt (signed n b) (signed n a)))
binary n GtU a b = Some (truth (nat_lt b a))
binary n LeS a b = Some (truth (int_le (signed n a) (signed n b)))
binary n LeU a b = Some (truth (nat_le a b))
binary n GeS a b = Some (truth (int_le (signed n b) (signed n a)))
binary n GeU a b = Some (truth (nat_le b a))
binary n Add a b = Some ((a + b) % 2 ^ n)
binary n Sub a b = Some ((a + 2 ^ n - b) % 2 ^ n)
binary n Mul a b = Some ((a * b) % 2 ^ n)
binary n DivS a b = quotient n a b
binary n DivU a b = if b == 0 then None else Some (a / b)
binary n RemS a b = remainder n a b
binary n RemU a b = if b == 0 then None else Some (a % b)
binary n And a b = Some (bit_and a b)
binary n Or a b = Some (bit_or a b)
binary n Xor a b = Some (bit_xor a b)
binary n Shl a b = Some ((a * 2 ^ (b % n)) % 2 ^ n)
binary n ShrS a b = Some (unsigned n (int_shr (signed n a) (b % n)))
binary n ShrU a b = Some (a / 2 ^ (b % n))
binary n Rotl a b = Some ((a * 2 ^ (b % n)) % 2 ^ n + a / 2 ^ (n - b % n))
binary n Rotr a b = Some (a / 2 ^ (b % n) + (a * 2 ^ (n - b % n)) % 2 ^ n)
binary n _ a b = None

-- Where an operator of two operands is undefined: a quotient or remainder by 0, and the signed quotient of -2 ^ (n - 1) by -1 (4.3.2).
abbrev pub IsUndefined : ℕ → IntOp → ℕ → ℕ → Type 0
IsUndefined n DivS a b = (b ≡ 0) ⊎ ((signed n a ≡ neg_ℤ (pos (2 ^ (n - 1)))) × (signed n b ≡ neg_ℤ (pos 1)))
IsUndefined n DivU a b = b ≡ 0
IsUndefined n RemS a b = b ≡ 0
IsUndefined n RemU a b = b ≡ 0
IsUndefined n _ a b = ⊥

-- ---- sign extension and bytes

-- The value of `to` bits whose signed reading is that of a value of `from` bits (4.3.4, extend_s).
abbrev pub sign_extended : ℕ → ℕ → ℕ → ℕ
sign_extended from to a = unsigned to (signed from a)

-- The number that bytes stand for, the byte of least worth first (4.3.1, 'Storage').
abbrev pub number_of_bytes : List ℕ → ℕ
number_of_bytes [] = 0
number_of_bytes (byte ∷ bytes) = byte + 256 * number_of_bytes bytes

-- The k bytes of a number modulo 256 ^ k, the byte of least worth first (4.3.1, 'Storage').
abbrev pub bytes_of_number : ℕ → ℕ → List ℕ
bytes_of_number zero a = []
bytes_of_number (suc k) a = a % 256 ∷ bytes_of_number k (a / 256)

-- ---- numeric instructions

-- The width of a numeric instruction's operands, in bits (2.4.1).
abbrev pub num_width : NumOp → ℕ
num_width (W32 op) = 32
num_width (W64 op) = 64
num_width Wrap = 64
num_width ExtendS = 32
num_width ExtendU = 32

-- How many operands a numeric instruction takes (2.4.1).
abbrev pub num_operands : NumOp → ℕ
num_operands (W32 op) = operands op
num_operands (W64 op) = operands op
num_operands Wrap = 1
num_operands ExtendS = 1
num_operands ExtendU = 1

-- What a numeric instruction of one operand gives (4.3.2; 4.3.4: wrap takes the value modulo 2 ^ 32, and extend_u keeps it).
abbrev pub num_unary : NumOp → ℕ → ℕ
num_unary (W32 op) a = unary 32 op a
num_unary (W64 op) a = unary 64 op a
num_unary Wrap a = a % 2 ^ 32
num_unary ExtendS a = sign_extended 32 64 a
num_unary ExtendU a = a

-- What a numeric instruction of two operands gives: `None` where it is undefined (4.3.2).
abbrev pub num_binary : NumOp → ℕ → ℕ → Option ℕ
num_binary (W32 op) a b = binary 32 op a b
num_binary (W64 op) a b = binary 64 op a b
num_binary _ a b = None

-- ---- values and their types

-- The type of a value (4.2.1, with 2.3.1).
abbrev pub type_of : Val → ValType
type_of (I32 a) = I32_type
type_of (I64 a) = I64_type

-- The number that a value holds.
abbrev pub number_of : Val → ℕ
number_of (I32 a) = a
number_of (I64 a) = a

-- The value of a type that holds a number.
abbrev pub value_of : ValType → ℕ → Val
value_of I32_type a = I32 a
value_of I64_type a = I64 a

-- The width of a type's values, in bits (2.3.1).
abbrev pub width_of : ValType → ℕ
width_of I32_type = 32
width_of I64_type = 64

-- Whether an operator is a test or a comparison, whose result is an i32 at either width (2.4.1).
abbrev pub is_test : IntOp → Bool
is_test Eqz = true
is_test Eq = true
is_test Ne = true
is_test LtS = true
is_test LtU = true
is_test GtS = true
is_test GtU = true
is_test LeS = true
is_test LeU = true
is_test GeS = true
is_test GeU = true
is_test _ = false

-- The type of a numeric instruction's operands (3.3.1).
abbrev pub operand_type : NumOp → ValType
operand_type (W32 op) = I32_type
operand_type (W64 op) = I64_type
operand_type Wrap = I64_type
operand_type ExtendS = I32_type
operand_type ExtendU = I32_type

-- The type of a numeric instruction's result (3.3.1).
abbrev pub result_type : NumOp → ValType
result_type (W32 op) = I32_type
result_type (W64 op) = if is_test op then I32_type else I64_type
result_type Wrap = I32_type
result_type ExtendS = I64_type
result_type ExtendU = I64_type

-- What instructions give lies in the range of its type.
use Rattle.std.proofs.Common.{◌≡◌, ℕ, zero, suc, ◌^◌, ◌<◌, ◌≤◌, List, [], ◌∷◌, IfSome, All, length, get_or, refl, subst, arith}
use Rattle.std.proofs.lemmas.List.Elements.{All-head, All-tail}
use Rattle.wasm_values.specs.declared.number.NumOp.{NumOp}
use Rattle.wasm_values.specs.declared.number.NumOp.TheVariants.{W32, W64, Wrap, ExtendS, ExtendU}
use Rattle.wasm_values.specs.declared.number.ValType.{ValType}
use Rattle.wasm_values.specs.declared.number.ValType.TheVariants.{I32, I64}
use Rattle.wasm_values.specs.Operators.{type_of, value_of, width_of, num_width, num_unary, num_binary, operand_type, result_type, number_of_bytes}
use Rattle.wasm_values.proofs.RangeLaws.{num_unary-lt, num_binary-lt, sign_extended-lt}
use Rattle.wasm_values.proofs.ByteLaws.{number_of_bytes-lt}
use Rattle.wasm_syntax.specs.declared.instr.LoadOp.{LoadOp}
use Rattle.wasm_syntax.specs.declared.instr.LoadOp.TheVariants as load
use Rattle.wasm_typing.specs.Valid.{ValInRange}
use Rattle.wasm_syntax.specs.Accesses.{bytes_loaded}
use Rattle.wasm_store.specs.Memory.{value_loaded}

pub type_of-value_of : (ty : ValType) (n : ℕ) → type_of (value_of ty n) ≡ ty
type_of-value_of I32 n = refl
type_of-value_of I64 n = refl

pub value_in_range : (ty : ValType) (n : ℕ) → n < 2 ^ width_of ty → ValInRange (value_of ty n)
value_in_range I32 n h = h
value_in_range I64 n h = h

pub number_in_range : (ty : ValType) (n : ℕ) → ValInRange (value_of ty n) → n < 2 ^ width_of ty
number_in_range I32 n h = h
number_in_range I64 n h = h

width-operand : (op : NumOp) → width_of (operand_type op) ≡ num_width op
width-operand (W32 op) = refl
width-operand (W64 op) = refl
width-operand Wrap = refl
width-operand ExtendS = refl
width-operand ExtendU = refl

operand_within : (op : NumOp) (a : ℕ) → ValInRange (value_of (operand_type op) a) → a < 2 ^ num_width op
operand_within op a h = subst (λ w. a < 2 ^ w) (width-operand op) (number_in_range (operand_type op) a h)

pub unary_in_range : (op : NumOp) (a : ℕ) → ValInRange (value_of (operand_type op) a) → ValInRange (value_of (result_type op) (num_unary op a))
unary_in_range op a h = value_in_range (result_type op) (num_unary op a) (num_unary-lt op a (operand_within op a h))

pub binary_in_range : (op : NumOp) (a b : ℕ) → ValInRange (value_of (operand_type op) a) → ValInRange (value_of (operand_type op) b) → IfSome (num_binary op a b) (λ r. r < 2 ^ width_of (result_type op))
binary_in_range op a b h k = num_binary-lt op a b (operand_within op a h) (operand_within op b k)

-- ---- loads

all_bytes : (bytes : List ℕ) → All (λ b. b < 256) bytes → (i : ℕ) → get_or bytes i 0 < 256
all_bytes [] all i = omega arith
all_bytes (b ∷ bytes) all zero = All-head (λ b. b < 256) b bytes all
all_bytes (b ∷ bytes) all (suc i) = all_bytes bytes (All-tail (λ b. b < 256) b bytes all) i

number_below : (bytes : List ℕ) (k : ℕ) → All (λ b. b < 256) bytes → length bytes ≡ k → number_of_bytes bytes < 256 ^ k
number_below bytes k all h = subst (λ k. number_of_bytes bytes < 256 ^ k) h (number_of_bytes-lt bytes (all_bytes bytes all))

narrow : (n a b : ℕ) → n < a → a ≤ b → n < b
narrow n a b h k = omega arith

pub loaded_in_range : (op : LoadOp) (bytes : List ℕ) → All (λ b. b < 256) bytes → length bytes ≡ bytes_loaded op → ValInRange (value_loaded op bytes)
loaded_in_range load.I32Load bytes all h = number_below bytes 4 all h
loaded_in_range load.I64Load bytes all h = number_below bytes 8 all h
loaded_in_range load.I32Load8S bytes all h = sign_extended-lt 8 32 (number_of_bytes bytes) (omega arith) (omega arith) (number_below bytes 1 all h)
loaded_in_range load.I32Load8U bytes all h = narrow (number_of_bytes bytes) (256 ^ 1) (2 ^ 32) (number_below bytes 1 all h) (omega arith)
loaded_in_range load.I32Load16S bytes all h = sign_extended-lt 16 32 (number_of_bytes bytes) (omega arith) (omega arith) (number_below bytes 2 all h)
loaded_in_range load.I32Load16U bytes all h = narrow (number_of_bytes bytes) (256 ^ 2) (2 ^ 32) (number_below bytes 2 all h) (omega arith)
loaded_in_range load.I64Load8S bytes all h = sign_extended-lt 8 64 (number_of_bytes bytes) (omega arith) (omega arith) (number_below bytes 1 all h)
loaded_in_range load.I64Load8U bytes all h = narrow (number_of_bytes bytes) (256 ^ 1) (2 ^ 64) (number_below bytes 1 all h) (omega arith)
loaded_in_range load.I64Load16S bytes all h = sign_extended-lt 16 64 (number_of_bytes bytes) (omega arith) (omega arith) (number_below bytes 2 all h)
loaded_in_range load.I64Load16U bytes all h = narrow (number_of_bytes bytes) (256 ^ 2) (2 ^ 64) (number_below bytes 2 all h) (omega arith)
loaded_in_range load.I64Load32S bytes all h = sign_extended-lt 32 64 (number_of_bytes bytes) (omega arith) (omega arith) (number_below bytes 4 all h)
loaded_in_range load.I64Load32U bytes all h = narrow (number_of_bytes bytes) (256 ^ 4) (2 ^ 64) (number_below bytes 4 all h) (omega arith)

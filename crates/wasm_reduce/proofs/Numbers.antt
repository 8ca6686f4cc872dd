-- Values and their numbers, and numeric instructions by how many operands they have.
use Rattle.std.proofs.Common.{◌≡◌, ℕ, ◌==◌, false, refl}
use Rattle.wasm_values.specs.declared.number.NumOp.{NumOp}
use Rattle.wasm_values.specs.declared.number.NumOp.TheVariants as num
use Rattle.wasm_values.specs.declared.number.IntOp.{IntOp}
use Rattle.wasm_values.specs.declared.number.IntOp.TheVariants as int
use Rattle.wasm_values.specs.declared.number.ValType.{ValType}
use Rattle.wasm_values.specs.declared.number.ValType.TheVariants.{I32, I64}
use Rattle.wasm_values.specs.Operators.{type_of, number_of, value_of, operands, num_operands}

pub type_of-value_of : (t : ValType) (n : ℕ) → type_of (value_of t n) ≡ t
type_of-value_of I32 n = refl
type_of-value_of I64 n = refl

pub number_of-value_of : (t : ValType) (n : ℕ) → number_of (value_of t n) ≡ n
number_of-value_of I32 n = refl
number_of-value_of I64 n = refl

int_two : (op : IntOp) → (operands op == 1) ≡ false → operands op ≡ 2
int_two int.Eqz h = cc
int_two int.Clz h = cc
int_two int.Ctz h = cc
int_two int.Popcnt h = cc
int_two _ h = refl

-- An instruction that has not one operand has two.
pub has_two : (op : NumOp) → (num_operands op == 1) ≡ false → num_operands op ≡ 2
has_two (num.W32 op) h = int_two op h
has_two (num.W64 op) h = int_two op h
has_two num.Wrap h = cc
has_two num.ExtendS h = cc
has_two num.ExtendU h = cc

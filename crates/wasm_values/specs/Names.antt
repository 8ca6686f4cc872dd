-- The names of numeric operators in the text format (Core Specification, section 6.5.6).
use Rattle.std.specs.Prelude.{ℕ, List, ◌++◌, codes}
use Rattle.wasm_values.specs.declared.number.IntOp.{IntOp}
use Rattle.wasm_values.specs.declared.number.IntOp.TheVariants as int
use Rattle.wasm_values.specs.declared.number.NumOp.{NumOp}
use Rattle.wasm_values.specs.declared.number.NumOp.TheVariants as num

-- An integer operator, behind its width.
abbrev pub int_name : IntOp → List ℕ
int_name int.Eqz = codes "eqz"
int_name int.Eq = codes "eq"
int_name int.Ne = codes "ne"
int_name int.LtS = codes "lt_s"
int_name int.LtU = codes "lt_u"
int_name int.GtS = codes "gt_s"
int_name int.GtU = codes "gt_u"
int_name int.LeS = codes "le_s"
int_name int.LeU = codes "le_u"
int_name int.GeS = codes "ge_s"
int_name int.GeU = codes "ge_u"
int_name int.Clz = codes "clz"
int_name int.Ctz = codes "ctz"
int_name int.Popcnt = codes "popcnt"
int_name int.Add = codes "add"
int_name int.Sub = codes "sub"
int_name int.Mul = codes "mul"
int_name int.DivS = codes "div_s"
int_name int.DivU = codes "div_u"
int_name int.RemS = codes "rem_s"
int_name int.RemU = codes "rem_u"
int_name int.And = codes "and"
int_name int.Or = codes "or"
int_name int.Xor = codes "xor"
int_name int.Shl = codes "shl"
int_name int.ShrS = codes "shr_s"
int_name int.ShrU = codes "shr_u"
int_name int.Rotl = codes "rotl"
int_name int.Rotr = codes "rotr"

-- A numeric operator.
abbrev pub num_name : NumOp → List ℕ
num_name (num.W32 op) = codes "i32." ++ int_name op
num_name (num.W64 op) = codes "i64." ++ int_name op
num_name num.Wrap = codes "i32.wrap_i64"
num_name num.ExtendS = codes "i64.extend_i32_s"
num_name num.ExtendU = codes "i64.extend_i32_u"

use Rattle.std.proofs.Common.{refl}
use Rattle.wasm_syntax.proofs.OpcodeLaws.{kind_of-code_of, code_of-kind_of, means_op-kind_of, kind_of-Float, kind_of-Unused}
use Rattle.wasm_syntax.proofs.laws.bytes_and_opcodes_are_inverse.Goals as goal

pub returns : goal.returns
returns c = record {
  byte = kind_of-code_of;
  op = code_of-kind_of;
  ops = means_op-kind_of;
  floats = kind_of-Float;
  unused = kind_of-Unused;
  op_count = refl;
  float_count = refl;
  unused_count = refl;
}

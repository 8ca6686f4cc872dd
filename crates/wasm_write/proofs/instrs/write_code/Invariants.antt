use Rattle.std.proofs.Common.{◌≡◌, ◌++◌, take}
use Rattle.wasm_syntax.specs.FlatForm.{flat_body}
use Rattle.wasm_write.specs.Encoding.{items_text}
use Rattle.wasm_write.proofs.instrs.write_code.Given as goal

abbrev pub invariant-loop-i : goal.invariant-loop-i
invariant-loop-i l = l.out ≡ l.initial.out ++ items_text (take l.i (flat_body l.code))

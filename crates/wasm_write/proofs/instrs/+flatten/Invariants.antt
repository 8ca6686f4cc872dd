use Rattle.std.proofs.Common.{◌≡◌, ◌++◌, take}
use Rattle.wasm_syntax.specs.FlatForm.{flat}
use Rattle.wasm_write.specs.Encoding.{items_text}
use Rattle.wasm_write.proofs.instrs.+flatten.Given as goal

abbrev pub invariant-write_all-loop-instr : goal.invariant-write_all-loop-instr
invariant-write_all-loop-instr l = l.out ≡ l.initial.out ++ items_text (flat (take l.instr-index l.instrs))

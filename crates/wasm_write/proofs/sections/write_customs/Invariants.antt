use Rattle.std.proofs.Common.{◌≡◌, ◌++◌, take}
use Rattle.wasm_write.specs.Encoding.{customs_text}
use Rattle.wasm_write.proofs.sections.write_customs.Given as goal

abbrev pub invariant-loop-custom : goal.invariant-loop-custom
invariant-loop-custom l = l.out ≡ l.initial.out ++ customs_text l.id (take l.custom-index l.customs)

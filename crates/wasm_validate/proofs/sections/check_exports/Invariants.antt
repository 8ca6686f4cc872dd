use Rattle.std.proofs.Common.{map, take}
use Rattle.wasm_syntax.specs.declared.module.Export.{Export}
use Rattle.wasm_typing.specs.faults.Faults.{export_fault}
use Rattle.body_check.proofs.SectionLemmas.{NoneBefore}
use Rattle.wasm_validate.specs.words.Names.{HasTexts}
use Rattle.wasm_validate.proofs.sections.check_exports.Given as goal

abbrev pub invariant-loop-n : goal.invariant-loop-n
invariant-loop-n l = NoneBefore (export_fault l.«module») l.«module».exports l.n
    × HasTexts l.names (map (λ (e : Export). e.name) (take l.n l.«module».exports))

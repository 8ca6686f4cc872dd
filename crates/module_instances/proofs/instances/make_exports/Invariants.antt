use Rattle.std.proofs.Common.{◌≡◌, map, take}
use Rattle.wasm_syntax.specs.declared.module.Export.{Export}
use Rattle.module_instances.specs.words.Building.{named_extern}
use Rattle.module_instances.proofs.instances.make_exports.Given as goal

abbrev pub invariant-loop-export : goal.invariant-loop-export
invariant-loop-export l = l.made ≡ map (λ (e : Export). (e.name, named_extern l.numbering e.kind)) (take l.export-index l.«module».exports)

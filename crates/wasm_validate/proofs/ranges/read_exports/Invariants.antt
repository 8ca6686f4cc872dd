use Rattle.std.proofs.Common.{take}
use Rattle.std.specs.List.{All}
use Rattle.wasm_typing.specs.Valid.{BytesInRange, ExportInRange}
use Rattle.wasm_syntax.specs.declared.module.Export.{Export}
use Rattle.wasm_validate.proofs.ranges.read_exports.Given as goal

abbrev pub invariant-loop-export : goal.invariant-loop-export
invariant-loop-export l = All (λ (e : Export). BytesInRange e.name × ExportInRange e.kind) (take l.export-index l.«module».exports)

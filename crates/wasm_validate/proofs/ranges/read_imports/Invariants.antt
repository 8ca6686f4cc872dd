use Rattle.std.proofs.Common.{take}
use Rattle.std.specs.List.{All}
use Rattle.wasm_typing.specs.Valid.{BytesInRange, ImportInRange}
use Rattle.wasm_syntax.specs.declared.module.Import.{Import}
use Rattle.wasm_validate.proofs.ranges.read_imports.Given as goal

abbrev pub invariant-loop-import : goal.invariant-loop-import
invariant-loop-import l = All (λ (i : Import). BytesInRange i.module × BytesInRange i.name × ImportInRange i.kind) (take l.import-index l.«module».imports)

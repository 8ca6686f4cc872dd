use Rattle.std.proofs.Common.{◌≡◌, ◌≤◌, length, take}
use Rattle.std.specs.List.{filter_map}
use Rattle.wasm_syntax.specs.declared.module.Import.{Import}
use Rattle.wasm_typing.specs.Valid.{memory_import}
use Rattle.body_check.proofs.scope.imported_memories.Given as goal

abbrev pub invariant-loop-import : goal.invariant-loop-import
invariant-loop-import l =
    (l.memories ≡ length (filter_map (λ (i : Import). memory_import i.kind) (take l.import-index l.«module».imports))) × (l.memories ≤ l.import-index)

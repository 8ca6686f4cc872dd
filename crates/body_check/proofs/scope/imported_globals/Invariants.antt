use Rattle.std.proofs.Common.{◌≡◌, take}
use Rattle.std.specs.List.{filter_map}
use Rattle.wasm_syntax.specs.declared.module.Import.{Import}
use Rattle.wasm_typing.specs.Valid.{global_import}
use Rattle.body_check.proofs.scope.imported_globals.Given as goal

abbrev pub invariant-loop-import : goal.invariant-loop-import
invariant-loop-import l = l.globals.items ≡ filter_map (λ (i : Import). global_import i.kind) (take l.import-index l.«module».imports)

use Rattle.std.proofs.Common.{◌≡◌, ◌++◌, map, take}
use Rattle.std.specs.List.{filter_map}
use Rattle.wasm_syntax.specs.declared.module.Import.{Import}
use Rattle.wasm_syntax.specs.declared.module.Global.{Global}
use Rattle.wasm_typing.specs.Valid.{global_import, imported_globals_of}
use Rattle.escape_analysis.specs.words.Changing.{imported_stability, defined_stability}
use Rattle.escape_analysis.proofs.globals.unexported.Given as goal

abbrev pub invariant-loop-import : goal.invariant-loop-import
invariant-loop-import l =
    l.globals ≡ map imported_stability (filter_map (λ (i : Import). global_import i.kind) (take l.import-index l.«module».imports))

abbrev pub invariant-loop-global : goal.invariant-loop-global
invariant-loop-global l =
    l.globals
    ≡ map imported_stability (imported_globals_of l.«module»)
    ++ map (λ (g : Global). defined_stability g.ty) (take l.global-index l.«module».globals)

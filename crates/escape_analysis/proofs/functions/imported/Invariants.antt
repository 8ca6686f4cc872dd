use Rattle.std.proofs.Common.{◌≡◌, ◌++◌, true, false, map, take}
use Rattle.std.specs.List.{filter_map}
use Rattle.wasm_syntax.specs.declared.module.Import.{Import}
use Rattle.wasm_syntax.specs.declared.module.Func.{Func}
use Rattle.wasm_typing.specs.Valid.{func_import}
use Rattle.escape_analysis.proofs.functions.imported.Given as goal

abbrev pub invariant-loop-import : goal.invariant-loop-import
invariant-loop-import l =
    l.marks ≡ map (λ t. true) (filter_map (λ (i : Import). func_import i.kind) (take l.import-index l.«module».imports))

abbrev pub invariant-loop : goal.invariant-loop
invariant-loop l =
    l.marks
    ≡ map (λ t. true) (filter_map (λ (i : Import). func_import i.kind) l.«module».imports)
    ++ map (λ (f : Func). false) (take l.index l.«module».funcs)

use Rattle.std.proofs.Common.{◌≡◌, ◌++◌, take, map}
use Rattle.std.specs.List.{filter_map}
use Rattle.wasm_syntax.specs.declared.module.Import.{Import}
use Rattle.wasm_syntax.specs.declared.module.Func.{Func}
use Rattle.wasm_typing.specs.Valid.{func_import}
use Rattle.body_check.proofs.scope.func_types.Given as goal

abbrev pub invariant-loop-import : goal.invariant-loop-import
invariant-loop-import l = l.funcs.items ≡ filter_map (λ (i : Import). func_import i.kind) (take l.import-index l.«module».imports)

abbrev pub invariant-loop-func : goal.invariant-loop-func
invariant-loop-func l =
    l.funcs.items ≡ filter_map (λ (i : Import). func_import i.kind) l.«module».imports ++ map (λ (f : Func). f.ty) (take l.func-index l.«module».funcs)

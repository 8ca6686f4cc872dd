use Rattle.std.proofs.Common.{◌≡◌, ◌++◌, take, map}
use Rattle.wasm_syntax.specs.declared.module.Global.{Global}
use Rattle.wasm_typing.specs.Valid.{imported_globals_of}
use Rattle.body_check.proofs.scope.all_globals.Given as goal

abbrev pub invariant-loop-global : goal.invariant-loop-global
invariant-loop-global l = l.globals.items ≡ imported_globals_of l.«module» ++ map (λ (g : Global). g.ty) (take l.global-index l.«module».globals)

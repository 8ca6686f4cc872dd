use Rattle.std.proofs.Common.{◌≡◌, map, take}
use Rattle.wasm_syntax.specs.declared.module.Global.{Global}
use Rattle.wasm_syntax.specs.Trees.{sequence_of}
use Rattle.wasm_sessions.specs.Instantiation.{value_of_code}
use Rattle.module_instances.proofs.parts.make_globals.Given as goal

abbrev pub invariant-loop-global : goal.invariant-loop-global
invariant-loop-global l =
    l.made ≡ map (λ (g : Global). record { ty = g.ty; value = value_of_code l.globals l.imported (sequence_of g.init) }) (take l.global-index l.«module».globals)

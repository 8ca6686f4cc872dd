use Rattle.std.proofs.Common.{◌≡◌, map, take}
use Rattle.outline_check.specs.States.{initial_term}
use Rattle.outline_check.proofs.effect.initial_state.Given as goal

abbrev pub invariant-loop-global : goal.invariant-loop-global
invariant-loop-global l = l.terms ≡ map (λ global. initial_term global.init) (take l.global-index l.globals)

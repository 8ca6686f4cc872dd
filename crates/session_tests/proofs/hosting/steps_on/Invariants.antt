use Rattle.type_safety.specs.Typed.{Typed}
use Rattle.session_tests.proofs.hosting.steps_on.Given as goal

abbrev pub invariant-loop-taken : goal.invariant-loop-taken
invariant-loop-taken l = Typed l.config

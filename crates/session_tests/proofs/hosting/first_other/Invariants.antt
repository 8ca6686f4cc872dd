use Rattle.type_safety.specs.Typed.{Typed}
use Rattle.session_tests.proofs.hosting.first_other.Given as goal

abbrev pub invariant-loop-i : goal.invariant-loop-i
invariant-loop-i l = Typed l.config

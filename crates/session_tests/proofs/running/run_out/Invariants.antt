use Rattle.type_safety.specs.Typed.{Typed}
use Rattle.session_tests.proofs.running.run_out.Given as goal

abbrev pub invariant-steps : goal.invariant-steps
invariant-steps l = Typed l.config

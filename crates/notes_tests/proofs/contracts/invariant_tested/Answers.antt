use Rattle.std.proofs.Common.{ap, sym, ◌∙◌, false}
use Rattle.notes.specs.declared.assertion.Assertion.{Assertion}
use Rattle.outline_rules.specs.Tests.{unless, assertion_reason, leaf_test, invariant_tested}
use Rattle.notes_tests.proofs.Tested.{gives_same}
use Rattle.notes_tests.proofs.contracts.invariant_tested.Goals as goal

pub returns : goal.returns
returns c =
    gives_same c.unless.result (invariant_tested c.args.setting.now) _
    (ap (λ (a : Assertion). unless (assertion_reason c.args.setting.now (leaf_test c.args.setting.now a.own 0 false) a)) (sym c.invariant_of-invariant.ensures) ∙ ap unless (sym c.assertion_reason.ensures))
    c.unless.ensures

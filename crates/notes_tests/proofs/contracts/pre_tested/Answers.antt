use Rattle.std.proofs.Common.{ap, sym, ◌∙◌, ℕ, false}
use Rattle.outline_rules.specs.Tests.{unless, assertion_reason, leaf_test, pre_tested}
use Rattle.notes_tests.proofs.Tested.{gives_same}
use Rattle.notes_tests.proofs.contracts.pre_tested.Goals as goal

pub returns : goal.returns
returns c =
    gives_same c.unless.result (pre_tested c.args.setting.now c.args.ty.now c.args.contract.now) _
    (ap (λ (n : ℕ). unless (assertion_reason c.args.setting.now (leaf_test c.args.setting.now c.args.contract.now.pre.own n false) c.args.contract.now.pre)) (sym c.len.ensures) ∙ ap unless (sym c.assertion_reason.ensures))
    c.unless.ensures

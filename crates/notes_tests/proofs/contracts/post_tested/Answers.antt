use Rattle.std.proofs.Common.{ap, sym, ◌∙◌, ◌+◌}
use Rattle.std.specs.Prelude.{nat_lt}
use Rattle.outline_rules.specs.Tests.{unless, assertion_reason, leaf_test, post_tested}
use Rattle.notes_tests.proofs.Tested.{gives_same}
use Rattle.notes_tests.proofs.contracts.post_tested.Goals as goal

pub returns : goal.returns
returns c =
    gives_same c.unless.result (post_tested c.args.setting.now c.args.ty.now c.args.contract.now) _
    ((λ j. unless (assertion_reason c.args.setting.now (leaf_test c.args.setting.now (c.args.contract.now.pre.own + c.args.contract.now.post.own) (sym c.len.ensures j) (nat_lt 0 (sym c.len-2.ensures j))) c.args.contract.now.post))
    ∙ ap unless (sym c.assertion_reason.ensures))
    c.unless.ensures

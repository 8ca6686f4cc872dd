use Rattle.symbolic_branches.proofs.Takings.{state-back, grown-back}
use Rattle.symbolic_branches.proofs.taking.takes_branch.Goals as goal

pub returns-clause-state : goal.returns-clause-state
returns-clause-state c =
    state-back c.args.state.now c.branches_with.new.state c.restore.new.self c.in_ok-before.before c.in_ok-before.ensures c.in_ok-branches_with.ensures.kept c.restore.ensures

pub returns-clause-kept : goal.returns-clause-kept
returns-clause-kept c =
    grown-back c.args.state.now c.branches_with.new.state c.restore.new.self c.in_ok-before.before c.in_ok-before.ensures c.in_ok-branches_with.ensures.kept c.restore.ensures

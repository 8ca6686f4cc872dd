use Rattle.std.proofs.Common.{subst}
use Rattle.wasm_values.specs.Answers.{Gives}
use Rattle.outline_rules.specs.Refusals.{Ruling}
use Rattle.outline_rules.specs.States.{State}
use Rattle.symbolic_state.specs.Refused.{refusal_of}
use Rattle.block_changes.specs.Seen.{changes_seen}
use Rattle.renewed_locals.proofs.Parts.{resumed-then}
use Rattle.renewed_locals.proofs.resuming.resume.Goals as goal

pub returns-clause-done : goal.returns-clause-done
returns-clause-done c =
    subst (λ (r : Ruling State). Gives refusal_of (λ _. c.renew_block.new.state.state) c.renew_block.result r)
    (resumed-then c.args.setting.now (changes_seen c.args.changes.now) (record { takes = c.args.takes; assertion = c.args.assertion.now }) c.args.state.now.state c.leave_locals.new.state.state c.in_ok-leave_locals.ensures.done)
    c.renew_block.ensures.done

use Rattle.std.proofs.Common.{ℕ, List, ap, subst, ◌∙◌}
use Rattle.std.specs.Prelude.{filter}
use Rattle.wasm_values.specs.Answers.{Gives}
use Rattle.wasm_values.specs.declared.number.ValType.{ValType}
use Rattle.outline_rules.specs.Refusals.{Ruling}
use Rattle.outline_rules.specs.States.{State}
use Rattle.symbolic_state.specs.Refused.{refusal_of}
use Rattle.block_changes.specs.Seen.{changes_seen}
use Rattle.renewed_locals.proofs.Parts.{block-is}
use Rattle.renewed_locals.proofs.resuming.renew_block.Goals as goal

pub returns-clause-done : goal.returns-clause-done
returns-clause-done c =
    let changes = changes_seen c.args.changes.now in
    subst (λ (r : Ruling State). Gives refusal_of (λ _. c.renew.new.state.state) c.renew.result r)
    (block-is c.args.setting.now changes c.args.takes c.args.assertion.now c.args.state.now.state c.as_slice.result.now c.may_grow.result
    (c.as_slice.ensures ∙ c.in_ok-globals.ensures ∙ ap (λ (gs : List (ℕ × ValType)). filter (λ g. changes.globals g.0) gs) c.private_globals.ensures) c.may_grow.ensures)
    c.renew.ensures.done

-- Reasons as refusals.
use Rattle.std.specs.Prelude.{Option, Some}
use Rattle.notes.specs.declared.reason.Reason.{Reason}
use Rattle.outline_rules.specs.Refusals.{Refusal, ForReason}

-- The refusal that a reason is.
abbrev pub refusal_for : Reason → Option Refusal
refusal_for why = Some (ForReason why)

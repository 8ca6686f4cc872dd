-- Why a state isn't gone on from, as the refusals of the outline.
use Rattle.std.specs.Prelude.{Option, Some, None}
use Rattle.outline_rules.specs.Refusals.{Refusal, ForReason, PastLimit, AtHole}
use Rattle.symbolic_state.specs.declared.refused.Refused.{Refused}
use Rattle.symbolic_state.specs.declared.refused.Refused.TheVariants.{Reason, Limit, Hole, OutOfMemory}

-- The refusal that is told, if it is no want of memory.
abbrev pub refusal_of : Refused → Option Refusal
refusal_of (Reason reason) = Some (ForReason reason)
refusal_of (Limit word) = Some (PastLimit word)
refusal_of (Hole facts goal) = Some (AtHole facts goal)
refusal_of OutOfMemory = None

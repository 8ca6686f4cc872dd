-- Why a heap move is refused, as the refusals of the outline.
use Rattle.std.specs.Prelude.{Option, Some, None}
use Rattle.heap_logic.specs.declared.fault.MoveFault.{MoveFault}
use Rattle.heap_logic.specs.declared.fault.MoveFault.TheVariants.{NoMove, Limit, OutOfMemory}
use Rattle.outline_rules.specs.Refusals.{Refusal, ForReason, PastLimit}

-- The refusal that a fault is, if it is no want of memory.
abbrev pub refusal_of : MoveFault → Option Refusal
refusal_of (NoMove reason) = Some (ForReason reason)
refusal_of (Limit word) = Some (PastLimit word)
refusal_of OutOfMemory = None

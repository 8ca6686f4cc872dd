-- What is kept of a tracked state.
use Rattle.std.specs.Prelude.{◌≡◌, length}
use Rattle.outline_rules.specs.States.{nodes_of}
use Rattle.heap_logic.specs.Heaps.{HasWidths}
use Rattle.symbolic_state.specs.States.{Tracked, state_of, StateWithin, WithinLimits}
use Rattle.symbolic_state.specs.declared.tracked.TrackedState.TheInside.{Inside}

-- The terms and the state that a tracked state is seen as.
abbrev pub tracked : Inside → Tracked
tracked t = record { terms = t.table; state = state_of t.table t.state }

-- The state is over the table, its cells and rows have a width of 1, 2, 4 or 8 bytes, it is within the limits, and its nodes are
-- counted.
pub record IsTracked (t : Inside) : Type 0 where
  pub within : StateWithin (length t.table) t.state
  pub widths : HasWidths t.state.heap
  pub limits : WithinLimits (state_of t.table t.state)
  pub nodes : t.nodes ≡ nodes_of (state_of t.table t.state)

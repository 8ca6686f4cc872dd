-- A heap after a change, and the limits of a state.
use Rattle.std.specs.Prelude.{◌+◌, ◌++◌, length, slice_set}
use Rattle.outline_rules.specs.Refusals.{Ruling}
use Rattle.outline_rules.specs.States.{State, nodes_of}
use Rattle.heap_logic.specs.declared.change.Change.{Change}
use Rattle.heap_logic.specs.declared.heap.SymHeap.{SymHeap}
use Rattle.heap_logic.specs.words.Effects.{without_id}
use Rattle.heap_logic.specs.words.Limits.{limits}

-- the heap after a change
abbrev pub changed : Change → SymHeap → SymHeap
changed c h = record h {
  vars = h.vars + c.variables;
  facts = h.facts ++ c.facts;
  chunks = without_id c.gone (slice_set (h.chunks ++ c.more) c.chunk c.becomes);
}

-- the limits of a state
abbrev pub state_limits : State → Ruling (Unit {0})
state_limits s = limits s.vars (length s.facts) (length s.chunks) (nodes_of s)

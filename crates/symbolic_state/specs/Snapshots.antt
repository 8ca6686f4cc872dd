-- What is needed to come back to a state.
use Rattle.std.specs.Prelude.{◌≡◌, ◌<◌, List, length, map, reverse, take, option_map, IfSome}
use Rattle.std.specs.List.{All}
use Rattle.term_trees.specs.declared.term.Term.{Term}
use Rattle.term_logic.specs.Table.{tree_at}
use Rattle.outline_rules.specs.States.{State, nodes_of}
use Rattle.heap_logic.specs.Heaps.{chunk_of, ChunkWithin, HasWidth}
use Rattle.symbolic_state.specs.declared.snapshot.Snapshot.{Snapshot}
use Rattle.symbolic_state.specs.States.{entry_at, WithinLimits, Tracked}

-- A snapshot is of this state: over the terms it has the state's chunks and slots, and it tells how many variables, facts and
-- nodes the state has.
pub record Remembers (ts : List Term) (snapshot : Snapshot) (s : State) : Type 0 where
  pub vars : snapshot.vars ≡ s.vars
  pub facts : snapshot.facts ≡ length s.facts
  pub chunks : map (chunk_of ts) snapshot.chunks ≡ s.chunks
  pub locals : map (entry_at ts) snapshot.locals ≡ s.locals
  pub operands : map (entry_at ts) (reverse snapshot.stack) ≡ s.operands
  pub globals : map (option_map (tree_at ts)) snapshot.globals ≡ s.globals
  pub pages : option_map (tree_at ts) snapshot.pages ≡ s.pages
  pub nodes : snapshot.nodes ≡ nodes_of s
  pub limits : WithinLimits s
  pub widths : All HasWidth snapshot.chunks
  pub chunks_within : All (λ c. ChunkWithin (length ts) c) snapshot.chunks
  pub locals_within : All (λ e. e.1 < length ts) snapshot.locals
  pub stack_within : All (λ e. e.1 < length ts) snapshot.stack
  pub globals_within : All (λ o. IfSome o (λ id. id < length ts)) snapshot.globals
  pub pages_within : IfSome snapshot.pages (λ id. id < length ts)

-- The facts of a state are the first of a later one's, and the terms of the parameters and of the precondition's own
-- variables are the same.
pub record Follows (s later : State) : Type 0 where
  pub facts : take (length s.facts) later.facts ≡ s.facts
  pub args : later.args ≡ s.args
  pub given : later.given ≡ s.given

-- A snapshot is of a state that this one follows.
pub record Restorable (t : Tracked) (snapshot : Snapshot) : Type 0 where
  pub state : State
  pub remembers : Remembers t.terms snapshot state
  pub follows : Follows state t.state

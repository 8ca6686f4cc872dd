-- What a heap move changes, and the state after it.
use Rattle.std.specs.Prelude.{◌≡◌, ℕ, ◌+◌, ◌-◌, ◌<◌, ◌≤◌, List, ◌++◌, length, map, slice_get, slice_set, remove, Option, Some, None, IfSome, Ok, sum_by}
use Rattle.std.specs.List.{All}
use Rattle.std.specs.Option.{option_map_or}
use Rattle.wasm_values.specs.declared.limit.LimitWord.TheVariants as limit
use Rattle.term_trees.specs.declared.term.Term.{Term}
use Rattle.term_trees.specs.declared.term.Formula.{Formula}
use Rattle.term_trees.specs.Formulas.{formula_nodes}
use Rattle.term_logic.specs.Formulas.{formula_bound, formula_of}
use Rattle.notes.specs.declared.chunk.Chunk.{Chunk}
use Rattle.outline_rules.specs.Refusals.{Ruling, within, ◌>>◌}
use Rattle.outline_rules.specs.Chunks.{chunk_nodes}
use Rattle.outline_rules.specs.States.{State, blank, nodes_of}
use Rattle.heap_logic.specs.declared.change.Change.{Change}
use Rattle.heap_logic.specs.declared.heap.IdChunk.{IdChunk}
use Rattle.heap_logic.specs.declared.heap.SymHeap.{SymHeap}
use Rattle.heap_logic.specs.Heaps.{chunk_of, ChunkWithin, HasWidth, HasWidths}

-- What a move changes: how many variables are new, the facts that are added, what the chunk with a number becomes, the
-- chunks that are appended, and the number of the chunk that goes.
pub record Effect : Type 0 where
  pub variables : ℕ
  pub facts : List Formula
  pub chunk : ℕ
  pub becomes : Chunk
  pub more : List Chunk
  pub gone : Option ℕ

-- the chunks without the one that goes
abbrev pub without : Option ℕ → List Chunk → List Chunk
without None cs = cs
without (Some d) cs = remove cs d

-- the state after what is changed
abbrev pub after : Effect → State → State
after e s = record s {
  vars = s.vars + e.variables;
  facts = s.facts ++ e.facts;
  chunks = without e.gone (slice_set s.chunks e.chunk e.becomes ++ e.more);
}

-- a state within the limits, or the first that it passes, where all terms are within theirs
abbrev pub fitting : State → Ruling State
fitting s =
    within limit.Variables 1000000 s.vars
    >> within limit.Facts 4096 (length s.facts)
    >> within limit.Chunks 1024 (length s.chunks)
    >> within limit.State 1000000 (nodes_of s)
    >> Ok s

-- what is changed, over a table
abbrev pub effect_of : List Term → Change → Effect
effect_of ts c = record {
  variables = c.variables;
  facts = map (formula_of ts) c.facts;
  chunk = c.chunk;
  becomes = chunk_of ts c.becomes;
  more = map (chunk_of ts) c.more;
  gone = c.gone;
}

-- all positions of a change are below n, its widths are those of cells where the heap's are, and the chunks that it names
-- are those of the heap
pub record ChangeWithin (n : ℕ) (h : SymHeap) (c : Change) : Type 0 where
  pub facts : All (λ f. formula_bound f ≤ n) c.facts
  pub becomes : ChunkWithin n c.becomes
  pub more : All (λ m. ChunkWithin n m) c.more
  pub width : HasWidths h → HasWidth c.becomes
  pub widths : HasWidths h → All HasWidth c.more
  pub place : c.chunk < length h.chunks
  pub gone : IfSome c.gone (λ d. (d < length h.chunks) × (d ≡ c.chunk → ⊥))

-- the state of a heap, without slots
abbrev pub bare : List Term → SymHeap → State
bare ts h = record blank { vars = h.vars; facts = map (formula_of ts) h.facts; chunks = map (chunk_of ts) h.chunks }

-- the nodes of the chunk with a number, if there is one
abbrev pub nodes_at : List Chunk → ℕ → ℕ
nodes_at cs c = option_map_or chunk_nodes (slice_get cs c) 0

-- the nodes of a state, but for those of a chunk and of one that goes
abbrev pub rest_nodes : ℕ → Option ℕ → State → ℕ
rest_nodes c gone s = nodes_of s - nodes_at s.chunks c - option_map_or (nodes_at s.chunks) gone 0

-- the nodes of what is new
abbrev pub new_nodes : Effect → ℕ
new_nodes e = sum_by formula_nodes e.facts + chunk_nodes e.becomes + sum_by chunk_nodes e.more

-- the chunks over a table without the one that goes
abbrev pub without_id : Option ℕ → List IdChunk → List IdChunk
without_id None cs = cs
without_id (Some d) cs = remove cs d

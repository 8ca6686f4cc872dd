-- The state of trees that a heap over a table stands for, with the terms of its slots.
use Rattle.std.specs.Prelude.{◌≡◌, ℕ, ◌<◌, ◌≤◌, List, [], map, reverse, None, option_map, IsTrue}
use Rattle.std.specs.List.{All}
use Rattle.term_trees.specs.declared.term.Term.{Term}
use Rattle.term_logic.specs.declared.leaves.LeafIds.{LeafIds}
use Rattle.term_logic.specs.Table.{tree_at}
use Rattle.term_logic.specs.Formulas.{formula_bound, formula_of}
use Rattle.notes.specs.WellFormed.{is_width}
use Rattle.notes.specs.declared.chunk.Chunk.{Chunk}
use Rattle.notes.specs.declared.chunk.Chunk.TheVariants as tree
use Rattle.heap_logic.specs.declared.heap.IdChunk.{IdChunk}
use Rattle.heap_logic.specs.declared.heap.IdChunk.TheVariants.{Cell, Region, Row}
use Rattle.heap_logic.specs.declared.heap.SymHeap.{SymHeap}
use Rattle.outline_rules.specs.States.{State}

-- The chunk that one over a table stands for.
abbrev pub chunk_of : List Term → IdChunk → Chunk
chunk_of ts (Cell width at value) = tree.Cell width (tree_at ts at) (tree_at ts value)
chunk_of ts (Region at len) = tree.Region (tree_at ts at) (tree_at ts len)
chunk_of ts (Row width at count each) = tree.Row width (tree_at ts at) (tree_at ts count) (formula_of ts each)

-- all positions of a chunk are below n
abbrev pub ChunkWithin : ℕ → IdChunk → Type 0
ChunkWithin n (Cell width at value) = (at < n) × (value < n)
ChunkWithin n (Region at len) = (at < n) × (len < n)
ChunkWithin n (Row width at count each) = (at < n) × (count < n) × (formula_bound each ≤ n)

-- All positions of a heap are below n.
pub record HeapWithin (n : ℕ) (h : SymHeap) : Type 0 where
  pub facts : All (λ f. formula_bound f ≤ n) h.facts
  pub chunks : All (λ c. ChunkWithin n c) h.chunks

-- a chunk of cells has a width of 1, 2, 4 or 8 bytes
abbrev pub HasWidth : IdChunk → Type 0
HasWidth (Cell width at value) = IsTrue (is_width width)
HasWidth (Region at len) = Unit {0}
HasWidth (Row width at count each) = IsTrue (is_width width)

-- All cells and rows of a heap have a width of 1, 2, 4 or 8 bytes.
abbrev pub HasWidths : SymHeap → Type 0
HasWidths h = All HasWidth h.chunks

-- The slots have no other leaves than those of a state: variables stand for themselves.
pub record AreSlots (l : LeafIds) : Type 0 where
  pub variables : l.variables.now ≡ []
  pub own : l.own.now ≡ []
  pub result : l.result ≡ None
  pub index : l.index ≡ None
  pub item : l.item ≡ None

-- The state with this heap and these slots. A heap move does nothing to the terms of the precondition's own variables.
abbrev pub seen : List Term → SymHeap → LeafIds → State
seen ts h l = record {
  vars = h.vars;
  facts = map (formula_of ts) h.facts;
  chunks = map (chunk_of ts) h.chunks;
  locals = map (λ e. (e.0, tree_at ts e.1)) l.locals.now;
  operands = map (λ e. (e.0, tree_at ts e.1)) (reverse l.stack.now);
  globals = map (λ o. option_map (tree_at ts) o) l.globals.now;
  pages = option_map (tree_at ts) l.pages;
  args = map (tree_at ts) l.args.now;
  given = [];
}

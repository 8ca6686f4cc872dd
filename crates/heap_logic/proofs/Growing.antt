-- What a heap and a change say stays while the table grows.
use Rattle.std.proofs.Common.{◌≡◌, ℕ, ◌≤◌, List, [], ◌∷◌, length, map, refl, ◌∙◌, arith}
use Rattle.std.specs.List.{All}
use Rattle.std.proofs.lemmas.List.Elements.{All-head, All-tail}
use Rattle.term_trees.specs.declared.term.Term.{Term}
use Rattle.term_logic.specs.Extends.{Extends}
use Rattle.term_logic.proofs.Formulas.{extended}
use Rattle.notes.specs.declared.chunk.Chunk.TheVariants as tree
use Rattle.heap_logic.specs.declared.heap.IdChunk.{IdChunk}
use Rattle.heap_logic.specs.declared.heap.IdChunk.TheVariants.{Cell, Region, Row}
use Rattle.heap_logic.specs.declared.heap.SymHeap.{SymHeap}
use Rattle.heap_logic.specs.Heaps.{chunk_of, ChunkWithin, HeapWithin}
use Rattle.heap_logic.specs.words.Effects.{bare}

pub extends-same : (ts : List Term) → Extends ts ts
extends-same ts = extended ts ts (omega arith) (λ i h. refl)

pub extends-then : (a b c : List Term) → Extends a b → Extends b c → Extends a c
extends-then a b c first second =
    extended a c (omega (arith, first.longer, second.longer)) (λ i h. second.kept i (omega (arith, first.longer)) ∙ first.kept i h)

pub ruleset growths = (extends-then)

module _ (old new : List Term) (more : Extends old new) where
  pub chunk_of-kept : (c : IdChunk) → ChunkWithin (length old) c → chunk_of new c ≡ chunk_of old c
  chunk_of-kept (Cell width at value) w = λ j. tree.Cell width (more.kept at w.0 j) (more.kept value w.1 j)
  chunk_of-kept (Region at len) w = λ j. tree.Region (more.kept at w.0 j) (more.kept len w.1 j)
  chunk_of-kept (Row width at count each) w =
      λ j. tree.Row width (more.kept at w.0 j) (more.kept count w.1 j) (more.formula each w.2 j)

  pub chunks_of-kept : (cs : List IdChunk) → All (λ c. ChunkWithin (length old) c) cs → map (chunk_of new) cs ≡ map (chunk_of old) cs
  chunks_of-kept [] all = refl
  chunks_of-kept (c ∷ cs) all = λ j. chunk_of-kept c (All-head (λ c. ChunkWithin (length old) c) c cs all) j ∷ chunks_of-kept cs (All-tail (λ c. ChunkWithin (length old) c) c cs all) j

  -- the state of a heap is the same
  pub bare-kept : (h : SymHeap) → HeapWithin (length old) h → bare new h ≡ bare old h
  bare-kept h within = λ j. record (bare old h) { facts = more.formulas h.facts within.facts j; chunks = chunks_of-kept h.chunks within.chunks j }

pub chunk-more : (m n : ℕ) → m ≤ n → (c : IdChunk) → ChunkWithin m c → ChunkWithin n c
chunk-more m n h (Cell width at value) w = (omega (arith, w.0), omega (arith, w.1))
chunk-more m n h (Region at len) w = (omega (arith, w.0), omega (arith, w.1))
chunk-more m n h (Row width at count each) w = (omega (arith, w.0), omega (arith, w.1), omega (arith, w.2))

-- the positions of a heap are those of a longer table
pub heap-more : (m n : ℕ) → m ≤ n → (heap : SymHeap) → HeapWithin m heap → HeapWithin n heap
heap-more m n low heap w = record {
  facts = λ k d h. let at = w.facts k d h in omega arith;
  chunks = λ k d h. chunk-more m n low _ (w.chunks k d h);
}

-- Formulas and chunks that are made from an assertion, within their limits.
use Rattle.std.proofs.Common.{◌≡◌, ◌+◌, ◌≤◌, ◌<◌, Bool, true, false, ◌&&◌, List, [], ◌∷◌, length, Option, Some, None, IfSome, refl, ap, ◌∙◌}
use Rattle.std.specs.Prelude.{nat_le, Ok, Err}
use Rattle.std.specs.List.{list_all}
use Rattle.std.proofs.lemmas.Bool.{lt-leb, le-leb}
use Rattle.wasm_values.specs.declared.limit.LimitWord.TheVariants as limit
use Rattle.term_trees.specs.declared.term.Term.{Term}
use Rattle.term_trees.specs.declared.term.Formula.{Formula}
use Rattle.term_trees.specs.Terms.{node_count}
use Rattle.term_trees.specs.Formulas.{formula_nodes}
use Rattle.term_trees.specs.Leaves.{Leaves, no_leaves, replaced, replaced_formula}
use Rattle.term_trees.proofs.NoLeaves.{term_stays, formula_stays}
use Rattle.term_logic.specs.declared.leaves.LeafIds.{LeafIds}
use Rattle.term_logic.specs.Extends.{Extends}
use Rattle.term_logic.specs.Leaves.{leaves_of, LeavesWithin}
use Rattle.heap_logic.proofs.Growing.{extends-then}
use Rattle.notes.specs.declared.chunk.Chunk.{Chunk}
use Rattle.notes.specs.declared.chunk.Chunk.TheVariants.{Cell, Region, Row}
use Rattle.outline_rules.specs.Refusals.{Refusal, Ruling, PastLimit, limited, ◌>>◌}
use Rattle.outline_rules.specs.Chunks.{chunk_nodes, replaced_chunk}
use Rattle.outline_rules.specs.States.{State, nodes_of, with_more_chunks}
use Rattle.outline_rules.specs.HeapMoves.{parts_nodes}
use Rattle.outline_rules.specs.Renewal.{chunk_added}
use Rattle.symbolic_state.specs.words.Limits.{limits}
use Rattle.symbolic_state.specs.words.Instances.{small_formula, small_parts, small_chunk}
use Rattle.symbolic_state.proofs.Leafing.{small-large, small-there}
use Rattle.symbolic_state.proofs.Chunked.{chunk-added-is}
use Rattle.symbolic_state.proofs.Placements.{leaves-more, position-kept, position-within}

-- ---- formulas

pub formula-large : (f : Formula) → 4096 < formula_nodes f → small_formula f ≡ Err (PastLimit limit.Nodes)
formula-large f h = small-large f (lt-leb (formula_nodes f) 4096 h)

pub formula-there : (f : Formula) → formula_nodes f ≤ 4096 → small_formula f ≡ Ok f
formula-there f h = small-there f (le-leb (formula_nodes f) 4096 h)

pub ruleset formulas = (formula-large, formula-there)

-- ---- over a longer table

module _ (old new : List Term) (more : Extends old new) (l : LeafIds) (w : LeavesWithin (length old) l) where
  pub tree-same : (t : Term) → replaced (leaves_of new l) t ≡ replaced (leaves_of old l) t
  tree-same t = ap (λ m. replaced m t) (more.leaves l w)

  pub formula-same : (f : Formula) → replaced_formula (leaves_of new l) f ≡ replaced_formula (leaves_of old l) f
  formula-same f = ap (λ m. replaced_formula m f) (more.leaves l w)

pub ruleset over_longer = (extends-then, leaves-more, position-kept, position-within, tree-same, formula-same)

-- ---- chunks

module _ (c : Chunk) where
  pub chunk-large : small_parts c ≡ false → small_chunk c ≡ Err (PastLimit limit.Nodes)
  chunk-large e = ap (λ b. limited limit.Nodes b >> Ok c) e

  pub chunk-there : small_parts c ≡ true → small_chunk c ≡ Ok c
  chunk-there e = ap (λ b. limited limit.Nodes b >> Ok c) e

pub ruleset chunks = (chunk-large, chunk-there)

and-true : (b : Bool) → (b && true) ≡ b
and-true true = refl
and-true false = refl

pub parts-are : (c : Chunk) → list_all (λ n. nat_le n 4096) (parts_nodes c) ≡ small_parts c
parts-are (Cell width at value) = ap (λ b. nat_le (node_count at) 4096 && b) (and-true (nat_le (node_count value) 4096))
parts-are (Region at len) = ap (λ b. nat_le (node_count at) 4096 && b) (and-true (nat_le (node_count len) 4096))
parts-are (Row width at count each) = ap (λ b. nat_le (node_count at) 4096 && (nat_le (node_count count) 4096 && b)) (and-true (nat_le (formula_nodes each) 4096))

-- what comes after a chunk
abbrev after_chunk : Ruling State → Ruling Chunk → Ruling State
after_chunk r (Ok c) = r
after_chunk r (Err e) = Err e

refused-by : (b : Bool) (c : Chunk) (r : Ruling State) (e : Refusal) → (limited limit.Nodes b >> Ok c) ≡ Err e → (limited limit.Nodes b >> r) ≡ Err e
refused-by true c r e is = ap (after_chunk r) is
refused-by false c r e is = ap (after_chunk r) is

pub chunk-refused : (c : Chunk) (s : State) (e : Refusal) → small_chunk c ≡ Err e → chunk_added c s ≡ Err e
chunk-refused c s e is =
    let rest : Ruling State = limits true (s.vars + 0) (length s.facts + 0) (length s.chunks + 1) (nodes_of s + chunk_nodes c) >> Ok (with_more_chunks (c ∷ []) s) in
    chunk-added-is c s ∙ ap (λ b. limited limit.Nodes b >> rest) (parts-are c) ∙ refused-by (small_parts c) c rest e is

-- the same where the refusal is told or not
pub chunk-refused-by : (c : Chunk) (s : State) (o : Option Refusal) → IfSome o (λ e. small_chunk c ≡ Err e) → IfSome o (λ e. chunk_added c s ≡ Err e)
chunk-refused-by c s None is = tt
chunk-refused-by c s (Some e) is = chunk-refused c s e is

pub chunk-is : (c d : Chunk) → small_chunk c ≡ Ok d → c ≡ d
chunk-is c d is = by_test (small_parts c) is
  where
    by_test : (b : Bool) → (limited limit.Nodes b >> Ok c) ≡ Ok d → c ≡ d
    by_test true is = let same : Ok c ≡ Ok d = is in cc
    by_test false is = let never : Err (PastLimit limit.Nodes) ≡ Ok d = is in cc

pub ruleset chunk_instances = (chunk-refused, chunk-is)

-- ---- no leaf is replaced

pub chunk-stays : (c : Chunk) → replaced_chunk no_leaves c ≡ c
chunk-stays (Cell width at value) = λ j. Cell width (term_stays at j) (term_stays value j)
chunk-stays (Region at len) = λ j. Region (term_stays at j) (term_stays len j)
chunk-stays (Row width at count each) = λ j. Row width (term_stays at j) (term_stays count j) (formula_stays each j)

pub chunk-same : (l : Leaves) → l ≡ no_leaves → (c : Chunk) → replaced_chunk l c ≡ c
chunk-same l is c = ap (λ k. replaced_chunk k c) is ∙ chunk-stays c

-- The nodes of chunks, and states with other chunks.
use Rattle.std.proofs.Common.{◌≡◌, ℕ, zero, suc, ◌+◌, ◌≤◌, Bool, true, false, ◌&&◌, List, [], ◌∷◌, length, sum_by, refl, sym, ap, ◌∙◌, arith}
use Rattle.std.specs.Prelude.{nat_le, Ok, Option, Some, None, slice_get, slice_set}
use Rattle.std.specs.Option.{option_map_or}
use Rattle.std.specs.List.{list_all}
use Rattle.std.proofs.lemmas.Bool.{le-leb}
use Rattle.std.proofs.lemmas.List.{length-append, length-set}
use Rattle.std.proofs.lemmas.List.Sums.{sum_by-append, sum_by-cons}
use Rattle.wasm_values.specs.declared.limit.LimitWord.TheVariants as limit
use Rattle.term_trees.specs.declared.term.Term.{Term}
use Rattle.term_trees.specs.declared.term.Formula.{Formula}
use Rattle.term_trees.specs.Terms.{node_count}
use Rattle.term_trees.specs.Formulas.{formula_nodes}
use Rattle.notes.specs.declared.chunk.Chunk.{Chunk}
use Rattle.notes.specs.declared.chunk.Chunk.TheVariants.{Cell, Region, Row}
use Rattle.outline_rules.specs.Refusals.{limited, ◌>>◌}
use Rattle.outline_rules.specs.Chunks.{chunk_nodes}
use Rattle.outline_rules.specs.States.{State, nodes_of, settled, with_more_chunks, with_chunks, with_chunk}
use Rattle.outline_rules.specs.HeapMoves.{parts_nodes}
use Rattle.outline_rules.specs.Renewal.{chunk_added}
use Rattle.symbolic_state.specs.words.Limits.{limits}
use Rattle.symbolic_state.proofs.Counting.{nodes-parts}
use Rattle.symbolic_state.proofs.Settling.{settled-is}

-- ---- the parts of a chunk, each within the limit

module _ (a b : Term) (low : node_count a ≤ 4096) (also : node_count b ≤ 4096) where
  two-parts : list_all (λ n. nat_le n 4096) (node_count a ∷ node_count b ∷ []) ≡ true
  two-parts = λ j. le-leb (node_count a) 4096 low j && (le-leb (node_count b) 4096 also j && true)

  pub cell-parts : (width : ℕ) → limited limit.Nodes (list_all (λ n. nat_le n 4096) (parts_nodes (Cell width a b))) ≡ Ok tt
  cell-parts width = ap (limited limit.Nodes) two-parts

  pub region-parts : limited limit.Nodes (list_all (λ n. nat_le n 4096) (parts_nodes (Region a b))) ≡ Ok tt
  region-parts = ap (limited limit.Nodes) two-parts

  pub row-parts : (width : ℕ) (f : Formula) → limited limit.Nodes (list_all (λ n. nat_le n 4096) (parts_nodes (Row width a b f))) ≡ limited limit.Nodes (nat_le (formula_nodes f) 4096)
  row-parts width f = ap (limited limit.Nodes)
      ((λ j. le-leb (node_count a) 4096 low j && (le-leb (node_count b) 4096 also j && (nat_le (formula_nodes f) 4096 && true))) ∙ and-true (nat_le (formula_nodes f) 4096))
    where
      and-true : (b : Bool) → (b && true) ≡ b
      and-true true = refl
      and-true false = refl

pub ruleset parts = (cell-parts, region-parts, row-parts)

-- ---- one more chunk

pub nodes-chunks : (cs : List Chunk) (s : State) → nodes_of (with_more_chunks cs s) ≡ nodes_of s + sum_by chunk_nodes cs
nodes-chunks cs s = omega (arith, nodes-parts s, nodes-parts (with_more_chunks cs s), sum_by-append chunk_nodes s.chunks cs)

-- a test of what is made comes first
made-first : (b : Bool) (v f c n : ℕ) (t : State) → (limits b v f c n >> Ok t) ≡ (limited limit.Nodes b >> (limits true v f c n >> Ok t))
made-first true v f c n t = refl
made-first false v f c n t = refl

pub chunk-added-is : (c : Chunk) (s : State) → chunk_added c s ≡ (limited limit.Nodes (list_all (λ n. nat_le n 4096) (parts_nodes c))
    >> (limits true (s.vars + 0) (length s.facts + 0) (length s.chunks + 1) (nodes_of s + chunk_nodes c) >> Ok (with_more_chunks (c ∷ []) s)))
chunk-added-is c s =
    let made : Bool = list_all (λ n. nat_le n 4096) (parts_nodes c) in
    settled-is (parts_nodes c) (with_more_chunks (c ∷ []) s) made (s.vars + 0) (length s.facts + 0) (length s.chunks + 1) (nodes_of s + chunk_nodes c)
    refl (omega arith) (omega arith) (length-append s.chunks (c ∷ [])) (omega (arith, nodes-chunks (c ∷ []) s))
    ∙ made-first made (s.vars + 0) (length s.facts + 0) (length s.chunks + 1) (nodes_of s + chunk_nodes c) (with_more_chunks (c ∷ []) s)

pub ruleset chunk_settlings = (chunk-added-is)

-- ---- another chunk in a place

set-nodes : (cs : List Chunk) (k : ℕ) (c d : Chunk) → slice_get cs k ≡ Some d → sum_by chunk_nodes (slice_set cs k c) + chunk_nodes d ≡ sum_by chunk_nodes cs + chunk_nodes c
set-nodes [] k c d is = cc
set-nodes (e ∷ cs) zero c d is =
    let same : chunk_nodes e ≡ chunk_nodes d = ap (λ (o : Option Chunk). option_map_or chunk_nodes o 0) is in
    omega (arith, same, sum_by-cons chunk_nodes c cs, sum_by-cons chunk_nodes e cs)
set-nodes (e ∷ cs) (suc k) c d is = omega (arith, set-nodes cs k c d is, sum_by-cons chunk_nodes e cs, sum_by-cons chunk_nodes e (slice_set cs k c))

set-past : (cs : List Chunk) (k : ℕ) (c : Chunk) → slice_get cs k ≡ None → slice_set cs k c ≡ cs
set-past [] k c is = refl
set-past (e ∷ cs) zero c is = cc
set-past (e ∷ cs) (suc k) c is = ap (λ r. e ∷ r) (set-past cs k c is)

module _ (s : State) (k : ℕ) (c : Chunk) where
  pub nodes-chunk : (d : Chunk) → Some d ≡ slice_get s.chunks k → nodes_of (with_chunk k c s) + chunk_nodes d ≡ nodes_of s + chunk_nodes c
  nodes-chunk d is = omega (arith, nodes-parts s, nodes-parts (with_chunk k c s), set-nodes s.chunks k c d (sym is))

  pub nodes-chunk-past : None ≡ slice_get s.chunks k → nodes_of (with_chunk k c s) ≡ nodes_of s
  nodes-chunk-past is = ap (λ cs. nodes_of (record s { chunks = cs })) (set-past s.chunks k c (sym is))

  length-set-chunk : length (slice_set s.chunks k c) ≡ length s.chunks
  length-set-chunk = length-set s.chunks k c

  pub set-chunk-is : settled [] (with_chunk k c s) ≡ (limits true (s.vars + 0) (length s.facts + 0) (length s.chunks + 0) (nodes_of (with_chunk k c s)) >> Ok (with_chunk k c s))
  set-chunk-is = settled-is [] (with_chunk k c s) true (s.vars + 0) (length s.facts + 0) (length s.chunks + 0) (nodes_of (with_chunk k c s)) refl (omega arith) (omega arith) (omega (arith, length-set-chunk)) refl

pub nodes-none : (s : State) → nodes_of (with_chunks [] s) + sum_by chunk_nodes s.chunks ≡ nodes_of s
nodes-none s = omega (arith, nodes-parts s, nodes-parts (with_chunks [] s))

pub ruleset chunk_nodes_changed = (nodes-chunk, nodes-chunk-past)

pub ruleset set_chunks = (set-chunk-is)

pub ruleset no_chunks = (nodes-none)

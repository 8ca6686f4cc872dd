-- A state that is within the limits is the one that was asked about.
use Rattle.std.proofs.Common.{◌≡◌, ℕ, List, [], ◌∷◌, length}
use Rattle.std.specs.Prelude.{nat_le, Ok, Err}
use Rattle.std.specs.List.{list_all}
use Rattle.wasm_values.specs.declared.limit.LimitWord.TheVariants as limit
use Rattle.term_trees.specs.declared.term.Formula.{Formula}
use Rattle.term_trees.specs.Formulas.{formula_nodes}
use Rattle.notes.specs.declared.chunk.Chunk.{Chunk}
use Rattle.outline_rules.specs.Refusals.{Ruling, limited, ◌>>◌}
use Rattle.outline_rules.specs.States.{State, nodes_of, settled, with_facts, fact_added, with_more_chunks}
use Rattle.outline_rules.specs.HeapMoves.{parts_nodes}
use Rattle.outline_rules.specs.Renewal.{chunk_added}

after : (r : Ruling (Unit {0})) (s t : State) → (r >> Ok s) ≡ Ok t → t ≡ s
after (Ok u) s t is = let same : Ok s ≡ Ok t = is in cc
after (Err e) s t is = let never : Err e ≡ Ok t = is in cc

pub settled-same : (made : List ℕ) (s t : State) → settled made s ≡ Ok t → t ≡ s
unfolding settled
settled-same made s t is =
    after
    (limited limit.Nodes (list_all (λ n. nat_le n 4096) made) >> limited limit.Variables (nat_le s.vars 1000000) >> limited limit.Facts (nat_le (length s.facts) 4096)
    >> limited limit.Chunks (nat_le (length s.chunks) 1024) >> limited limit.State (nat_le (nodes_of s) 1000000))
    s t is

pub fact-added-same : (f : Formula) (s t : State) → fact_added f s ≡ Ok t → t ≡ with_facts (f ∷ []) s
fact-added-same f s t is = settled-same (formula_nodes f ∷ []) (with_facts (f ∷ []) s) t is

pub chunk-added-same : (c : Chunk) (s t : State) → chunk_added c s ≡ Ok t → t ≡ with_more_chunks (c ∷ []) s
chunk-added-same c s t is = settled-same (parts_nodes c) (with_more_chunks (c ∷ []) s) t is

pub ruleset settled_states = (settled-same)

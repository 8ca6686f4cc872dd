-- The topmost entries, gathered from the last of them on.
use Rattle.std.specs.Prelude.{◌≡◌, ◌<◌, ◌≤◌, ℕ, List, length, map, take, drop, reverse}
use Rattle.std.specs.List.{All}
use Rattle.wasm_values.specs.declared.number.ValType.{ValType}
use Rattle.term_trees.specs.declared.term.Term.{Term}
use Rattle.term_logic.specs.Table.{tree_at}
use Rattle.symbolic_state.specs.States.{Tracked}

-- the terms of entries, the last first
abbrev pub terms_turned : List (ValType × Term) → List Term
terms_turned es = reverse (map (λ e. e.1) es)

-- of the topmost n operands those from place k on are gathered, the last first
pub record Gathered (t : Tracked) (n k : ℕ) (ids : List ℕ) : Type 0 where
  pub low : k ≤ n
  pub terms : map (tree_at t.terms) ids ≡ terms_turned (drop k (take n t.state.operands))
  pub within : All (λ id. id < length t.terms) ids

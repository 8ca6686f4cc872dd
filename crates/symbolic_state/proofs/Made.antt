-- Terms that are made within the limit.
use Rattle.std.proofs.Common.{◌≡◌, ℕ, ◌≤◌, ◌<◌, Bool, true, false, ◌&&◌, [], ◌∷◌, length, refl, ap, List, arith}
use Rattle.std.specs.Prelude.{nat_le, Ok, Err}
use Rattle.std.proofs.lemmas.Bool.{lt-leb, le-leb}
use Rattle.wasm_values.specs.declared.limit.LimitWord.TheVariants as limit
use Rattle.wasm_values.specs.declared.number.ValType.{ValType}
use Rattle.term_trees.specs.declared.term.Term.{Term}
use Rattle.term_trees.specs.Terms.{node_count}
use Rattle.term_logic.specs.declared.table.TermCell.{TermCell}
use Rattle.term_logic.specs.Table.{tree_here, cell_nodes}
use Rattle.term_logic.proofs.Trees.{node_count_tree_here, tree_here_add, tree_here_sub, tree_here_mul, tree_here_one, tree_here_two, tree_here_low, tree_here_sext}
use Rattle.outline_rules.specs.Refusals.{PastLimit, limited, within, ◌>>◌}
use Rattle.outline_rules.specs.States.{State, nodes_of, settled, with_top, pushed}
use Rattle.outline_rules.specs.Memory.{made_pushed}
use Rattle.symbolic_state.specs.Making.{made}

module _ (ts : List Term) (cell : TermCell) (n : ℕ) (count : n ≡ cell_nodes ts cell) where
  pub made-large : 4096 < n → made (tree_here ts cell) ≡ Err (PastLimit limit.Nodes)
  made-large h = ap (λ b. limited limit.Nodes b >> Ok (tree_here ts cell)) (lt-leb (node_count (tree_here ts cell)) 4096 (omega (arith, node_count_tree_here ts cell, count)))

  pub made-small : n ≤ 4096 → made (tree_here ts cell) ≡ Ok (tree_here ts cell)
  made-small h = ap (λ b. limited limit.Nodes b >> Ok (tree_here ts cell)) (le-leb (node_count (tree_here ts cell)) 4096 (omega (arith, node_count_tree_here ts cell, count)))

pub ruleset made_cells = (made-large, made-small)

pub ruleset makings = (tree_here_add, tree_here_sub, tree_here_mul, tree_here_one, tree_here_two, tree_here_low, tree_here_sext)

-- a made term is pushed where it is within its limit
module _ (ty : ValType) (t : Term) (s : State) where
  pub made-settled : (u : State) → settled (node_count t ∷ []) u ≡ (made t >> settled [] u)
  unfolding settled
  made-settled u = by_small (nat_le (node_count t) 4096)
    where
      by_small : (b : Bool) → (limited limit.Nodes (b && true) >> within limit.Variables 1000000 u.vars >> within limit.Facts 4096 (length u.facts)
          >> within limit.Chunks 1024 (length u.chunks) >> within limit.State 1000000 (nodes_of u) >> Ok u)
          ≡ ((limited limit.Nodes b >> Ok t) >> (within limit.Variables 1000000 u.vars >> within limit.Facts 4096 (length u.facts)
          >> within limit.Chunks 1024 (length u.chunks) >> within limit.State 1000000 (nodes_of u) >> Ok u))
      by_small true = refl
      by_small false = refl

  pub made-pushed : made_pushed ty t s ≡ (made t >> pushed ty t s)
  made-pushed = made-settled (with_top ty t s)

pub ruleset pushes = (made-pushed)

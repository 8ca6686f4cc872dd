use Rattle.std.proofs.Common.{◌≡◌, min, take, sum_by}
use Rattle.std.specs.Prelude.{option_map}
use Rattle.term_logic.specs.Table.{tree_at}
use Rattle.symbolic_state.specs.words.Sizes.{option_nodes}
use Rattle.symbolic_state.proofs.parts.globals_size.Given as goal

abbrev pub invariant-loop-global : goal.invariant-loop-global
invariant-loop-global l = l.nodes ≡ min (sum_by (λ o. option_nodes (option_map (tree_at l.table) o)) (take l.global-index l.globals)) 18446744073709551615

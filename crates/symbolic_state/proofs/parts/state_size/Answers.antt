use Rattle.std.proofs.Common.{rules, ◌≡◌, ◌∙◌, sym, ap, map, min, sum_by}
use Rattle.std.specs.Prelude.{option_map}
use Rattle.term_trees.specs.Terms.{node_count}
use Rattle.term_trees.specs.Formulas.{formula_nodes}
use Rattle.term_logic.specs.Table.{tree_at}
use Rattle.term_logic.specs.Formulas.{formula_of}
use Rattle.heap_logic.specs.Heaps.{chunk_of}
use Rattle.outline_rules.specs.Chunks.{chunk_nodes}
use Rattle.symbolic_state.specs.States.{state_of}
use Rattle.symbolic_state.specs.words.Sizes.{option_nodes}
use Rattle.symbolic_state.proofs.Counting.{nodes-parts}
use Rattle.symbolic_state.proofs.Sized.{entries-sum, stack-sum, globals-sum, summed}
use Rattle.symbolic_state.proofs.parts.state_size.Goals as goal

pub returns : goal.returns
returns c =
    let ts = c.args.table.now in
    let s = c.args.state.now in
    let facts : c.facts_size-facts.result ≡ min (sum_by formula_nodes (map (formula_of ts) s.heap.facts)) 18446744073709551615 = search rules in
    let chunks : c.chunks_size-chunks.result ≡ min (sum_by chunk_nodes (map (chunk_of ts) s.heap.chunks)) 18446744073709551615 = search rules in
    let locals : c.entries_size-locals.result ≡ min (sum_by node_count (map (λ e. tree_at ts e.1) s.locals)) 18446744073709551615 = search rules in
    let stack : c.entries_size-stack.result ≡ min (sum_by node_count (map (λ e. tree_at ts e.1) s.stack)) 18446744073709551615 = search rules in
    let globals : c.globals_size-globals.result ≡ min (sum_by (λ o. option_nodes (option_map (tree_at ts) o)) s.globals) 18446744073709551615 = search rules in
    summed 18446744073709551615 _ _ _ _ _ _ _ _ _ _ _ _ _ _ _ _ _ facts chunks
    (locals ∙ ap (λ n. min n 18446744073709551615) (entries-sum ts s.locals))
    (stack ∙ ap (λ n. min n 18446744073709551615) (stack-sum ts s.stack))
    (globals ∙ ap (λ n. min n 18446744073709551615) (globals-sum ts s.globals))
    c.option_size-pages.ensures.nodes
    c.saturating_add-heap.ensures c.saturating_add-with_locals.ensures c.saturating_add-with_stack.ensures c.saturating_add-with_globals.ensures c.saturating_add.ensures
    ∙ ap (λ n. min n 18446744073709551615) (sym (nodes-parts (state_of ts s)))

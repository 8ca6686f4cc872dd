use Rattle.std.proofs.Common.{◌≡◌, ◌≤◌, [], map, min, sum_by, sym, ap, subst, ◌∙◌, arith}
use Rattle.outline_rules.specs.Chunks.{chunk_nodes}
use Rattle.outline_rules.specs.States.{nodes_of, with_chunks}
use Rattle.heap_logic.specs.Heaps.{chunk_of}
use Rattle.symbolic_state.specs.States.{state_of, Tracked}
use Rattle.symbolic_state.proofs.LeftOver.{nodes-of-chunks}
use Rattle.symbolic_state.proofs.tracked.TrackedState.put_chunks.Goals as goal

pub overflow_add-self : goal.overflow_add-self
overflow_add-self c =
    let s = c.self.inside in
    let room = subst (λ (t : Tracked). nodes_of (with_chunks (map (chunk_of t.terms) c.args.chunks) t.state) ≤ 1000000) (sym c.self.view_is) c.requires.room in
    let none = subst (λ (t : Tracked). t.state.chunks ≡ []) (sym c.self.view_is) c.requires.none in
    let size = c.chunks_size-size.ensures ∙ ap (λ cs. min (sum_by chunk_nodes (map (chunk_of s.table) cs)) 18446744073709551615) c.as_slice.ensures in
    omega (arith, room, size, c.self.invariant.nodes, nodes-of-chunks (map (chunk_of s.table) c.args.chunks) (state_of s.table s.state) none)

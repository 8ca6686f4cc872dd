use Rattle.std.proofs.Common.{◌≡◌, ℕ, ap, sym, refl, subst, IfOk, map, length, ◌∙◌}
use Rattle.wasm_values.specs.Answers.{Gives}
use Rattle.term_logic.specs.Table.{tree_at}
use Rattle.heap_logic.specs.Faults.{refusal_of}
use Rattle.heap_logic.specs.Heaps.{seen}
use Rattle.outline_rules.specs.States.{State, nodes_of}
use Rattle.outline_rules.specs.HeapMoves.{heap_moved}
use Rattle.symbolic_state.specs.States.{state_of}
use Rattle.symbolic_state.proofs.Placed.{slots-within, are-slots}
use Rattle.symbolic_state.proofs.HeapMoved.{seen-old, seen-new, moved-same, moved-grown, on-err, on-ok-both}
use Rattle.symbolic_state.proofs.moving.move_heap.Goals as goal

pub apply-requires-clause-leaves : goal.apply-requires-clause-leaves
apply-requires-clause-leaves c =
    slots-within (length c.args.table.now) c.args.state.now c.slots_from-slots.result (c.slots_from-slots.ensures c.args.state.now refl refl refl refl refl) c.requires.within

pub apply-requires-clause-slots : goal.apply-requires-clause-slots
apply-requires-clause-slots c = are-slots c.args.state.now c.slots_from-slots.result (c.slots_from-slots.ensures c.args.state.now refl refl refl refl refl)

pub apply-requires-clause-nodes : goal.apply-requires-clause-nodes
apply-requires-clause-nodes c =
    c.requires.nodes
    ∙ sym (ap nodes_of (seen-old c.args.table.now c.args.table.now c.args.state.now c.slots_from-slots.result (c.slots_from-slots.ensures c.args.state.now refl refl refl refl refl) c.requires.within))

pub returns-clause-moved : goal.returns-clause-moved
returns-clause-moved c =
    let old = c.args.table.now in
    let new = c.apply.new.table in
    let s = c.args.state.now in
    let l = c.slots_from-slots.result in
    let at = c.slots_from-slots.ensures s refl refl refl refl refl in
    let before : record (seen old s.heap l) { given = map (tree_at old) s.given } ≡ state_of old s = seen-old old new s l at c.requires.within in
    let after : record (seen new c.apply.new.heap l) { given = map (tree_at old) s.given } ≡ state_of new (record s { heap = c.apply.new.heap }) = seen-new old new s l at c.requires.within c.apply.ensures.kept c.apply.new.heap in
    subst (λ (t : State). Gives refusal_of (λ _. t) c.apply.result (heap_moved c.args.m.now (state_of old s))) after
    (subst (λ (t : State). Gives refusal_of (λ _. record (seen new c.apply.new.heap l) { given = map (tree_at old) s.given }) c.apply.result (heap_moved c.args.m.now t)) before
    (c.apply.ensures.moved (map (tree_at old) s.given)))

pub returns-clause-nodes : goal.returns-clause-nodes
returns-clause-nodes c =
    let s = c.args.state.now in
    let l = c.slots_from-slots.result in
    let at = c.slots_from-slots.ensures s refl refl refl refl refl in
    subst (λ (k : ℕ). IfOk c.apply.result (λ n. n ≡ k)) (ap nodes_of (seen-new c.args.table.now c.apply.new.table s l at c.requires.within c.apply.ensures.kept c.apply.new.heap)) c.apply.ensures.nodes

pub returns-clause-err : goal.returns-clause-err
returns-clause-err c =
    let s = c.args.state.now in
    let at = c.slots_from-slots.ensures s refl refl refl refl refl in
    on-err _ _ c.apply.result (moved-same c.args.table.now c.apply.new.table s c.slots_from-slots.result at c.requires.within c.apply.ensures.kept c.apply.new.heap) c.apply.ensures.err

pub returns-clause-kept : goal.returns-clause-kept
returns-clause-kept c =
    let s = c.args.state.now in
    let at = c.slots_from-slots.ensures s refl refl refl refl refl in
    on-ok-both _ _ _ c.apply.result (moved-grown c.args.table.now c.apply.new.table s c.slots_from-slots.result at c.requires.within c.apply.ensures.kept c.apply.new.heap)
    c.apply.ensures.facts c.apply.ensures.variables

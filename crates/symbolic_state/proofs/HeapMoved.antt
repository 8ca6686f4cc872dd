-- Heap moves on a state over a table.
use Rattle.std.proofs.Common.{◌≡◌, ℕ, ◌≤◌, Bool, true, false, List, length, map, take, reverse, Result, Ok, Err, OnOk, OnErr, refl, sym, ap, subst, ◌∙◌}
use Rattle.std.specs.Prelude.{nat_le, option_map}
use Rattle.std.specs.List.{take-map}
use Rattle.std.proofs.lemmas.Bool.{leb-true}
use Rattle.std.proofs.lemmas.List.{length-map}
use Rattle.wasm_values.specs.declared.limit.LimitWord.TheVariants as limit
use Rattle.wasm_values.specs.Answers.{Gives}
use Rattle.term_trees.specs.declared.term.Term.{Term}
use Rattle.term_logic.specs.declared.leaves.LeafIds.{LeafIds}
use Rattle.term_logic.specs.Table.{tree_at}
use Rattle.term_logic.specs.Formulas.{formula_of}
use Rattle.term_logic.specs.Extends.{Extends}
use Rattle.notes.specs.declared.heap_move.HeapMove.{HeapMove}
use Rattle.heap_logic.specs.declared.heap.SymHeap.{SymHeap}
use Rattle.heap_logic.specs.declared.fault.MoveFault.{MoveFault}
use Rattle.heap_logic.specs.Faults.{refusal_of}
use Rattle.heap_logic.specs.Heaps.{seen, HeapWithin}
use Rattle.heap_logic.specs.words.Effects.{Effect, after, fitting}
use Rattle.heap_logic.specs.words.Planned.{planned}
use Rattle.heap_logic.proofs.Moved.{done}
use Rattle.heap_logic.proofs.Planning.{moved-is}
use Rattle.outline_rules.specs.Refusals.{Ruling, limited, ◌>>=◌, ◌>>◌}
use Rattle.outline_rules.specs.States.{State, nodes_of}
use Rattle.outline_rules.specs.Leaves.{move_leaves}
use Rattle.outline_rules.specs.HeapMoves.{heap_moved}
use Rattle.symbolic_state.specs.declared.state.SymState.{SymState}
use Rattle.symbolic_state.specs.States.{entry_at, state_of, StateWithin, WithinLimits}
use Rattle.symbolic_state.specs.Growth.{Grown}
use Rattle.symbolic_state.specs.words.Entries.{AreSlotsOf}
use Rattle.symbolic_state.proofs.Growing.{state-kept, state-more}

-- ---- what a move leaves within the limits

fits : (u t : State) (a b c d : Bool) → (limited limit.Variables a >> limited limit.Facts b >> limited limit.Chunks c >> limited limit.State d >> Ok u) ≡ Ok t
    → (a ≡ true) × (b ≡ true) × (c ≡ true) × (d ≡ true) × (u ≡ t)
fits u t true true true true e = (refl, refl, refl, refl, cc)
fits u t true true true false e = absurd cc
fits u t true true false d e = absurd cc
fits u t true false c d e = absurd cc
fits u t false b c d e = absurd cc

fitting-limits : (u t : State) → fitting u ≡ Ok t → WithinLimits t
fitting-limits u t e =
    let all = fits u t (nat_le u.vars 1000000) (nat_le (length u.facts) 4096) (nat_le (length u.chunks) 1024) (nat_le (nodes_of u) 1000000) e in
    let limits : WithinLimits u = record {
      variables = leb-true u.vars 1000000 all.0;
      facts = leb-true (length u.facts) 4096 all.1;
      chunks = leb-true (length u.chunks) 1024 all.2;
      nodes = leb-true (nodes_of u) 1000000 all.3;
    } in
    subst WithinLimits all.4 limits

planned-limits : (s t : State) (r : Ruling Effect) → (r >>= done s) ≡ Ok t → WithinLimits t
planned-limits s t (Ok e) is = fitting-limits (after e s) t is
planned-limits s t (Err e) is = absurd cc

pub moved-limits : (m : HeapMove) (s t : State) → heap_moved m s ≡ Ok t → WithinLimits t
moved-limits m s t is = planned-limits s t (planned m (move_leaves s) s) (sym (moved-is m s) ∙ is)

-- whatever a move answers
pub limits-after : (m : HeapMove) (s t : State) (r : Result ℕ MoveFault) → Gives refusal_of (λ x. t) r (heap_moved m s) → OnErr r (t ≡ s) → WithinLimits s → WithinLimits t
limits-after m s t (Ok n) is stays w = moved-limits m s t is
limits-after m s t (Err e) is stays w = subst WithinLimits (sym stays) w

-- ---- a heap and its slots as a state

module _ (old new : List Term) (s : SymState) (l : LeafIds) (slots : AreSlotsOf s l) (w : StateWithin (length old) s) where
  pub seen-old : record (seen old s.heap l) { given = map (tree_at old) s.given } ≡ state_of old s
  seen-old = λ j. record (state_of old s) {
    locals = map (entry_at old) (slots.locals j);
    operands = map (entry_at old) (reverse (slots.stack j));
    globals = map (option_map (tree_at old)) (slots.globals j);
    pages = option_map (tree_at old) (slots.pages j);
    args = map (tree_at old) (slots.args j);
  }

  module _ (more : Extends old new) (heap : SymHeap) where
    abbrev moved : SymState
    moved = record s { heap = heap }

    pub seen-new : record (seen new heap l) { given = map (tree_at old) s.given } ≡ state_of new moved
    seen-new = λ j. record (state_of new moved) {
      locals = map (entry_at new) (slots.locals j);
      operands = map (entry_at new) (reverse (slots.stack j));
      globals = map (option_map (tree_at new)) (slots.globals j);
      pages = option_map (tree_at new) (slots.pages j);
      args = map (tree_at new) (slots.args j);
      given = sym (more.trees s.given w.given) j;
    }

    pub moved-within : HeapWithin (length new) heap → StateWithin (length new) moved
    moved-within h =
        let others = state-more (length old) (length new) more.longer s w in
        record { heap = h; locals = others.locals; stack = others.stack; globals = others.globals; pages = others.pages; args = others.args; given = others.given }

    pub moved-same : heap ≡ s.heap → state_of new moved ≡ state_of old s
    moved-same is = ap (λ h. state_of new (record s { heap = h })) is ∙ state-kept old new more s w

    pub moved-grown : take (length s.heap.facts) heap.facts ≡ s.heap.facts → s.heap.vars ≤ heap.vars
        → Grown (record { terms = old; state = state_of old s }) (record { terms = new; state = state_of new moved })
    moved-grown facts vars = record {
      terms = more;
      facts =
          ap (λ n. take n (map (formula_of new) heap.facts)) (length-map s.heap.facts (formula_of old)) ∙ take-map (formula_of new) (length s.heap.facts) heap.facts
          ∙ ap (map (formula_of new)) facts ∙ more.formulas s.heap.facts w.heap.facts;
      vars = vars;
      args = more.trees s.args w.args;
      given = more.trees s.given w.given;
    }

-- what follows from what is known of a refusal, or of what is given
pub on-err : {A E : Type 0} (P Q : Type 0) (r : Result A E) → (P → Q) → OnErr r P → OnErr r Q
on-err P Q (Ok a) f h = tt
on-err P Q (Err e) f h = f h

pub on-ok-both : {A E : Type 0} (P Q R : Type 0) (r : Result A E) → (P → Q → R) → OnOk r P → OnOk r Q → OnOk r R
on-ok-both P Q R (Ok a) f g h = f g h
on-ok-both P Q R (Err e) f g h = tt

pub ruleset limits_kept = (limits-after)

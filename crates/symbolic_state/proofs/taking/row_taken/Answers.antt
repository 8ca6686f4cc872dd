use Rattle.std.proofs.Common.{◌≡◌, Option, Ok, Err, IfSome, sym, subst}
use Rattle.term_trees.specs.Leaves.{Leaves}
use Rattle.term_logic.specs.Formulas.{formula_of}
use Rattle.heap_logic.specs.Faults.{refusal_of}
use Rattle.outline_rules.specs.Refusals.{Refusal}
use Rattle.outline_rules.specs.Leaves.{move_leaves, in_row, taken_formula}
use Rattle.symbolic_state.specs.States.{state_of}
use Rattle.symbolic_state.proofs.Taken.{slot-leaves-are}
use Rattle.symbolic_state.proofs.taking.row_taken.Goals as goal

pub returns-in-Ok-clause-taken : goal.returns-in-Ok-clause-taken
returns-in-Ok-clause-taken c =
    subst (λ (l : Leaves). taken_formula (in_row l) c.args.f.now ≡ Ok (formula_of c.taken_formula.new.table c.in-Ok.taken))
    (slot-leaves-are c.args.table.now c.args.state.now.heap.vars c.args.state.now c.slots_of-slots.result c.slots_of-slots.ensures) c.in-Ok.ensures.taken

pub returns-in-Err-clause-taken : goal.returns-in-Err-clause-taken
returns-in-Err-clause-taken c =
    subst (λ (o : Option Refusal). IfSome o (λ e. taken_formula (in_row (move_leaves (state_of c.args.table.now c.args.state.now))) c.args.f.now ≡ Err e)) (sym c.from.ensures)
    (subst (λ (l : Leaves). IfSome (refusal_of c.in-Err.fault) (λ e. taken_formula (in_row l) c.args.f.now ≡ Err e))
    (slot-leaves-are c.args.table.now c.args.state.now.heap.vars c.args.state.now c.slots_of-slots.result c.slots_of-slots.ensures) c.in-Err.ensures.taken)

use Rattle.std.proofs.Common.{subst}
use Rattle.wasm_values.specs.Answers.{Gives}
use Rattle.term_trees.specs.Leaves.{Leaves}
use Rattle.term_logic.specs.Formulas.{formula_of}
use Rattle.symbolic_state.specs.Refused.{refusal_of}
use Rattle.outline_rules.specs.Leaves.{taken_formula}
use Rattle.symbolic_state.proofs.Taken.{slot-leaves-are, taken-within}
use Rattle.symbolic_state.specs.States.{state_of}
use Rattle.outline_rules.specs.Leaves.{leaves_with}
use Rattle.symbolic_state.proofs.taking.formula_taken.Goals as goal

pub returns-clause-taken : goal.returns-clause-taken
returns-clause-taken c =
    subst (λ (l : Leaves). Gives refusal_of (formula_of c.taken_formula_by.new.table) c.taken_formula_by.result (taken_formula l c.args.f.now))
    (slot-leaves-are c.args.table.now c.args.variables c.args.state.now c.slots_of-slots.result c.slots_of-slots.ensures) c.taken_formula_by.ensures.taken

pub returns-clause-small : goal.returns-clause-small
returns-clause-small c = taken-within _ refusal_of _ (leaves_with c.args.variables (state_of c.args.table.now c.args.state.now)) c.args.f.now c.taken_formula_by.result (returns-clause-taken c)

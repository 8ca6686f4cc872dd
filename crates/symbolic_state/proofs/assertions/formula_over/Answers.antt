use Rattle.std.proofs.Common.{subst}
use Rattle.wasm_values.specs.Answers.{Gives}
use Rattle.term_trees.specs.Leaves.{Leaves, replaced_formula}
use Rattle.term_logic.specs.Formulas.{formula_of}
use Rattle.symbolic_state.specs.Refused.{refusal_of}
use Rattle.symbolic_state.specs.words.Instances.{small_formula}
use Rattle.symbolic_state.proofs.AssertionLeaves.{leaves-are}
use Rattle.symbolic_state.proofs.assertions.formula_over.Goals as goal

pub returns-clause-put : goal.returns-clause-put
returns-clause-put c =
    let a = c.args.terms.now in
    subst (λ (l : Leaves). Gives refusal_of (formula_of c.put_formula.new.table) c.put_formula.result (small_formula (replaced_formula l c.args.f.now)))
    (leaves-are c.args.state.now a.own.now a.args.now a.result c.leaves_over-leaves.result c.leaves_over-leaves.ensures c.args.table.now) c.put_formula.ensures.put

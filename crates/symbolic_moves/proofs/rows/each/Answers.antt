use Rattle.std.proofs.Common.{subst}
use Rattle.wasm_values.specs.Answers.{Gives}
use Rattle.term_logic.specs.Formulas.{formula_of}
use Rattle.symbolic_state.specs.Refused.{refusal_of}
use Rattle.symbolic_moves.proofs.Celled.{each-is}
use Rattle.symbolic_moves.proofs.rows.each.Goals as goal

pub returns-clause-done : goal.returns-clause-done
returns-clause-done c =
    let taken = c.taken_row.new.self in
    subst (Gives refusal_of (λ _. c.each_of.new.state.state) c.each_of.result)
    (each-is c.args.c c.args.f.now (formula_of taken.terms c.in_ok-each.each) c.args.steps.now c.args.state.now.state taken.state c.in_ok-each.ensures.taken c.in_ok-each.ensures.state)
    c.each_of.ensures.done

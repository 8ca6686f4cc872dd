use Rattle.std.proofs.lemmas.Result.{err_from_is_err_and}
use Rattle.symbolic_state.specs.Refused.{refusal_of}
use Rattle.symbolic_renewal.proofs.Assumed.{facts-next, facts-stop}
use Rattle.symbolic_renewal.proofs.assuming.assume_facts.Goals as goal

pub returns-in_err-add_formula_of-clause-done : goal.returns-in_err-add_formula_of-clause-done
returns-in_err-add_formula_of-clause-done c =
    let p = err_from_is_err_and c.from_residual.result c.from_residual.ensures.1 in
    rw (p.1, p.2)
    (facts-stop c.args.state.now c.loop-formula.state c.args.terms.now c.args.formulas.now c.loop-formula.formula-index c.loop-formula.invariant c.formula-item.result c.loop-formula-test.true c.formula-item.is (refusal_of c.in_err-add_formula_of.field-0.0) c.in_err-add_formula_of.ensures.done)

pub loop-formula-preserved : goal.loop-formula-preserved
loop-formula-preserved c =
    facts-next c.args.state.now c.loop-formula.state c.args.terms.now c.args.formulas.now c.loop-formula.formula-index c.loop-formula.invariant c.formula-item.result c.loop-formula-test.true c.formula-item.is
    c.add_formula_of.new.self c.in_ok-add_formula_of.ensures.done c.in_ok-add_formula_of.ensures.kept

use Rattle.derivation_check.proofs.FactLemmas.{extends_trans}
use Rattle.notes_tests.proofs.Puttings.{put_one}
use Rattle.notes_tests.proofs.lemmas.put_all.Goals as goal

pub returns-in_err-put_formula-clause-kept : goal.returns-in_err-put_formula-clause-kept
returns-in_err-put_formula-clause-kept c = extends_trans _ _ _ c.loop-formula.invariant.grown c.put_formula.ensures.kept

pub returns-in_err-push-clause-kept : goal.returns-in_err-push-clause-kept
returns-in_err-push-clause-kept c = extends_trans _ _ _ c.loop-formula.invariant.grown c.put_formula.ensures.kept

pub loop-formula-preserved : goal.loop-formula-preserved
loop-formula-preserved c =
    put_one c.args.table.now c.loop-formula.table c.args.formulas.now c.loop-formula.formula-index c.loop-formula.ids c.formula-item.result c.loop-formula-test.true c.formula-item.is c.loop-formula.invariant
    c.put_formula.new.self c.in_ok-put_formula.field-0 c.push.new.self c.put_formula.ensures.kept c.in_ok-put_formula.ensures.within c.in_ok-put_formula.ensures.tree c.in_ok-push.ensures.ok

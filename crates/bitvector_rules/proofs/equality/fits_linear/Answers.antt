use Rattle.std.proofs.Common.{rules, ◌≡◌, Bor, List, map, Some, ap, ◌∙◌}
use Rattle.term_logic.specs.declared.formula.IdFormula.{IdFormula}
use Rattle.term_logic.specs.Formulas.{formula_of}
use Rattle.term_trees.specs.Same.{passes}
use Rattle.equality_rules.specs.Linear.{is_linear}
use Rattle.bitvector_rules.specs.Facts.{premises, hyps_of, earlier_of}
use Rattle.bitvector_rules.proofs.equality.fits_linear.Goals as goal

pub returns : goal.returns
returns c =
    let found : Some (map (λ (f : Bor IdFormula). formula_of c.args.table.now f.now) c.in-Some.premises.items) ≡ premises (hyps_of c.args.table.now c.args.facts.now) (earlier_of c.args.table.now c.args.facts.now) c.args.refs.now = search rules in
    let same : c.deref.result.now ≡ c.in-Some.premises.items = search rules in
    c.in_ok-fits.ensures
    ∙ ap (λ (v : List (Bor IdFormula)). is_linear (map (λ (f : Bor IdFormula). formula_of c.args.table.now f.now) v) c.args.numbers.now (formula_of c.args.table.now c.args.conclusion.now)) same
    ∙ ap (λ o. passes o (λ fs. is_linear fs c.args.numbers.now (formula_of c.args.table.now c.args.conclusion.now))) found

use Rattle.std.proofs.Common.{ap, ◌∙◌}
use Rattle.term_trees.specs.Formulas.{well_formed_formula}
use Rattle.term_trees.proofs.Truths.{and_true}
use Rattle.term_logic.proofs.FormulaLayers.{sound-compared, sound-joined}
use Rattle.term_logic.proofs.table.TermTable.+formula_trees.Goals as goal

pub formula_tree-returns-in_ok-b-in-Compared-clause-well_formed : goal.formula_tree-returns-in_ok-b-in-Compared-clause-well_formed
formula_tree-returns-in_ok-b-in-Compared-clause-well_formed t c =
    ap well_formed_formula c.claim.ensures
    ∙ sound-compared c.in_ok-a-in-Compared.a c.in_ok-b-in-Compared.b c.in-Compared.relation
    ∙ and_true _ _ c.in_ok-a-in-Compared.ensures.well_formed c.in_ok-b-in-Compared.ensures.well_formed

pub formula_tree-returns-in_ok-g-in-Joined-clause-well_formed : goal.formula_tree-returns-in_ok-g-in-Joined-clause-well_formed
formula_tree-returns-in_ok-g-in-Joined-clause-well_formed t c =
    ap well_formed_formula c.claim-in-Joined.ensures
    ∙ sound-joined c.in_ok-f-in-Joined.f c.in_ok-g-in-Joined.g c.in-Joined.connective
    ∙ and_true _ _ c.in_ok-f-in-Joined.ensures.well_formed c.in_ok-g-in-Joined.ensures.well_formed

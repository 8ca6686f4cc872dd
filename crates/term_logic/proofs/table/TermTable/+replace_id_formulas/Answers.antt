use Rattle.std.proofs.Common.{◌≡◌, ◌≤◌, max, length, arith, sym, ap, subst, ◌∙◌}
use Rattle.term_trees.specs.declared.term.Formula.TheVariants as tree
use Rattle.term_logic.specs.Leaves.{leaves_of}
use Rattle.term_logic.specs.Formulas.{formula_bound, formula_of}
use Rattle.term_trees.specs.Leaves.{replaced_formula}
use Rattle.term_logic.specs.words.FormulaParts.{compared, joined}
use Rattle.term_logic.proofs.Formulas.{formula_of-true, formula_of-false, formula_of-not}
use Rattle.term_logic.proofs.FormulaLayers.{of-compared, of-joined, bound-joined}
use Rattle.term_logic.proofs.IdFormulas.{true-of, false-of, replaced-true, replaced-false, compared-size, compared-replaced, not-bound, not-own, not-size, not-replaced, joined-bound, joined-own, joined-size, joined-replaced}
use Rattle.term_logic.proofs.table.TermTable.+replace_id_formulas.Goals as goal

pub put_replaced_id_formula-put_two_replaced_ids-requires-clause-small : goal.put_replaced_id_formula-put_two_replaced_ids-requires-clause-small
put_replaced_id_formula-put_two_replaced_ids-requires-clause-small t c =
    omega (arith, c.requires.small, compared-size c.args.self.now (leaves_of c.args.self.now c.args.leaves.now) c.args.f.now c.in-Compared.relation _ _ c.in-Compared.ensures)

pub put_replaced_id_formula-put_boxed_id_formula-requires : goal.put_replaced_id_formula-put_boxed_id_formula-requires
put_replaced_id_formula-put_boxed_id_formula-requires t c =
    let ts = c.args.self.now in
    let ls = leaves_of ts c.args.leaves.now in
    let f = c.args.f.now in
    let g = c.in-Not.f.now in
    let is = c.in-Not.ensures in
    (omega (arith, c.decreases, not-own ts ls f g is), (omega (arith, c.requires.within, not-bound ts ls f g is), (c.requires.leaves, omega (arith, c.requires.small, not-size ts ls f g is))))

pub put_replaced_id_formula-put_two_id_formulas-requires : goal.put_replaced_id_formula-put_two_id_formulas-requires
put_replaced_id_formula-put_two_id_formulas-requires t c =
    let ts = c.args.self.now in
    let ls = leaves_of ts c.args.leaves.now in
    let f = c.args.f.now in
    let g = c.in-Joined.f.now in
    let h = c.in-Joined.g.now in
    let way = c.in-Joined.connective in
    let is = c.in-Joined.ensures in
    let low : formula_bound f ≡ max (formula_bound g) (formula_bound h) = joined-bound ts ls f way g h is in
    (omega (arith, c.decreases, joined-own ts ls f way g h is), (omega (arith, c.requires.within, low), (omega (arith, c.requires.within, low), (c.requires.leaves, omega (arith, c.requires.small, joined-size ts ls f way g h is)))))

pub put_replaced_id_formula-returns-in-True-clause-tree : goal.put_replaced_id_formula-returns-in-True-clause-tree
put_replaced_id_formula-returns-in-True-clause-tree t c =
    let ts = c.args.self.now in
    let ls = leaves_of ts c.args.leaves.now in
    formula_of-true ts ∙ sym (ap (replaced_formula ls) (true-of ts ls c.args.f.now c.in-True.ensures) ∙ replaced-true ts ls c.args.f.now)

pub put_replaced_id_formula-returns-in-False-clause-tree : goal.put_replaced_id_formula-returns-in-False-clause-tree
put_replaced_id_formula-returns-in-False-clause-tree t c =
    let ts = c.args.self.now in
    let ls = leaves_of ts c.args.leaves.now in
    formula_of-false ts ∙ sym (ap (replaced_formula ls) (false-of ts ls c.args.f.now c.in-False.ensures) ∙ replaced-false ts ls c.args.f.now)

pub put_replaced_id_formula-returns-in_ok-a-in-Compared-clause-tree : goal.put_replaced_id_formula-returns-in_ok-a-in-Compared-clause-tree
put_replaced_id_formula-returns-in_ok-a-in-Compared-clause-tree t c =
    let ts = c.args.self.now in
    let us = c.put_two_replaced_ids.new.self in
    let way = c.in-Compared.relation in
    ap (formula_of us) c.over.ensures
    ∙ of-compared c.in_ok-a-in-Compared.a c.in_ok-a-in-Compared.b us way
    ∙ (λ j. compared way (c.in_ok-a-in-Compared.ensures.first j) (c.in_ok-a-in-Compared.ensures.second j))
    ∙ sym (compared-replaced ts (leaves_of ts c.args.leaves.now) c.args.f.now way _ _ c.in-Compared.ensures)

pub put_replaced_id_formula-returns-in_ok-f-in-Not-clause-tree : goal.put_replaced_id_formula-returns-in_ok-f-in-Not-clause-tree
put_replaced_id_formula-returns-in_ok-f-in-Not-clause-tree t c =
    let ts = c.args.self.now in
    formula_of-not c.put_boxed_id_formula.new.self c.in_ok-f-in-Not.f
    ∙ ap (λ g. tree.Not g) c.in_ok-f-in-Not.ensures.tree
    ∙ sym (not-replaced ts (leaves_of ts c.args.leaves.now) c.args.f.now _ c.in-Not.ensures)

pub put_replaced_id_formula-returns-in_ok-f-in-Joined-clause-within : goal.put_replaced_id_formula-returns-in_ok-f-in-Joined-clause-within
put_replaced_id_formula-returns-in_ok-f-in-Joined-clause-within t c =
    let within = c.in_ok-f-in-Joined.ensures.within in
    subst (λ h. formula_bound h ≤ length c.put_two_id_formulas.new.self) (sym c.over-in-Joined.ensures) (omega (arith, bound-joined c.in_ok-f-in-Joined.f c.in_ok-f-in-Joined.g c.in-Joined.connective, within.0, within.1))

pub put_replaced_id_formula-returns-in_ok-f-in-Joined-clause-tree : goal.put_replaced_id_formula-returns-in_ok-f-in-Joined-clause-tree
put_replaced_id_formula-returns-in_ok-f-in-Joined-clause-tree t c =
    let ts = c.args.self.now in
    let us = c.put_two_id_formulas.new.self in
    let way = c.in-Joined.connective in
    ap (formula_of us) c.over-in-Joined.ensures
    ∙ of-joined c.in_ok-f-in-Joined.f c.in_ok-f-in-Joined.g us way
    ∙ (λ j. joined way (c.in_ok-f-in-Joined.ensures.first j) (c.in_ok-f-in-Joined.ensures.second j))
    ∙ sym (joined-replaced ts (leaves_of ts c.args.leaves.now) c.args.f.now way _ _ c.in-Joined.ensures)

use Rattle.std.proofs.Common.{ap, ◌∙◌, arith}
use Rattle.term_trees.specs.Leaves.{replaced_formula}
use Rattle.term_logic.specs.Leaves.{leaves_of}
use Rattle.term_logic.specs.Formulas.{formula_of}
use Rattle.symbolic_state.proofs.Placements.{at-true, at-false, at-eq, at-le, at-lt, at-not, at-and, at-or, at-imp, leaves-more, nodes-more, formula-low}
use Rattle.symbolic_state.proofs.placing.+placing.Goals as goal

pub put_formulas-put_boxed-requires-2 : goal.put_formulas-put_boxed-requires-2
put_formulas-put_boxed-requires-2 t c =
    let more = c.put_boxed.ensures.kept in
    (omega (arith, c.decreases), (formula-low _ _ more c.args.g.now c.requires.second, (leaves-more _ _ more c.args.leaves.now c.requires.leaves, nodes-more _ _ more c.args.leaves.now c.requires.leaves c.requires.nodes)))

pub put_formula-returns-in-True-clause-formula : goal.put_formula-returns-in-True-clause-formula
put_formula-returns-in-True-clause-formula t c =
    let ts = c.args.table.now in
    let l = leaves_of ts c.args.leaves.now in
    at-true ts ts l c.args.f.now c.in-True.is

pub put_formula-returns-in-False-clause-formula : goal.put_formula-returns-in-False-clause-formula
put_formula-returns-in-False-clause-formula t c =
    let ts = c.args.table.now in
    let l = leaves_of ts c.args.leaves.now in
    at-false ts ts l c.args.f.now c.in-False.is

pub put_formula-returns-in_ok-a-in-Eq-clause-formula : goal.put_formula-returns-in_ok-a-in-Eq-clause-formula
put_formula-returns-in_ok-a-in-Eq-clause-formula t c =
    let ts = c.args.table.now in
    let l = leaves_of ts c.args.leaves.now in
    at-eq ts c.put_terms.new.table l c.args.f.now _ _ _ _ c.in_ok-a-in-Eq.ensures.first c.in_ok-a-in-Eq.ensures.second c.in-Eq.is

pub put_formula-returns-in_ok-a-in-Le-clause-formula : goal.put_formula-returns-in_ok-a-in-Le-clause-formula
put_formula-returns-in_ok-a-in-Le-clause-formula t c =
    let ts = c.args.table.now in
    let l = leaves_of ts c.args.leaves.now in
    at-le ts c.put_terms-in-Le.new.table l c.args.f.now _ _ _ _ c.in_ok-a-in-Le.ensures.first c.in_ok-a-in-Le.ensures.second c.in-Le.is

pub put_formula-returns-in_ok-a-in-Lt-clause-formula : goal.put_formula-returns-in_ok-a-in-Lt-clause-formula
put_formula-returns-in_ok-a-in-Lt-clause-formula t c =
    let ts = c.args.table.now in
    let l = leaves_of ts c.args.leaves.now in
    at-lt ts c.put_terms-in-Lt.new.table l c.args.f.now _ _ _ _ c.in_ok-a-in-Lt.ensures.first c.in_ok-a-in-Lt.ensures.second c.in-Lt.is

pub put_formula-returns-in_ok-f-in-Not-clause-formula : goal.put_formula-returns-in_ok-f-in-Not-clause-formula
put_formula-returns-in_ok-f-in-Not-clause-formula t c =
    let ts = c.args.table.now in
    let l = leaves_of ts c.args.leaves.now in
    at-not ts c.put_boxed.new.table l c.args.f.now _ _ (c.in_ok-f-in-Not.ensures.formula ∙ ap (λ g. replaced_formula l (formula_of ts g)) c.get.ensures) c.in-Not.is

pub put_formula-returns-in_ok-f-in-And-clause-formula : goal.put_formula-returns-in_ok-f-in-And-clause-formula
put_formula-returns-in_ok-f-in-And-clause-formula t c =
    let ts = c.args.table.now in
    let l = leaves_of ts c.args.leaves.now in
    at-and ts c.put_formulas.new.table l c.args.f.now _ _ _ _
    (c.in_ok-f-in-And.ensures.first ∙ ap (λ g. replaced_formula l (formula_of ts g)) c.get-in-And.ensures)
    (c.in_ok-f-in-And.ensures.second ∙ ap (λ g. replaced_formula l (formula_of ts g)) c.get-in-And-2.ensures) c.in-And.is

pub put_formula-returns-in_ok-f-in-Or-clause-formula : goal.put_formula-returns-in_ok-f-in-Or-clause-formula
put_formula-returns-in_ok-f-in-Or-clause-formula t c =
    let ts = c.args.table.now in
    let l = leaves_of ts c.args.leaves.now in
    at-or ts c.put_formulas-in-Or.new.table l c.args.f.now _ _ _ _
    (c.in_ok-f-in-Or.ensures.first ∙ ap (λ g. replaced_formula l (formula_of ts g)) c.get-in-Or.ensures)
    (c.in_ok-f-in-Or.ensures.second ∙ ap (λ g. replaced_formula l (formula_of ts g)) c.get-in-Or-2.ensures) c.in-Or.is

pub put_formula-returns-in_ok-f-in-Imp-clause-formula : goal.put_formula-returns-in_ok-f-in-Imp-clause-formula
put_formula-returns-in_ok-f-in-Imp-clause-formula t c =
    let ts = c.args.table.now in
    let l = leaves_of ts c.args.leaves.now in
    at-imp ts c.put_formulas-in-Imp.new.table l c.args.f.now _ _ _ _
    (c.in_ok-f-in-Imp.ensures.first ∙ ap (λ g. replaced_formula l (formula_of ts g)) c.get-in-Imp.ensures)
    (c.in_ok-f-in-Imp.ensures.second ∙ ap (λ g. replaced_formula l (formula_of ts g)) c.get-in-Imp-2.ensures) c.in-Imp.is

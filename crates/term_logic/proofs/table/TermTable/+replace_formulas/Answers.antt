use Rattle.std.proofs.Common.{◌≡◌, ◌+◌, ◌≤◌, length, arith, sym, ap, subst, ◌∙◌}
use Rattle.term_trees.specs.Terms.{node_count}
use Rattle.term_trees.specs.Formulas.{formula_nodes, well_formed_formula}
use Rattle.term_trees.specs.Leaves.{replaced, replaced_formula}
use Rattle.term_logic.specs.Leaves.{leaves_of}
use Rattle.term_logic.specs.Formulas.{formula_bound, formula_of}
use Rattle.term_logic.specs.words.FormulaParts.{compared, joined}
use Rattle.term_logic.proofs.FormulaLayers.{nodes-compared, sound-compared, replaced-compared, of-compared, bound-compared, nodes-not, sound-not, replaced-not, nodes-joined, sound-joined, replaced-joined, of-joined, bound-joined}
use Rattle.term_logic.proofs.table.TermTable.+replace_formulas.Goals as goal

pub put_replaced_formula-returns-in_ok-f-in-Joined-clause-within : goal.put_replaced_formula-returns-in_ok-f-in-Joined-clause-within
put_replaced_formula-returns-in_ok-f-in-Joined-clause-within t c =
    let f = c.in_ok-f-in-Joined.f in
    let g = c.in_ok-f-in-Joined.g in
    let within = c.in_ok-f-in-Joined.ensures.within in
    subst (λ h. formula_bound h ≤ length c.put_two_replaced_formulas.new.self) (sym c.over-in-Joined.ensures) (omega (arith, bound-joined f g c.in-Joined.connective, within.0, within.1))

pub put_replaced_formula-returns-in_ok-f-in-Joined-clause-tree : goal.put_replaced_formula-returns-in_ok-f-in-Joined-clause-tree
put_replaced_formula-returns-in_ok-f-in-Joined-clause-tree t c =
    let ts = c.put_two_replaced_formulas.new.self in
    let ls = leaves_of c.args.self.now c.args.leaves.now in
    let way = c.in-Joined.connective in
    ap (formula_of ts) c.over-in-Joined.ensures
    ∙ of-joined c.in_ok-f-in-Joined.f c.in_ok-f-in-Joined.g ts way
    ∙ (λ j. joined way (c.in_ok-f-in-Joined.ensures.first j) (c.in_ok-f-in-Joined.ensures.second j))
    ∙ sym (replaced-joined c.in-Joined.f.now c.in-Joined.g.now ls way)
    ∙ ap (replaced_formula ls) c.in-Joined.ensures

pub put_replaced_formula-put_two_replaced-requires-clause-small : goal.put_replaced_formula-put_two_replaced-requires-clause-small
put_replaced_formula-put_two_replaced-requires-clause-small t c =
    let ls = leaves_of c.args.self.now c.args.leaves.now in
    let a = c.in-Compared.a.now in
    let b = c.in-Compared.b.now in
    let whole : formula_nodes (replaced_formula ls c.args.f.now) ≡ 1 + node_count (replaced ls a) + node_count (replaced ls b) =
    ap (λ f. formula_nodes (replaced_formula ls f)) (sym c.in-Compared.ensures)
    ∙ ap formula_nodes (replaced-compared a b ls c.in-Compared.relation)
    ∙ nodes-compared (replaced ls a) (replaced ls b) c.in-Compared.relation in
    omega (arith, whole, c.requires.small)

pub put_replaced_formula-put_two_replaced-requires-clause-well_formed : goal.put_replaced_formula-put_two_replaced-requires-clause-well_formed
put_replaced_formula-put_two_replaced-requires-clause-well_formed t c =
    sym (sound-compared c.in-Compared.a.now c.in-Compared.b.now c.in-Compared.relation) ∙ ap well_formed_formula c.in-Compared.ensures ∙ c.requires.well_formed

pub put_replaced_formula-returns-in_ok-a-in-Compared-clause-within : goal.put_replaced_formula-returns-in_ok-a-in-Compared-clause-within
put_replaced_formula-returns-in_ok-a-in-Compared-clause-within t c =
    let within = c.in_ok-a-in-Compared.ensures.within in
    subst (λ h. formula_bound h ≤ length c.put_two_replaced.new.self) (sym c.over.ensures) (omega (arith, bound-compared c.in_ok-a-in-Compared.a c.in_ok-a-in-Compared.b c.in-Compared.relation, within.0, within.1))

pub put_replaced_formula-returns-in_ok-a-in-Compared-clause-tree : goal.put_replaced_formula-returns-in_ok-a-in-Compared-clause-tree
put_replaced_formula-returns-in_ok-a-in-Compared-clause-tree t c =
    let ts = c.put_two_replaced.new.self in
    let ls = leaves_of c.args.self.now c.args.leaves.now in
    let way = c.in-Compared.relation in
    ap (formula_of ts) c.over.ensures
    ∙ of-compared c.in_ok-a-in-Compared.a c.in_ok-a-in-Compared.b ts way
    ∙ (λ j. compared way (c.in_ok-a-in-Compared.ensures.first j) (c.in_ok-a-in-Compared.ensures.second j))
    ∙ sym (replaced-compared c.in-Compared.a.now c.in-Compared.b.now ls way)
    ∙ ap (replaced_formula ls) c.in-Compared.ensures

pub put_replaced_formula-put_two_replaced_formulas-requires : goal.put_replaced_formula-put_two_replaced_formulas-requires
put_replaced_formula-put_two_replaced_formulas-requires t c =
    let ls = leaves_of c.args.self.now c.args.leaves.now in
    let f = c.in-Joined.f.now in
    let g = c.in-Joined.g.now in
    let way = c.in-Joined.connective in
    let own : formula_nodes c.args.f.now ≡ 1 + formula_nodes f + formula_nodes g = ap formula_nodes (sym c.in-Joined.ensures) ∙ nodes-joined f g way in
    let whole : formula_nodes (replaced_formula ls c.args.f.now) ≡ 1 + formula_nodes (replaced_formula ls f) + formula_nodes (replaced_formula ls g) =
    ap (λ h. formula_nodes (replaced_formula ls h)) (sym c.in-Joined.ensures) ∙ ap formula_nodes (replaced-joined f g ls way) ∙ nodes-joined (replaced_formula ls f) (replaced_formula ls g) way in
    (omega (arith, c.decreases, own), (c.requires.leaves, (omega (arith, whole, c.requires.small), sym (sound-joined f g way) ∙ ap well_formed_formula c.in-Joined.ensures ∙ c.requires.well_formed)))

pub put_replaced_formula-put_boxed_formula-requires : goal.put_replaced_formula-put_boxed_formula-requires
put_replaced_formula-put_boxed_formula-requires t c =
    let ls = leaves_of c.args.self.now c.args.leaves.now in
    let f = c.in-Not.f.now in
    let own : formula_nodes c.args.f.now ≡ 1 + formula_nodes f = ap formula_nodes (sym c.in-Not.ensures) ∙ nodes-not f in
    let whole : formula_nodes (replaced_formula ls c.args.f.now) ≡ 1 + formula_nodes (replaced_formula ls f) =
    ap (λ h. formula_nodes (replaced_formula ls h)) (sym c.in-Not.ensures) ∙ ap formula_nodes (replaced-not f ls) ∙ nodes-not (replaced_formula ls f) in
    (omega (arith, c.decreases, own), (c.requires.leaves, (omega (arith, whole, c.requires.small), sym (sound-not f) ∙ ap well_formed_formula c.in-Not.ensures ∙ c.requires.well_formed)))

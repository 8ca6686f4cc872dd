use Rattle.std.proofs.Common.{◌&&◌, sym, ap, ◌∙◌}
use Rattle.term_trees.specs.Scopes.{in_scope, formula_in_scope}
use Rattle.term_logic.specs.Table.{tree_at}
use Rattle.term_logic.specs.Formulas.{formula_of}
use Rattle.term_logic.proofs.IdFormulas.{true-scope, false-scope, compared-scope, not-scope, joined-scope}
use Rattle.term_logic.proofs.table.TermTable.+id_formula_in_scope.Goals as goal

pub returns-in-True : goal.returns-in-True
returns-in-True g t c = sym (true-scope (g.S.Scoped.scope c.args.scope.now) c.args.self.now c.args.f.now c.in-True.ensures)

pub returns-in-False : goal.returns-in-False
returns-in-False g t c = sym (false-scope (g.S.Scoped.scope c.args.scope.now) c.args.self.now c.args.f.now c.in-False.ensures)

pub returns-then-id_in_scope : goal.returns-then-id_in_scope
returns-then-id_in_scope g t c =
    let s = g.S.Scoped.scope c.args.scope.now in
    let ts = c.args.self.now in
    c.id_in_scope-then-id_in_scope.ensures
    ∙ ap (λ b. b && in_scope s (tree_at ts c.in-Compared.b)) (sym c.if-id_in_scope.true ∙ c.id_in_scope.ensures)
    ∙ sym (compared-scope s ts c.args.f.now c.in-Compared.field-0 _ _ c.in-Compared.ensures)

pub returns-else-id_in_scope : goal.returns-else-id_in_scope
returns-else-id_in_scope g t c =
    let s = g.S.Scoped.scope c.args.scope.now in
    let ts = c.args.self.now in
    c.if-id_in_scope.false
    ∙ ap (λ b. b && in_scope s (tree_at ts c.in-Compared.b)) (sym c.if-id_in_scope.false ∙ c.id_in_scope.ensures)
    ∙ sym (compared-scope s ts c.args.f.now c.in-Compared.field-0 _ _ c.in-Compared.ensures)

pub returns-in-Not : goal.returns-in-Not
returns-in-Not g t c =
    c.id_formula_in_scope.ensures ∙ sym (not-scope (g.S.Scoped.scope c.args.scope.now) c.args.self.now c.args.f.now _ c.in-Not.ensures)

pub returns-then-id_formula_in_scope : goal.returns-then-id_formula_in_scope
returns-then-id_formula_in_scope g t c =
    let s = g.S.Scoped.scope c.args.scope.now in
    let ts = c.args.self.now in
    c.id_formula_in_scope-then-id_formula_in_scope.ensures
    ∙ ap (λ b. b && formula_in_scope s (formula_of ts c.in-Joined.g.now)) (sym c.if-id_formula_in_scope.true ∙ c.id_formula_in_scope-in-Joined.ensures)
    ∙ sym (joined-scope s ts c.args.f.now c.in-Joined.field-0 _ _ c.in-Joined.ensures)

pub returns-else-id_formula_in_scope : goal.returns-else-id_formula_in_scope
returns-else-id_formula_in_scope g t c =
    let s = g.S.Scoped.scope c.args.scope.now in
    let ts = c.args.self.now in
    c.if-id_formula_in_scope.false
    ∙ ap (λ b. b && formula_in_scope s (formula_of ts c.in-Joined.g.now)) (sym c.if-id_formula_in_scope.false ∙ c.id_formula_in_scope-in-Joined.ensures)
    ∙ sym (joined-scope s ts c.args.f.now c.in-Joined.field-0 _ _ c.in-Joined.ensures)

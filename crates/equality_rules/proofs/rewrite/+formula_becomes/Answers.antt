use Rattle.std.proofs.Common.{rules, ◌≡◌, Bool, true, ◌&&◌, List, Option, Some, sym, ap, ◌∙◌}
use Rattle.term_trees.specs.declared.term.Term.{Term}
use Rattle.term_trees.specs.declared.term.Formula.{Formula}
use Rattle.term_trees.specs.Same.{passes}
use Rattle.term_trees.specs.Views.{and_of, or_of, imp_of}
use Rattle.term_logic.specs.declared.formula.IdFormula.{IdFormula}
use Rattle.term_logic.specs.Table.{tree_at}
use Rattle.term_logic.specs.Formulas.{formula_of}
use Rattle.equality_rules.specs.Rewrite.{formula_becomes}
use Rattle.equality_rules.proofs.FormulaBecomes.{becomes-true, becomes-false, becomes-eq, becomes-le, becomes-lt, becomes-not, becomes-and, becomes-or, becomes-imp}
use Rattle.equality_rules.proofs.rewrite.+formula_becomes.Goals as goal

-- both parts become those of another formula, where the first does
both : (x y : Term) (ts : List Term) (f g a b : IdFormula) (o : Option (Formula × Formula)) (h k : Formula) (r s : Bool) → f ≡ a → g ≡ b → Some (h, k) ≡ o →
    r ≡ formula_becomes x y (formula_of ts f) h → r ≡ true → s ≡ formula_becomes x y (formula_of ts g) k →
    s ≡ passes o (λ p. formula_becomes x y (formula_of ts a) p.0 && formula_becomes x y (formula_of ts b) p.1)
both x y ts f g a b o h k r s first second is one yes_one two =
    let there : true ≡ formula_becomes x y (formula_of ts a) h = sym yes_one ∙ one ∙ ap (λ i. formula_becomes x y (formula_of ts i) h) first in
    two ∙ ap (λ i. formula_becomes x y (formula_of ts i) k) second
    ∙ ap (λ v. v && formula_becomes x y (formula_of ts b) k) there
    ∙ ap (λ p. passes p (λ p. formula_becomes x y (formula_of ts a) p.0 && formula_becomes x y (formula_of ts b) p.1)) is

pub returns-in-True : goal.returns-in-True
returns-in-True t c = rw (becomes-true _ _ _ _ _ c.in-True.is) (search rules)

pub returns-in-False : goal.returns-in-False
returns-in-False t c = rw (becomes-false _ _ _ _ _ c.in-False.is) (search rules)

pub returns-in-Eq : goal.returns-in-Eq
returns-in-Eq t c = rw (becomes-eq _ _ _ _ _ _ _ c.in-Eq.is) (search rules)

pub returns-in-Le : goal.returns-in-Le
returns-in-Le t c = rw (becomes-le _ _ _ _ _ _ _ c.in-Le.is) (search rules)

pub returns-in-Lt : goal.returns-in-Lt
returns-in-Lt t c = rw (becomes-lt _ _ _ _ _ _ _ c.in-Lt.is) (search rules)

pub returns-in-Some : goal.returns-in-Some
returns-in-Some t c = rw (becomes-not _ _ _ _ _ _ c.in-Not.is) (search rules)

pub returns-in-None : goal.returns-in-None
returns-in-None t c = rw (becomes-not _ _ _ _ _ _ c.in-Not.is) (search rules)

pub returns-then-formula_becomes : goal.returns-then-formula_becomes
returns-then-formula_becomes t c =
    let ts = c.args.table.now in
    rw (becomes-and _ _ _ _ _ _ _ c.in-And.is)
    (both (tree_at ts c.args.exchange.now.from) (tree_at ts c.args.exchange.now.to) ts c.get-in-Some-and_of.result.now c.get-then-formula_becomes.result.now c.in-And.a c.in-And.b (and_of (formula_of ts c.args.g.now))
    (formula_of ts c.in-Some-and_of.h.now) (formula_of ts c.in-Some-and_of.k.now) c.formula_becomes-in-Some-and_of.result c.formula_becomes-then-formula_becomes.result
    c.get-in-Some-and_of.ensures c.get-then-formula_becomes.ensures c.in-Some-and_of.ensures.parts c.formula_becomes-in-Some-and_of.ensures c.if-formula_becomes.true c.formula_becomes-then-formula_becomes.ensures)

pub returns-else-formula_becomes : goal.returns-else-formula_becomes
returns-else-formula_becomes t c = rw (becomes-and _ _ _ _ _ _ _ c.in-And.is) (search rules)

pub returns-in-None-and_of : goal.returns-in-None-and_of
returns-in-None-and_of t c = rw (becomes-and _ _ _ _ _ _ _ c.in-And.is) (search rules)

pub returns-then-formula_becomes-2 : goal.returns-then-formula_becomes-2
returns-then-formula_becomes-2 t c =
    let ts = c.args.table.now in
    rw (becomes-or _ _ _ _ _ _ _ c.in-Or.is)
    (both (tree_at ts c.args.exchange.now.from) (tree_at ts c.args.exchange.now.to) ts c.get-in-Some-or_of.result.now c.get-then-formula_becomes-2.result.now c.in-Or.a c.in-Or.b (or_of (formula_of ts c.args.g.now))
    (formula_of ts c.in-Some-or_of.h.now) (formula_of ts c.in-Some-or_of.k.now) c.formula_becomes-in-Some-or_of.result c.formula_becomes-then-formula_becomes-2.result
    c.get-in-Some-or_of.ensures c.get-then-formula_becomes-2.ensures c.in-Some-or_of.ensures.parts c.formula_becomes-in-Some-or_of.ensures c.if-formula_becomes-2.true c.formula_becomes-then-formula_becomes-2.ensures)

pub returns-else-formula_becomes-2 : goal.returns-else-formula_becomes-2
returns-else-formula_becomes-2 t c = rw (becomes-or _ _ _ _ _ _ _ c.in-Or.is) (search rules)

pub returns-in-None-or_of : goal.returns-in-None-or_of
returns-in-None-or_of t c = rw (becomes-or _ _ _ _ _ _ _ c.in-Or.is) (search rules)

pub returns-then-formula_becomes-3 : goal.returns-then-formula_becomes-3
returns-then-formula_becomes-3 t c =
    let ts = c.args.table.now in
    rw (becomes-imp _ _ _ _ _ _ _ c.in-Imp.is)
    (both (tree_at ts c.args.exchange.now.from) (tree_at ts c.args.exchange.now.to) ts c.get-in-Some-imp_of.result.now c.get-then-formula_becomes-3.result.now c.in-Imp.a c.in-Imp.b (imp_of (formula_of ts c.args.g.now))
    (formula_of ts c.in-Some-imp_of.h.now) (formula_of ts c.in-Some-imp_of.k.now) c.formula_becomes-in-Some-imp_of.result c.formula_becomes-then-formula_becomes-3.result
    c.get-in-Some-imp_of.ensures c.get-then-formula_becomes-3.ensures c.in-Some-imp_of.ensures.parts c.formula_becomes-in-Some-imp_of.ensures c.if-formula_becomes-3.true c.formula_becomes-then-formula_becomes-3.ensures)

pub returns-else-formula_becomes-3 : goal.returns-else-formula_becomes-3
returns-else-formula_becomes-3 t c = rw (becomes-imp _ _ _ _ _ _ _ c.in-Imp.is) (search rules)

pub returns-in-None-imp_of : goal.returns-in-None-imp_of
returns-in-None-imp_of t c = rw (becomes-imp _ _ _ _ _ _ _ c.in-Imp.is) (search rules)

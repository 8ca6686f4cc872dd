-- The facts that variables are given: what they say over a table, and their nodes.
use Rattle.std.proofs.Common.{◌≡◌, ℕ, ◌+◌, sym, ap, ◌∙◌}
use Rattle.std.specs.Prelude.{pos}
use Rattle.term_trees.specs.declared.term.Term.{Term, fold-roll-Term}
use Rattle.term_trees.specs.declared.term.Term.TheOpen as layer
use Rattle.term_trees.specs.declared.term.Term.TheVariants as term
use Rattle.term_trees.specs.declared.term.Formula.TheVariants as formula
use Rattle.term_trees.specs.Terms.{nodes_here, node_count}
use Rattle.term_trees.specs.declared.term.Formula.{fold-roll-Formula}
use Rattle.term_trees.specs.declared.term.Formula.TheOpen as formula_layer
use Rattle.term_trees.specs.Formulas.{formula_nodes_here, formula_nodes}
use Rattle.term_logic.specs.declared.formula.IdFormula.TheVariants as id_formula
use Rattle.term_logic.specs.declared.formula.IdFormula.{IdFormula, fold-roll-IdFormula}
use Rattle.term_logic.specs.declared.formula.IdFormula.TheOpen as id_layer
use Rattle.term_logic.specs.Formulas.{bound_here, formula_bound}
use Rattle.std.specs.Prelude.{max}
use Rattle.term_logic.proofs.Formulas.{formula_of-le, formula_of-eq, formula_of-lt, formula_of-not, formula_of-and, formula_of-or}
use Rattle.outline_rules.specs.States.{number}

pub nodes-number : (n : ℕ) → node_count (number n) ≡ 1
nodes-number n = ap node_count (sym (term.rolls-Num (pos n))) ∙ fold-roll-Term ℕ nodes_here (layer.Num (pos n))

pub nodes-variable : (k : ℕ) → node_count (term.Var k) ≡ 1
nodes-variable k = ap node_count (sym (term.rolls-Var k)) ∙ fold-roll-Term ℕ nodes_here (layer.Var k)

pub nodes-le : (a b : Term) → formula_nodes (formula.Le a b) ≡ 1 + node_count a + node_count b
nodes-le a b = ap formula_nodes (sym (formula.rolls-Le a b)) ∙ fold-roll-Formula ℕ formula_nodes_here (formula_layer.Le a b)

pub nodes-eq : (a b : Term) → formula_nodes (formula.Eq a b) ≡ 1 + node_count a + node_count b
nodes-eq a b = ap formula_nodes (sym (formula.rolls-Eq a b)) ∙ fold-roll-Formula ℕ formula_nodes_here (formula_layer.Eq a b)

pub bound-le : (a b : ℕ) → formula_bound (id_formula.Le a b) ≡ max (a + 1) (b + 1)
bound-le a b = ap formula_bound (sym (id_formula.rolls-Le a b)) ∙ fold-roll-IdFormula ℕ bound_here (id_layer.Le a b)

pub bound-eq : (a b : ℕ) → formula_bound (id_formula.Eq a b) ≡ max (a + 1) (b + 1)
bound-eq a b = ap formula_bound (sym (id_formula.rolls-Eq a b)) ∙ fold-roll-IdFormula ℕ bound_here (id_layer.Eq a b)

pub bound-lt : (a b : ℕ) → formula_bound (id_formula.Lt a b) ≡ max (a + 1) (b + 1)
bound-lt a b = ap formula_bound (sym (id_formula.rolls-Lt a b)) ∙ fold-roll-IdFormula ℕ bound_here (id_layer.Lt a b)

pub bound-not : (f : IdFormula) → formula_bound (id_formula.Not f) ≡ formula_bound f
bound-not f = ap formula_bound (sym (id_formula.rolls-Not f)) ∙ fold-roll-IdFormula ℕ bound_here (id_layer.Not f)

pub bound-and : (f g : IdFormula) → formula_bound (id_formula.And f g) ≡ max (formula_bound f) (formula_bound g)
bound-and f g = ap formula_bound (sym (id_formula.rolls-And f g)) ∙ fold-roll-IdFormula ℕ bound_here (id_layer.And f g)

pub bound-or : (f g : IdFormula) → formula_bound (id_formula.Or f g) ≡ max (formula_bound f) (formula_bound g)
bound-or f g = ap formula_bound (sym (id_formula.rolls-Or f g)) ∙ fold-roll-IdFormula ℕ bound_here (id_layer.Or f g)

pub ruleset leaf_nodes = (nodes-number, nodes-variable)

pub ruleset formula_facts = (nodes-number, nodes-variable, nodes-le, nodes-eq, formula_of-le, formula_of-eq, bound-le, bound-eq)

pub ruleset formula_shapes = (formula_of-le, formula_of-eq, formula_of-lt, formula_of-not, formula_of-and, formula_of-or, bound-le, bound-eq, bound-lt, bound-not, bound-and, bound-or)

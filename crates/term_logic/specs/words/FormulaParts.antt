-- A formula by its outermost form.
use Rattle.std.specs.Prelude.{ℕ}
use Rattle.term_trees.specs.declared.term.Term.{Term}
use Rattle.term_trees.specs.declared.term.Formula.{Formula}
use Rattle.term_trees.specs.declared.term.Formula.TheVariants as tree
use Rattle.term_logic.specs.declared.formula.IdFormula.{IdFormula}
use Rattle.term_logic.specs.declared.formula.IdFormula.TheVariants as form
use Rattle.term_logic.specs.declared.formula_parts.Relation.{Relation}
use Rattle.term_logic.specs.declared.formula_parts.Relation.TheVariants.{Equal, AtMost, Below}
use Rattle.term_logic.specs.declared.formula_parts.Connective.{Connective}
use Rattle.term_logic.specs.declared.formula_parts.Connective.TheVariants.{Both, Either, Follows}
use Rattle.term_logic.specs.declared.formula_parts.FormulaParts.{FormulaParts}
use Rattle.term_logic.specs.declared.formula_parts.FormulaParts.TheVariants as parts
use Rattle.term_logic.specs.declared.id_formula_parts.IdFormulaParts.{IdFormulaParts}
use Rattle.term_logic.specs.declared.id_formula_parts.IdFormulaParts.TheVariants as ids

-- two terms that are compared
abbrev pub compared : Relation → Term → Term → Formula
compared Equal a b = tree.Eq a b
compared AtMost a b = tree.Le a b
compared Below a b = tree.Lt a b

-- the same of positions
abbrev pub compared_ids : Relation → ℕ → ℕ → IdFormula
compared_ids Equal a b = form.Eq a b
compared_ids AtMost a b = form.Le a b
compared_ids Below a b = form.Lt a b

-- two formulas that are joined
abbrev pub joined : Connective → Formula → Formula → Formula
joined Both f g = tree.And f g
joined Either f g = tree.Or f g
joined Follows f g = tree.Imp f g

-- the same of formulas over a table
abbrev pub joined_ids : Connective → IdFormula → IdFormula → IdFormula
joined_ids Both f g = form.And f g
joined_ids Either f g = form.Or f g
joined_ids Follows f g = form.Imp f g

-- the formula that the parts make
abbrev pub made_of : FormulaParts → Formula
made_of parts.True = tree.True
made_of parts.False = tree.False
made_of (parts.Compared r a b) = compared r a.now b.now
made_of (parts.Not f) = tree.Not f.now
made_of (parts.Joined c f g) = joined c f.now g.now

-- the formula over a table that the parts make
abbrev pub made_of_ids : IdFormulaParts → IdFormula
made_of_ids ids.True = form.True
made_of_ids ids.False = form.False
made_of_ids (ids.Compared r a b) = compared_ids r a b
made_of_ids (ids.Not f) = form.Not f.now
made_of_ids (ids.Joined c f g) = joined_ids c f.now g.now

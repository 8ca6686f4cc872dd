-- Putting a formula by its outermost form.
use Rattle.std.proofs.Common.{◌≡◌, ℕ, ◌+◌, max, Bool, ◌&&◌, List, sym, ap, ◌∙◌}
use Rattle.term_trees.specs.declared.term.Term.{Term}
use Rattle.term_trees.specs.declared.term.Formula.{Formula, fold-roll-Formula}
use Rattle.term_trees.specs.declared.term.Formula.TheOpen as layer
use Rattle.term_trees.specs.declared.term.Formula.TheVariants as tree
use Rattle.term_trees.specs.Terms.{node_count, well_formed}
use Rattle.term_trees.specs.Formulas.{formula_nodes_here, formula_nodes, well_formed_formula_here, well_formed_formula}
use Rattle.term_trees.specs.Leaves.{Leaves, replaced, replaced_formula_here, replaced_formula}
use Rattle.term_logic.specs.declared.formula.IdFormula.{IdFormula, fold-roll-IdFormula}
use Rattle.term_logic.specs.declared.formula.IdFormula.TheOpen as id_layer
use Rattle.term_logic.specs.declared.formula.IdFormula.TheVariants as form
use Rattle.term_logic.specs.declared.formula_parts.Relation.{Relation}
use Rattle.term_logic.specs.declared.formula_parts.Relation.TheVariants.{Equal, AtMost, Below}
use Rattle.term_logic.specs.declared.formula_parts.Connective.{Connective}
use Rattle.term_logic.specs.declared.formula_parts.Connective.TheVariants.{Both, Either, Follows}
use Rattle.term_logic.specs.Table.{tree_at}
use Rattle.term_logic.specs.Formulas.{bound_here, formula_bound, formula_of}
use Rattle.term_logic.specs.words.FormulaParts.{compared, compared_ids, joined, joined_ids}
use Rattle.term_logic.proofs.Formulas.{formula_of-eq, formula_of-le, formula_of-lt, formula_of-and, formula_of-or, formula_of-imp}

-- ---- two terms that are compared

module _ (a b : Term) where
  pub nodes-compared : (r : Relation) → formula_nodes (compared r a b) ≡ 1 + node_count a + node_count b
  nodes-compared Equal = ap formula_nodes (sym (tree.rolls-Eq a b)) ∙ fold-roll-Formula ℕ formula_nodes_here (layer.Eq a b)
  nodes-compared AtMost = ap formula_nodes (sym (tree.rolls-Le a b)) ∙ fold-roll-Formula ℕ formula_nodes_here (layer.Le a b)
  nodes-compared Below = ap formula_nodes (sym (tree.rolls-Lt a b)) ∙ fold-roll-Formula ℕ formula_nodes_here (layer.Lt a b)

  pub sound-compared : (r : Relation) → well_formed_formula (compared r a b) ≡ (well_formed a && well_formed b)
  sound-compared Equal = ap well_formed_formula (sym (tree.rolls-Eq a b)) ∙ fold-roll-Formula Bool well_formed_formula_here (layer.Eq a b)
  sound-compared AtMost = ap well_formed_formula (sym (tree.rolls-Le a b)) ∙ fold-roll-Formula Bool well_formed_formula_here (layer.Le a b)
  sound-compared Below = ap well_formed_formula (sym (tree.rolls-Lt a b)) ∙ fold-roll-Formula Bool well_formed_formula_here (layer.Lt a b)

  pub replaced-compared : (l : Leaves) (r : Relation) → replaced_formula l (compared r a b) ≡ compared r (replaced l a) (replaced l b)
  replaced-compared l Equal = ap (replaced_formula l) (sym (tree.rolls-Eq a b)) ∙ fold-roll-Formula Formula (replaced_formula_here l) (layer.Eq a b)
  replaced-compared l AtMost = ap (replaced_formula l) (sym (tree.rolls-Le a b)) ∙ fold-roll-Formula Formula (replaced_formula_here l) (layer.Le a b)
  replaced-compared l Below = ap (replaced_formula l) (sym (tree.rolls-Lt a b)) ∙ fold-roll-Formula Formula (replaced_formula_here l) (layer.Lt a b)

module _ (a b : ℕ) where
  pub of-compared : (ts : List Term) (r : Relation) → formula_of ts (compared_ids r a b) ≡ compared r (tree_at ts a) (tree_at ts b)
  of-compared ts Equal = formula_of-eq ts a b
  of-compared ts AtMost = formula_of-le ts a b
  of-compared ts Below = formula_of-lt ts a b

  pub bound-compared : (r : Relation) → formula_bound (compared_ids r a b) ≡ max (a + 1) (b + 1)
  bound-compared Equal = ap formula_bound (sym (form.rolls-Eq a b)) ∙ fold-roll-IdFormula ℕ bound_here (id_layer.Eq a b)
  bound-compared AtMost = ap formula_bound (sym (form.rolls-Le a b)) ∙ fold-roll-IdFormula ℕ bound_here (id_layer.Le a b)
  bound-compared Below = ap formula_bound (sym (form.rolls-Lt a b)) ∙ fold-roll-IdFormula ℕ bound_here (id_layer.Lt a b)

-- ---- a formula that is denied, and two that are joined

module _ (f : Formula) where
  pub nodes-not : formula_nodes (tree.Not f) ≡ 1 + formula_nodes f
  nodes-not = ap formula_nodes (sym (tree.rolls-Not f)) ∙ fold-roll-Formula ℕ formula_nodes_here (layer.Not f)

  pub sound-not : well_formed_formula (tree.Not f) ≡ well_formed_formula f
  sound-not = ap well_formed_formula (sym (tree.rolls-Not f)) ∙ fold-roll-Formula Bool well_formed_formula_here (layer.Not f)

  pub replaced-not : (l : Leaves) → replaced_formula l (tree.Not f) ≡ tree.Not (replaced_formula l f)
  replaced-not l = ap (replaced_formula l) (sym (tree.rolls-Not f)) ∙ fold-roll-Formula Formula (replaced_formula_here l) (layer.Not f)

module _ (f g : Formula) where
  pub nodes-joined : (c : Connective) → formula_nodes (joined c f g) ≡ 1 + formula_nodes f + formula_nodes g
  nodes-joined Both = ap formula_nodes (sym (tree.rolls-And f g)) ∙ fold-roll-Formula ℕ formula_nodes_here (layer.And f g)
  nodes-joined Either = ap formula_nodes (sym (tree.rolls-Or f g)) ∙ fold-roll-Formula ℕ formula_nodes_here (layer.Or f g)
  nodes-joined Follows = ap formula_nodes (sym (tree.rolls-Imp f g)) ∙ fold-roll-Formula ℕ formula_nodes_here (layer.Imp f g)

  pub sound-joined : (c : Connective) → well_formed_formula (joined c f g) ≡ (well_formed_formula f && well_formed_formula g)
  sound-joined Both = ap well_formed_formula (sym (tree.rolls-And f g)) ∙ fold-roll-Formula Bool well_formed_formula_here (layer.And f g)
  sound-joined Either = ap well_formed_formula (sym (tree.rolls-Or f g)) ∙ fold-roll-Formula Bool well_formed_formula_here (layer.Or f g)
  sound-joined Follows = ap well_formed_formula (sym (tree.rolls-Imp f g)) ∙ fold-roll-Formula Bool well_formed_formula_here (layer.Imp f g)

  pub replaced-joined : (l : Leaves) (c : Connective) → replaced_formula l (joined c f g) ≡ joined c (replaced_formula l f) (replaced_formula l g)
  replaced-joined l Both = ap (replaced_formula l) (sym (tree.rolls-And f g)) ∙ fold-roll-Formula Formula (replaced_formula_here l) (layer.And f g)
  replaced-joined l Either = ap (replaced_formula l) (sym (tree.rolls-Or f g)) ∙ fold-roll-Formula Formula (replaced_formula_here l) (layer.Or f g)
  replaced-joined l Follows = ap (replaced_formula l) (sym (tree.rolls-Imp f g)) ∙ fold-roll-Formula Formula (replaced_formula_here l) (layer.Imp f g)

module _ (f g : IdFormula) where
  pub of-joined : (ts : List Term) (c : Connective) → formula_of ts (joined_ids c f g) ≡ joined c (formula_of ts f) (formula_of ts g)
  of-joined ts Both = formula_of-and ts f g
  of-joined ts Either = formula_of-or ts f g
  of-joined ts Follows = formula_of-imp ts f g

  pub bound-joined : (c : Connective) → formula_bound (joined_ids c f g) ≡ max (formula_bound f) (formula_bound g)
  bound-joined Both = ap formula_bound (sym (form.rolls-And f g)) ∙ fold-roll-IdFormula ℕ bound_here (id_layer.And f g)
  bound-joined Either = ap formula_bound (sym (form.rolls-Or f g)) ∙ fold-roll-IdFormula ℕ bound_here (id_layer.Or f g)
  bound-joined Follows = ap formula_bound (sym (form.rolls-Imp f g)) ∙ fold-roll-IdFormula ℕ bound_here (id_layer.Imp f g)

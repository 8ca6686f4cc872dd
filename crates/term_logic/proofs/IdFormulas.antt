-- What a formula over a table comes to, by its outermost form: its bound, its nodes, and those once its leaves are replaced.
use Rattle.std.proofs.Common.{◌≡◌, ℕ, ◌+◌, max, Bool, true, ◌&&◌, List, sym, ap, ◌∙◌}
use Rattle.term_trees.specs.declared.term.Term.{Term}
use Rattle.term_trees.specs.declared.term.Formula.{Formula, roll-Formula, map-Formula, fold-roll-Formula}
use Rattle.term_trees.specs.declared.term.Formula.TheOpen as layer
use Rattle.term_trees.specs.declared.term.Formula.TheOpen.{Formula-F}
use Rattle.term_trees.specs.declared.term.Formula.TheVariants as tree
use Rattle.term_trees.specs.Terms.{node_count}
use Rattle.term_trees.specs.Formulas.{formula_nodes_here, formula_nodes}
use Rattle.term_trees.specs.Leaves.{Leaves, replaced, replaced_formula_here, replaced_formula}
use Rattle.term_trees.specs.Scopes.{Scope, in_scope, formula_in_scope_here, formula_in_scope}
use Rattle.term_logic.specs.declared.formula.IdFormula.{IdFormula}
use Rattle.term_logic.specs.declared.formula.IdFormula.TheVariants as form
use Rattle.term_logic.specs.declared.formula_parts.Relation.{Relation}
use Rattle.term_logic.specs.declared.formula_parts.Relation.TheVariants.{Equal, AtMost, Below}
use Rattle.term_logic.specs.declared.formula_parts.Connective.{Connective}
use Rattle.term_logic.specs.declared.formula_parts.Connective.TheVariants.{Both, Either, Follows}
use Rattle.term_logic.specs.Table.{tree_at}
use Rattle.term_logic.specs.Formulas.{formula_bound, formula_of}
use Rattle.term_logic.specs.words.FormulaParts.{compared, compared_ids, joined, joined_ids}
use Rattle.term_logic.proofs.FormulaNodes.{id_nodes}
use Rattle.term_logic.proofs.Formulas.{formula_of-true, formula_of-false, formula_of-not}
use Rattle.term_logic.proofs.FormulaLayers.{nodes-compared, replaced-compared, of-compared, bound-compared, nodes-not, replaced-not, nodes-joined, replaced-joined, of-joined, bound-joined}
use Rattle.term_logic.proofs.IdLayers.{id-nodes-not, bound-not, id-nodes-joined}

module _ (ts : List Term) (l : Leaves) (f : IdFormula) where
  -- `true` and `false`
  pub true-of : form.True ≡ f → formula_of ts f ≡ tree.True
  true-of is = ap (formula_of ts) (sym is) ∙ formula_of-true ts

  pub false-of : form.False ≡ f → formula_of ts f ≡ tree.False
  false-of is = ap (formula_of ts) (sym is) ∙ formula_of-false ts

  pub replaced-true : replaced_formula l tree.True ≡ tree.True
  replaced-true = ap (replaced_formula l) (sym tree.rolls-True) ∙ fold-roll-Formula Formula (replaced_formula_here l) layer.True

  pub replaced-false : replaced_formula l tree.False ≡ tree.False
  replaced-false = ap (replaced_formula l) (sym tree.rolls-False) ∙ fold-roll-Formula Formula (replaced_formula_here l) layer.False

  nodes-true : formula_nodes tree.True ≡ 1
  nodes-true = ap formula_nodes (sym tree.rolls-True) ∙ fold-roll-Formula ℕ formula_nodes_here layer.True

  nodes-false : formula_nodes tree.False ≡ 1
  nodes-false = ap formula_nodes (sym tree.rolls-False) ∙ fold-roll-Formula ℕ formula_nodes_here layer.False

  pub true-nodes : form.True ≡ f → formula_nodes (formula_of ts f) ≡ 1
  true-nodes is = ap formula_nodes (true-of is) ∙ nodes-true

  pub false-nodes : form.False ≡ f → formula_nodes (formula_of ts f) ≡ 1
  false-nodes is = ap formula_nodes (false-of is) ∙ nodes-false

  pub true-size : form.True ≡ f → formula_nodes (replaced_formula l (formula_of ts f)) ≡ 1
  true-size is = ap (λ g. formula_nodes (replaced_formula l g)) (true-of is) ∙ ap formula_nodes replaced-true ∙ nodes-true

  pub false-size : form.False ≡ f → formula_nodes (replaced_formula l (formula_of ts f)) ≡ 1
  false-size is = ap (λ g. formula_nodes (replaced_formula l g)) (false-of is) ∙ ap formula_nodes replaced-false ∙ nodes-false

  -- two terms that are compared
  module _ (r : Relation) (a b : ℕ) (is : compared_ids r a b ≡ f) where
    pub compared-bound : formula_bound f ≡ max (a + 1) (b + 1)
    compared-bound = ap formula_bound (sym is) ∙ bound-compared a b r

    pub compared-of : formula_of ts f ≡ compared r (tree_at ts a) (tree_at ts b)
    compared-of = ap (formula_of ts) (sym is) ∙ of-compared a b ts r

    pub compared-nodes : formula_nodes (formula_of ts f) ≡ 1 + node_count (tree_at ts a) + node_count (tree_at ts b)
    compared-nodes = ap formula_nodes compared-of ∙ nodes-compared (tree_at ts a) (tree_at ts b) r

    pub compared-replaced : replaced_formula l (formula_of ts f) ≡ compared r (replaced l (tree_at ts a)) (replaced l (tree_at ts b))
    compared-replaced = ap (replaced_formula l) compared-of ∙ replaced-compared (tree_at ts a) (tree_at ts b) l r

    pub compared-size : formula_nodes (replaced_formula l (formula_of ts f)) ≡ 1 + node_count (replaced l (tree_at ts a)) + node_count (replaced l (tree_at ts b))
    compared-size = ap formula_nodes compared-replaced ∙ nodes-compared (replaced l (tree_at ts a)) (replaced l (tree_at ts b)) r

  -- a formula that is denied
  module _ (g : IdFormula) (is : form.Not g ≡ f) where
    pub not-bound : formula_bound f ≡ formula_bound g
    not-bound = ap formula_bound (sym is) ∙ bound-not g

    pub not-own : id_nodes f ≡ 1 + id_nodes g
    not-own = ap id_nodes (sym is) ∙ id-nodes-not g

    pub not-of : formula_of ts f ≡ tree.Not (formula_of ts g)
    not-of = ap (formula_of ts) (sym is) ∙ formula_of-not ts g

    pub not-nodes : formula_nodes (formula_of ts f) ≡ 1 + formula_nodes (formula_of ts g)
    not-nodes = ap formula_nodes not-of ∙ nodes-not (formula_of ts g)

    pub not-replaced : replaced_formula l (formula_of ts f) ≡ tree.Not (replaced_formula l (formula_of ts g))
    not-replaced = ap (replaced_formula l) not-of ∙ replaced-not (formula_of ts g) l

    pub not-size : formula_nodes (replaced_formula l (formula_of ts f)) ≡ 1 + formula_nodes (replaced_formula l (formula_of ts g))
    not-size = ap formula_nodes not-replaced ∙ nodes-not (replaced_formula l (formula_of ts g))

  -- two formulas that are joined
  module _ (c : Connective) (g h : IdFormula) (is : joined_ids c g h ≡ f) where
    pub joined-bound : formula_bound f ≡ max (formula_bound g) (formula_bound h)
    joined-bound = ap formula_bound (sym is) ∙ bound-joined g h c

    pub joined-own : id_nodes f ≡ 1 + id_nodes g + id_nodes h
    joined-own = ap id_nodes (sym is) ∙ id-nodes-joined g h c

    pub joined-of : formula_of ts f ≡ joined c (formula_of ts g) (formula_of ts h)
    joined-of = ap (formula_of ts) (sym is) ∙ of-joined g h ts c

    pub joined-nodes : formula_nodes (formula_of ts f) ≡ 1 + formula_nodes (formula_of ts g) + formula_nodes (formula_of ts h)
    joined-nodes = ap formula_nodes joined-of ∙ nodes-joined (formula_of ts g) (formula_of ts h) c

    pub joined-replaced : replaced_formula l (formula_of ts f) ≡ joined c (replaced_formula l (formula_of ts g)) (replaced_formula l (formula_of ts h))
    joined-replaced = ap (replaced_formula l) joined-of ∙ replaced-joined (formula_of ts g) (formula_of ts h) l c

    pub joined-size : formula_nodes (replaced_formula l (formula_of ts f)) ≡ 1 + formula_nodes (replaced_formula l (formula_of ts g)) + formula_nodes (replaced_formula l (formula_of ts h))
    joined-size = ap formula_nodes joined-replaced ∙ nodes-joined (replaced_formula l (formula_of ts g)) (replaced_formula l (formula_of ts h)) c

-- ---- the leaves of a formula over a table

module _ (s : Scope) (ts : List Term) (f : IdFormula) where
  scope-roll : (k : Formula-F Formula) (g : Formula) → roll-Formula k ≡ g → formula_in_scope s g ≡ formula_in_scope_here s (map-Formula Formula Bool (formula_in_scope s) k)
  scope-roll k g is = ap (formula_in_scope s) (sym is) ∙ fold-roll-Formula Bool (formula_in_scope_here s) k

  pub true-scope : form.True ≡ f → formula_in_scope s (formula_of ts f) ≡ true
  true-scope is = ap (λ g. formula_in_scope s (formula_of ts g)) (sym is) ∙ ap (formula_in_scope s) (formula_of-true ts) ∙ scope-roll layer.True _ tree.rolls-True

  pub false-scope : form.False ≡ f → formula_in_scope s (formula_of ts f) ≡ true
  false-scope is = ap (λ g. formula_in_scope s (formula_of ts g)) (sym is) ∙ ap (formula_in_scope s) (formula_of-false ts) ∙ scope-roll layer.False _ tree.rolls-False

  compared_scope : (r : Relation) (a b : Term) → formula_in_scope s (compared r a b) ≡ (in_scope s a && in_scope s b)
  compared_scope Equal a b = scope-roll (layer.Eq a b) _ (tree.rolls-Eq a b)
  compared_scope AtMost a b = scope-roll (layer.Le a b) _ (tree.rolls-Le a b)
  compared_scope Below a b = scope-roll (layer.Lt a b) _ (tree.rolls-Lt a b)

  pub compared-scope : (r : Relation) (a b : ℕ) → compared_ids r a b ≡ f → formula_in_scope s (formula_of ts f) ≡ (in_scope s (tree_at ts a) && in_scope s (tree_at ts b))
  compared-scope r a b is = ap (λ g. formula_in_scope s (formula_of ts g)) (sym is) ∙ ap (formula_in_scope s) (of-compared a b ts r) ∙ compared_scope r _ _

  pub not-scope : (g : IdFormula) → form.Not g ≡ f → formula_in_scope s (formula_of ts f) ≡ formula_in_scope s (formula_of ts g)
  not-scope g is = ap (λ h. formula_in_scope s (formula_of ts h)) (sym is) ∙ ap (formula_in_scope s) (formula_of-not ts g) ∙ scope-roll (layer.Not (formula_of ts g)) _ (tree.rolls-Not _)

  joined_scope : (c : Connective) (g h : Formula) → formula_in_scope s (joined c g h) ≡ (formula_in_scope s g && formula_in_scope s h)
  joined_scope Both g h = scope-roll (layer.And g h) _ (tree.rolls-And g h)
  joined_scope Either g h = scope-roll (layer.Or g h) _ (tree.rolls-Or g h)
  joined_scope Follows g h = scope-roll (layer.Imp g h) _ (tree.rolls-Imp g h)

  pub joined-scope : (c : Connective) (g h : IdFormula) → joined_ids c g h ≡ f → formula_in_scope s (formula_of ts f) ≡ (formula_in_scope s (formula_of ts g) && formula_in_scope s (formula_of ts h))
  joined-scope c g h is = ap (λ k. formula_in_scope s (formula_of ts k)) (sym is) ∙ ap (formula_in_scope s) (of-joined g h ts c) ∙ joined_scope c _ _

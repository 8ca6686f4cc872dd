-- Terms and formulas over a table, by their outermost layer.
use Rattle.std.proofs.Common.{◌≡◌, ℕ, ◌+◌, List, [], refl, sym, ap, ◌∙◌}
use Rattle.term_trees.specs.declared.term.Term.{Term, roll-Term, out-Term, map-Term, roll-out-Term}
use Rattle.term_trees.specs.declared.term.Term.TheOpen.{Term-F, Num, Var, Own, At, Add, Sub, Mul, One, Two, Low, Sext, Sgn}
use Rattle.term_logic.specs.declared.table.TermCell.{TermCell}
use Rattle.term_logic.specs.declared.formula.IdFormula.{IdFormula, fold-roll-IdFormula}
use Rattle.term_logic.specs.declared.formula.IdFormula.TheOpen as layer
use Rattle.term_logic.specs.declared.formula.IdFormula.TheVariants as form
use Rattle.term_logic.specs.declared.formula_parts.Connective.{Connective}
use Rattle.term_logic.specs.declared.formula_parts.Connective.TheVariants.{Both, Either, Follows}
use Rattle.term_logic.specs.Table.{cell_layer, tree_at}
use Rattle.term_logic.specs.Formulas.{bound_here, formula_bound}
use Rattle.term_logic.specs.words.FormulaParts.{joined_ids}
use Rattle.term_logic.specs.words.Parts.{parts_here, with_parts}
use Rattle.term_logic.proofs.FormulaNodes.{id_nodes_here, id_nodes}

-- other parts stand in place of any
with-any : {X Y Z : Type 0} (g : X → Y) (i j : Z) (k : Term-F X) → with_parts i j (map-Term X Y g k) ≡ with_parts i j k
with-any g i j (Num n) = refl
with-any g i j (Var k) = refl
with-any g i j (Own k) = refl
with-any g i j (At p) = refl
with-any g i j (Add a b) = refl
with-any g i j (Sub a b) = refl
with-any g i j (Mul a b) = refl
with-any g i j (One op a) = refl
with-any g i j (Two op a b) = refl
with-any g i j (Low k a) = refl
with-any g i j (Sext k n a) = refl
with-any g i j (Sgn n a) = refl

-- the cell over other positions, by the layer of the tree
pub cell-over : (ts : List Term) (t : Term) (c d : TermCell) (i j : ℕ) → out-Term t ≡ map-Term ℕ Term (tree_at ts) (cell_layer c) → cell_layer d ≡ with_parts i j (cell_layer c)
    → cell_layer d ≡ with_parts i j (out-Term t)
cell-over ts t c d i j opens over =
    over ∙ sym (with-any (tree_at ts) i j (cell_layer c)) ∙ ap (with_parts i j) (sym opens)

leaf-map : (f : Term → Term) (k : Term-F Term) → parts_here k ≡ [] → map-Term Term Term f k ≡ k
leaf-map f (Num n) e = refl
leaf-map f (Var k) e = refl
leaf-map f (Own k) e = refl
leaf-map f (At p) e = refl
leaf-map f (Add a b) e = cc
leaf-map f (Sub a b) e = cc
leaf-map f (Mul a b) e = cc
leaf-map f (One op a) e = cc
leaf-map f (Two op a b) e = cc
leaf-map f (Low k a) e = cc
leaf-map f (Sext k n a) e = cc
leaf-map f (Sgn n a) e = cc

-- a leaf has no parts that could change
pub leaf-stays : (f : Term → Term) (t : Term) → parts_here (out-Term t) ≡ [] → roll-Term (map-Term Term Term f (out-Term t)) ≡ t
leaf-stays f t e = ap roll-Term (leaf-map f (out-Term t) e) ∙ roll-out-Term t

-- ---- formulas

module _ (f : IdFormula) where
  pub id-nodes-not : id_nodes (form.Not f) ≡ 1 + id_nodes f
  id-nodes-not = ap id_nodes (sym (form.rolls-Not f)) ∙ fold-roll-IdFormula ℕ id_nodes_here (layer.Not f)

  pub bound-not : formula_bound (form.Not f) ≡ formula_bound f
  bound-not = ap formula_bound (sym (form.rolls-Not f)) ∙ fold-roll-IdFormula ℕ bound_here (layer.Not f)

module _ (f g : IdFormula) where
  pub id-nodes-joined : (c : Connective) → id_nodes (joined_ids c f g) ≡ 1 + id_nodes f + id_nodes g
  id-nodes-joined Both = ap id_nodes (sym (form.rolls-And f g)) ∙ fold-roll-IdFormula ℕ id_nodes_here (layer.And f g)
  id-nodes-joined Either = ap id_nodes (sym (form.rolls-Or f g)) ∙ fold-roll-IdFormula ℕ id_nodes_here (layer.Or f g)
  id-nodes-joined Follows = ap id_nodes (sym (form.rolls-Imp f g)) ∙ fold-roll-IdFormula ℕ id_nodes_here (layer.Imp f g)

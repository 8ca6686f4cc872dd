-- Formulas over a table whose leaves are replaced by terms of one node.
use Rattle.std.proofs.Common.{◌≡◌, ℕ, ◌+◌, ◌<◌, ◌≤◌, max, List, length, Option, Some, None, IfSome, refl, sym, ap, subst, ◌∙◌, arith}
use Rattle.std.specs.Prelude.{option_map, unwrap_or}
use Rattle.term_trees.specs.declared.term.Place.{Place}
use Rattle.term_trees.specs.declared.term.Place.TheVariants as place
use Rattle.term_trees.specs.declared.term.Term.{Term, roll-Term, map-Term, fold-roll-Term}
use Rattle.term_trees.specs.declared.term.Term.TheOpen.{Term-F, Num, Var, Own, At, Add, Sub, Mul, One, Two, Low, Sext, Sgn}
use Rattle.term_trees.specs.declared.term.Term.TheVariants as term
use Rattle.term_trees.specs.declared.term.Formula.{Formula, roll-Formula, map-Formula, fold-roll-Formula}
use Rattle.term_trees.specs.declared.term.Formula.TheOpen as layer
use Rattle.term_trees.specs.declared.term.Formula.TheOpen.{Formula-F}
use Rattle.term_trees.specs.declared.term.Formula.TheVariants as tree
use Rattle.term_trees.specs.Terms.{nodes_here, node_count}
use Rattle.term_trees.specs.Leaves.{Leaves, no_leaves, replaced_here, replaced, replaced_formula_here, replaced_formula}
use Rattle.term_trees.specs.Rows.{row_leaves, row_place}
use Rattle.term_trees.proofs.Sameness.{induct, map_map}
use Rattle.term_logic.specs.declared.leaves.LeafIds.{LeafIds}
use Rattle.term_logic.specs.declared.formula.IdFormula.{IdFormula, roll-IdFormula, map-IdFormula, fold-roll-IdFormula}
use Rattle.term_logic.specs.declared.formula.IdFormula.TheOpen as id_layer
use Rattle.term_logic.specs.declared.formula.IdFormula.TheOpen.{IdFormula-F}
use Rattle.term_logic.specs.declared.formula.IdFormula.TheVariants as form
use Rattle.term_logic.specs.Table.{tree_at}
use Rattle.term_logic.specs.Leaves.{place_id, leaves_of, LeavesWithin}
use Rattle.term_logic.specs.Extends.{Extends}
use Rattle.term_logic.specs.Formulas.{bound_here, formula_bound, formula_of}
use Rattle.term_logic.proofs.Formulas.{formula_of-true, formula_of-false, formula_of-eq, formula_of-le, formula_of-lt, formula_of-not, formula_of-and, formula_of-or, formula_of-imp}
use Rattle.heap_logic.proofs.Growing.{extends-then}
use Rattle.symbolic_state.specs.words.Instances.{KeepsNodes}

-- ---- the nodes of terms

rolled : (k : Term-F Term) (t : Term) → roll-Term k ≡ t → node_count t ≡ nodes_here (map-Term Term ℕ node_count k)
rolled k t is = ap node_count (sym is) ∙ fold-roll-Term ℕ nodes_here k

module _ (l : Leaves) (variable : (k : ℕ) → IfSome (l.variable k) (λ t. node_count t ≡ 1)) (own : (k : ℕ) → IfSome (l.own k) (λ t. node_count t ≡ 1)) (places : (p : Place) → IfSome (l.place p) (λ t. node_count t ≡ 1)) where
  abbrev Kept : Term → Type 0
  Kept t = node_count (replaced l t) ≡ node_count t

  single : (o : Option Term) (d : Term) → IfSome o (λ t. node_count t ≡ 1) → node_count d ≡ 1 → node_count (unwrap_or o d) ≡ 1
  single None d h is = is
  single (Some t) d h is = h

  kept-here : (k : Term-F ((t : Term) × Kept t)) → node_count (replaced_here l (map-Term ((t : Term) × Kept t) Term (λ e. replaced l e.0) k)) ≡ nodes_here (map-Term ((t : Term) × Kept t) ℕ (λ e. node_count e.0) k)
  kept-here (Num n) = rolled (Num n) _ (term.rolls-Num n)
  kept-here (Var k) = single (l.variable k) (term.Var k) (variable k) (rolled (Var k) _ (term.rolls-Var k))
  kept-here (Own k) = single (l.own k) (term.Own k) (own k) (rolled (Own k) _ (term.rolls-Own k))
  kept-here (At p) = single (l.place p) (term.At p) (places p) (rolled (At p) _ (term.rolls-At p))
  kept-here (Add a b) = rolled (Add (replaced l a.0) (replaced l b.0)) _ (term.rolls-Add _ _) ∙ (λ j. 1 + a.1 j + b.1 j)
  kept-here (Sub a b) = rolled (Sub (replaced l a.0) (replaced l b.0)) _ (term.rolls-Sub _ _) ∙ (λ j. 1 + a.1 j + b.1 j)
  kept-here (Mul a b) = rolled (Mul (replaced l a.0) (replaced l b.0)) _ (term.rolls-Mul _ _) ∙ (λ j. 1 + a.1 j + b.1 j)
  kept-here (One op a) = rolled (One op (replaced l a.0)) _ (term.rolls-One op _) ∙ (λ j. 1 + a.1 j)
  kept-here (Two op a b) = rolled (Two op (replaced l a.0) (replaced l b.0)) _ (term.rolls-Two op _ _) ∙ (λ j. 1 + a.1 j + b.1 j)
  kept-here (Low k a) = rolled (Low k (replaced l a.0)) _ (term.rolls-Low k _) ∙ (λ j. 1 + a.1 j)
  kept-here (Sext k n a) = rolled (Sext k n (replaced l a.0)) _ (term.rolls-Sext k n _) ∙ (λ j. 1 + a.1 j)
  kept-here (Sgn n a) = rolled (Sgn n (replaced l a.0)) _ (term.rolls-Sgn n _) ∙ (λ j. 1 + a.1 j)

  pub nodes-kept : (t : Term) → node_count (replaced l t) ≡ node_count t
  nodes-kept = induct Kept (λ k.
      let part = λ (e : (t : Term) × Kept t). e.0 in
      ap node_count (fold-roll-Term Term (replaced_here l) (map-Term _ _ part k) ∙ ap (replaced_here l) (map_map part (replaced l) k))
      ∙ kept-here k
      ∙ sym (fold-roll-Term ℕ nodes_here (map-Term _ _ part k) ∙ ap nodes_here (map_map part node_count k)))

row-kept : (i v : Term) → node_count i ≡ 1 → node_count v ≡ 1 → KeepsNodes (row_leaves i v)
row-kept i v ei ev = nodes-kept (row_leaves i v) (λ k. tt) (λ k. tt) places
  where
    places : (p : Place) → IfSome (row_place i v p) (λ t. node_count t ≡ 1)
    places (place.Local k) = tt
    places (place.Stack k) = tt
    places (place.Global k) = tt
    places place.Pages = tt
    places (place.Arg k) = tt
    places place.Result = tt
    places place.Index = ei
    places place.Item = ev

-- ---- the leaves of a cell

module _ (ts : List Term) (l : LeafIds) (i v : ℕ) (none : leaves_of ts l ≡ no_leaves) where
  place-is : (p : Place) → option_map (tree_at ts) (place_id (record l { index = Some i; item = Some v }) p) ≡ row_place (tree_at ts i) (tree_at ts v) p
  place-is (place.Local k) = ap (λ m. m.place (place.Local k)) none
  place-is (place.Stack k) = ap (λ m. m.place (place.Stack k)) none
  place-is (place.Global k) = ap (λ m. m.place (place.Global k)) none
  place-is place.Pages = ap (λ m. m.place place.Pages) none
  place-is (place.Arg k) = ap (λ m. m.place (place.Arg k)) none
  place-is place.Result = ap (λ m. m.place place.Result) none
  place-is place.Index = refl
  place-is place.Item = refl

  pub leaves-cell : leaves_of ts (record l { index = Some i; item = Some v }) ≡ row_leaves (tree_at ts i) (tree_at ts v)
  leaves-cell = λ j. record {
    variable = λ k. (none j).variable k;
    own = λ k. (none j).own k;
    place = λ p. place-is p j;
  }

  pub cell-kept : node_count (tree_at ts i) ≡ 1 → node_count (tree_at ts v) ≡ 1 → KeepsNodes (leaves_of ts (record l { index = Some i; item = Some v }))
  cell-kept ei ev = subst KeepsNodes (sym leaves-cell) (row-kept (tree_at ts i) (tree_at ts v) ei ev)

pub ruleset cells = (leaves-cell, cell-kept)

-- ---- formulas by their outermost form

module _ (l : Leaves) where
  replaced-rolled : (k : Formula-F Formula) (f : Formula) → roll-Formula k ≡ f → replaced_formula l f ≡ replaced_formula_here l (map-Formula Formula Formula (replaced_formula l) k)
  replaced-rolled k f is = ap (replaced_formula l) (sym is) ∙ fold-roll-Formula Formula (replaced_formula_here l) k

module _ (ts us : List Term) (l : Leaves) (f : IdFormula) where
  -- the formula that one stands for, once its leaves are replaced, by its outermost form
  by_form : (g : IdFormula) (h k : Formula) → f ≡ g → formula_of ts g ≡ h → replaced_formula l h ≡ k → replaced_formula l (formula_of ts f) ≡ k
  by_form g h k is stands gives = ap (λ x. replaced_formula l (formula_of ts x)) is ∙ ap (replaced_formula l) stands ∙ gives

  pub at-true : f ≡ form.True → formula_of us form.True ≡ replaced_formula l (formula_of ts f)
  at-true is = formula_of-true us ∙ sym (by_form form.True tree.True tree.True is (formula_of-true ts) (replaced-rolled l layer.True _ tree.rolls-True))

  pub at-false : f ≡ form.False → formula_of us form.False ≡ replaced_formula l (formula_of ts f)
  at-false is = formula_of-false us ∙ sym (by_form form.False tree.False tree.False is (formula_of-false ts) (replaced-rolled l layer.False _ tree.rolls-False))

  module _ (a b c d : ℕ) (first : tree_at us c ≡ replaced l (tree_at ts a)) (second : tree_at us d ≡ replaced l (tree_at ts b)) where
    pub at-eq : f ≡ form.Eq a b → formula_of us (form.Eq c d) ≡ replaced_formula l (formula_of ts f)
    at-eq is = formula_of-eq us c d ∙ (λ j. tree.Eq (first j) (second j)) ∙ sym (by_form (form.Eq a b) _ _ is (formula_of-eq ts a b) (replaced-rolled l (layer.Eq (tree_at ts a) (tree_at ts b)) _ (tree.rolls-Eq _ _)))

    pub at-le : f ≡ form.Le a b → formula_of us (form.Le c d) ≡ replaced_formula l (formula_of ts f)
    at-le is = formula_of-le us c d ∙ (λ j. tree.Le (first j) (second j)) ∙ sym (by_form (form.Le a b) _ _ is (formula_of-le ts a b) (replaced-rolled l (layer.Le (tree_at ts a) (tree_at ts b)) _ (tree.rolls-Le _ _)))

    pub at-lt : f ≡ form.Lt a b → formula_of us (form.Lt c d) ≡ replaced_formula l (formula_of ts f)
    at-lt is = formula_of-lt us c d ∙ (λ j. tree.Lt (first j) (second j)) ∙ sym (by_form (form.Lt a b) _ _ is (formula_of-lt ts a b) (replaced-rolled l (layer.Lt (tree_at ts a) (tree_at ts b)) _ (tree.rolls-Lt _ _)))

  pub at-not : (g h : IdFormula) → formula_of us h ≡ replaced_formula l (formula_of ts g) → f ≡ form.Not g → formula_of us (form.Not h) ≡ replaced_formula l (formula_of ts f)
  at-not g h first is = formula_of-not us h ∙ ap (λ x. tree.Not x) first ∙ sym (by_form (form.Not g) _ _ is (formula_of-not ts g) (replaced-rolled l (layer.Not (formula_of ts g)) _ (tree.rolls-Not _)))

  module _ (a b c d : IdFormula) (first : formula_of us c ≡ replaced_formula l (formula_of ts a)) (second : formula_of us d ≡ replaced_formula l (formula_of ts b)) where
    pub at-and : f ≡ form.And a b → formula_of us (form.And c d) ≡ replaced_formula l (formula_of ts f)
    at-and is = formula_of-and us c d ∙ (λ j. tree.And (first j) (second j)) ∙ sym (by_form (form.And a b) _ _ is (formula_of-and ts a b) (replaced-rolled l (layer.And (formula_of ts a) (formula_of ts b)) _ (tree.rolls-And _ _)))

    pub at-or : f ≡ form.Or a b → formula_of us (form.Or c d) ≡ replaced_formula l (formula_of ts f)
    at-or is = formula_of-or us c d ∙ (λ j. tree.Or (first j) (second j)) ∙ sym (by_form (form.Or a b) _ _ is (formula_of-or ts a b) (replaced-rolled l (layer.Or (formula_of ts a) (formula_of ts b)) _ (tree.rolls-Or _ _)))

    pub at-imp : f ≡ form.Imp a b → formula_of us (form.Imp c d) ≡ replaced_formula l (formula_of ts f)
    at-imp is = formula_of-imp us c d ∙ (λ j. tree.Imp (first j) (second j)) ∙ sym (by_form (form.Imp a b) _ _ is (formula_of-imp ts a b) (replaced-rolled l (layer.Imp (formula_of ts a) (formula_of ts b)) _ (tree.rolls-Imp _ _)))

-- ---- how far their positions reach

bound-rolled : (k : IdFormula-F IdFormula) (f : IdFormula) → roll-IdFormula k ≡ f → formula_bound f ≡ bound_here (map-IdFormula IdFormula ℕ formula_bound k)
bound-rolled k f is = ap formula_bound (sym is) ∙ fold-roll-IdFormula ℕ bound_here k

pub bound-true : formula_bound form.True ≡ 0
bound-true = bound-rolled id_layer.True _ form.rolls-True

pub bound-false : formula_bound form.False ≡ 0
bound-false = bound-rolled id_layer.False _ form.rolls-False

pub bound-eq : (a b : ℕ) → formula_bound (form.Eq a b) ≡ max (a + 1) (b + 1)
bound-eq a b = bound-rolled (id_layer.Eq a b) _ (form.rolls-Eq a b)

pub bound-le : (a b : ℕ) → formula_bound (form.Le a b) ≡ max (a + 1) (b + 1)
bound-le a b = bound-rolled (id_layer.Le a b) _ (form.rolls-Le a b)

pub bound-lt : (a b : ℕ) → formula_bound (form.Lt a b) ≡ max (a + 1) (b + 1)
bound-lt a b = bound-rolled (id_layer.Lt a b) _ (form.rolls-Lt a b)

pub bound-not : (f : IdFormula) → formula_bound (form.Not f) ≡ formula_bound f
bound-not f = bound-rolled (id_layer.Not f) _ (form.rolls-Not f)

pub bound-and : (f g : IdFormula) → formula_bound (form.And f g) ≡ max (formula_bound f) (formula_bound g)
bound-and f g = bound-rolled (id_layer.And f g) _ (form.rolls-And f g)

pub bound-or : (f g : IdFormula) → formula_bound (form.Or f g) ≡ max (formula_bound f) (formula_bound g)
bound-or f g = bound-rolled (id_layer.Or f g) _ (form.rolls-Or f g)

pub bound-imp : (f g : IdFormula) → formula_bound (form.Imp f g) ≡ max (formula_bound f) (formula_bound g)
bound-imp f g = bound-rolled (id_layer.Imp f g) _ (form.rolls-Imp f g)

pub ruleset placements = (at-true, at-false, at-eq, at-le, at-lt, at-not, at-and, at-or, at-imp, bound-true, bound-false, bound-eq, bound-le, bound-lt, bound-not, bound-and, bound-or, bound-imp)

-- ---- over a longer table

module _ (old new : List Term) (more : Extends old new) where
  pub leaves-more : (l : LeafIds) → LeavesWithin (length old) l → LeavesWithin (length new) l
  leaves-more l w = record {
    variables = λ k. further _ (w.variables k);
    own = λ k. further _ (w.own k);
    places = λ p. further _ (w.places p);
  }
    where
      further : (o : Option ℕ) → IfSome o (λ id. id < length old) → IfSome o (λ id. id < length new)
      further None h = tt
      further (Some id) h = omega (arith, more.longer)

  module _ (l : LeafIds) (w : LeavesWithin (length old) l) where
    pub nodes-more : KeepsNodes (leaves_of old l) → KeepsNodes (leaves_of new l)
    nodes-more keeps = subst KeepsNodes (sym (more.leaves l w)) keeps

    pub replaced-more : (id : ℕ) → id < length old → replaced (leaves_of new l) (tree_at new id) ≡ replaced (leaves_of old l) (tree_at old id)
    replaced-more id low = λ j. replaced (more.leaves l w j) (more.kept id low j)

    pub replaced-formula-more : (f : IdFormula) → formula_bound f ≤ length old → replaced_formula (leaves_of new l) (formula_of new f) ≡ replaced_formula (leaves_of old l) (formula_of old f)
    replaced-formula-more f low = λ j. replaced_formula (more.leaves l w j) (more.formula f low j)

  pub position-kept : (id : ℕ) → id < length old → tree_at new id ≡ tree_at old id
  position-kept id low = more.kept id low

  pub position-within : (id : ℕ) → id < length old → id < length new
  position-within id low = omega (arith, more.longer)

  pub formula-same : (f : IdFormula) → formula_bound f ≤ length old → formula_of new f ≡ formula_of old f
  formula-same f low = more.formula f low

  pub formula-low : (f : IdFormula) → formula_bound f ≤ length old → formula_bound f ≤ length new
  formula-low f low = omega (arith, more.longer)

pub ruleset over_longer = (extends-then, leaves-more, nodes-more, replaced-more, replaced-formula-more, position-kept, position-within, formula-same, formula-low)

-- How formulas over a table follow its growth.
use Rattle.std.proofs.Common.{◌≡◌, ℕ, ◌<◌, ◌≤◌, List, [], ◌∷◌, map, length, slice_get, Option, Some, None, IfSome, refl, sym, ap, subst, ◌∙◌, arith}
use Rattle.std.proofs.lemmas.List.Elements.{All-head, All-tail}
use Rattle.std.specs.List.{All}
use Rattle.std.specs.Option.{option_map}
use Rattle.term_trees.specs.declared.term.Term.{Term}
use Rattle.term_trees.specs.declared.term.Formula.{Formula, roll-Formula, out-Formula, out-roll-Formula}
use Rattle.term_trees.specs.declared.term.Formula.TheOpen.{Formula-F}
use Rattle.term_trees.specs.declared.term.Formula.TheOpen as tree
use Rattle.term_logic.specs.declared.formula.IdFormula.{IdFormula, roll-IdFormula, out-IdFormula, roll-out-IdFormula, map-IdFormula, fold-roll-IdFormula, ind-IdFormula}
use Rattle.term_logic.specs.declared.formula.IdFormula.TheOpen.{IdFormula-F, True, False, Eq, Le, Lt, Not, And, Or, Imp}
use Rattle.term_trees.specs.declared.term.Formula.TheVariants as tree_form
use Rattle.term_logic.specs.declared.formula.IdFormula.TheVariants as form
use Rattle.term_logic.specs.declared.formula.IdFormula.TheVariants.{rolls-True, rolls-False, rolls-Eq, rolls-Le, rolls-Lt, rolls-Not, rolls-And, rolls-Or, rolls-Imp, outs-True, outs-False, outs-Eq, outs-Le, outs-Lt, outs-Not, outs-And, outs-Or, outs-Imp}
use Rattle.term_logic.specs.declared.leaves.LeafIds.{LeafIds}
use Rattle.term_logic.specs.Table.{tree_at}
use Rattle.term_logic.specs.Leaves.{place_id, leaves_of, LeavesWithin}
use Rattle.term_logic.specs.Extends.{Extends}
use Rattle.term_logic.specs.Formulas.{bound_here, formula_bound, formula_layer, formula_of}

pub induct : (P : IdFormula → Type 0) → ((l : IdFormula-F ((f : IdFormula) × P f)) → P (roll-IdFormula (map-IdFormula ((f : IdFormula) × P f) IdFormula (λ e. e.0) l))) → (f : IdFormula) → P f
induct P step = ind-IdFormula P (λ x y is. subst (λ l. P (roll-IdFormula l)) is (step y))

bound_roll : (l : IdFormula-F IdFormula) → formula_bound (roll-IdFormula l) ≡ bound_here (map-IdFormula IdFormula ℕ formula_bound l)
bound_roll l = fold-roll-IdFormula ℕ bound_here l

of_roll : (ts : List Term) (l : IdFormula-F IdFormula) → formula_of ts (roll-IdFormula l) ≡ roll-Formula (formula_layer ts (map-IdFormula IdFormula Formula (formula_of ts) l))
of_roll ts l = fold-roll-IdFormula Formula (λ l. roll-Formula (formula_layer ts l)) l

map_map : {X Y Z : Type 0} (g : X → Y) (h : Y → Z) (l : IdFormula-F X) → map-IdFormula Y Z h (map-IdFormula X Y g l) ≡ map-IdFormula X Z (λ x. h (g x)) l
map_map g h True = refl
map_map g h False = refl
map_map g h (Eq a b) = refl
map_map g h (Le a b) = refl
map_map g h (Lt a b) = refl
map_map g h (Not f) = refl
map_map g h (And a b) = refl
map_map g h (Or a b) = refl
map_map g h (Imp a b) = refl

module _ (old new : List Term) (longer : length old ≤ length new) (kept : (i : ℕ) → i < length old → tree_at new i ≡ tree_at old i) where
  abbrev Kept : IdFormula → Type 0
  Kept f = formula_bound f ≤ length old → formula_of new f ≡ formula_of old f

  kept_layer : (l : IdFormula-F ((f : IdFormula) × Kept f)) → (b : ℕ) → b ≡ bound_here (map-IdFormula ((f : IdFormula) × Kept f) ℕ (λ e. formula_bound e.0) l) → b ≤ length old
      → formula_layer new (map-IdFormula ((f : IdFormula) × Kept f) Formula (λ e. formula_of new e.0) l) ≡ formula_layer old (map-IdFormula ((f : IdFormula) × Kept f) Formula (λ e. formula_of old e.0) l)
  kept_layer True b e h = refl
  kept_layer False b e h = refl
  kept_layer (Eq x y) b e h = λ j. tree.Eq (kept x (omega arith) j) (kept y (omega arith) j)
  kept_layer (Le x y) b e h = λ j. tree.Le (kept x (omega arith) j) (kept y (omega arith) j)
  kept_layer (Lt x y) b e h = λ j. tree.Lt (kept x (omega arith) j) (kept y (omega arith) j)
  kept_layer (Not f) b e h = λ j. tree.Not (f.1 (omega arith) j)
  kept_layer (And f g) b e h = λ j. tree.And (f.1 (omega arith) j) (g.1 (omega arith) j)
  kept_layer (Or f g) b e h = λ j. tree.Or (f.1 (omega arith) j) (g.1 (omega arith) j)
  kept_layer (Imp f g) b e h = λ j. tree.Imp (f.1 (omega arith) j) (g.1 (omega arith) j)

  -- a formula over the old table stands for the same formula over the new one
  pub formula_of_kept : (f : IdFormula) → formula_bound f ≤ length old → formula_of new f ≡ formula_of old f
  formula_of_kept = induct Kept (λ l h.
      let part = λ (e : (f : IdFormula) × Kept f). e.0 in
      let low = subst (λ n. n ≤ length old) (bound_roll (map-IdFormula _ _ part l) ∙ ap bound_here (map_map part formula_bound l)) h in
      of_roll new (map-IdFormula _ _ part l)
      ∙ ap roll-Formula (ap (formula_layer new) (map_map part (formula_of new) l) ∙ kept_layer l _ refl low ∙ sym (ap (formula_layer old) (map_map part (formula_of old) l)))
      ∙ sym (of_roll old (map-IdFormula _ _ part l)))

  map_kept : {X Y : Type 0} (g h : X → Y) (P : X → Type 0) → ((x : X) → P x → g x ≡ h x) → (xs : List X) → All P xs → map g xs ≡ map h xs
  map_kept g h P same [] all = refl
  map_kept g h P same (x ∷ xs) all = λ j. same x (All-head P x xs all) j ∷ map_kept g h P same xs (All-tail P x xs all) j

  place_kept : (o : Option ℕ) → IfSome o (λ k. k < length old) → option_map (tree_at new) o ≡ option_map (tree_at old) o
  place_kept None w = refl
  place_kept (Some k) w = ap Some (kept k w)

  leaves_kept : (l : LeafIds) → LeavesWithin (length old) l → leaves_of new l ≡ leaves_of old l
  leaves_kept l w = λ j. record {
    variable = λ k. place_kept (slice_get l.variables.now k) (w.variables k) j;
    own = λ k. place_kept (slice_get l.own.now k) (w.own k) j;
    place = λ p. place_kept (place_id l p) (w.places p) j;
  }

  pub extended : Extends old new
  extended = record {
    longer = longer;
    kept = kept;
    trees = λ is all. map_kept (tree_at new) (tree_at old) (λ i. i < length old) kept is all;
    formula = formula_of_kept;
    leaves = leaves_kept;
    formulas = λ fs all. map_kept (formula_of new) (formula_of old) (λ f. formula_bound f ≤ length old) formula_of_kept fs all;
  }

-- ---- what a formula over a table opens to

module _ (ts : List Term) where
  abbrev parts_of : IdFormula-F IdFormula → Formula-F Formula
  parts_of l = formula_layer ts (map-IdFormula IdFormula Formula (formula_of ts) l)

  -- what a formula over the table opens to
  pub out_formula_of : (f : IdFormula) → out-Formula (formula_of ts f) ≡ parts_of (out-IdFormula f)
  out_formula_of f = ap (λ g. out-Formula (formula_of ts g)) (sym (roll-out-IdFormula f)) ∙ ap out-Formula (of_roll ts (out-IdFormula f)) ∙ out-roll-Formula (parts_of (out-IdFormula f))

pub ruleset opened = (out_formula_of, outs-True, outs-False, outs-Eq, outs-Le, outs-Lt, outs-Not, outs-And, outs-Or, outs-Imp)

-- what each form over the table stands for
module _ (ts : List Term) where
  pub formula_of-true : formula_of ts form.True ≡ tree_form.True
  formula_of-true = ap (formula_of ts) (sym rolls-True) ∙ of_roll ts (True) ∙ tree_form.rolls-True

  pub formula_of-false : formula_of ts form.False ≡ tree_form.False
  formula_of-false = ap (formula_of ts) (sym rolls-False) ∙ of_roll ts (False) ∙ tree_form.rolls-False

  pub formula_of-eq : (a b : ℕ) → formula_of ts (form.Eq a b) ≡ tree_form.Eq (tree_at ts a) (tree_at ts b)
  formula_of-eq a b = ap (formula_of ts) (sym (rolls-Eq a b)) ∙ of_roll ts (Eq a b) ∙ tree_form.rolls-Eq _ _

  pub formula_of-le : (a b : ℕ) → formula_of ts (form.Le a b) ≡ tree_form.Le (tree_at ts a) (tree_at ts b)
  formula_of-le a b = ap (formula_of ts) (sym (rolls-Le a b)) ∙ of_roll ts (Le a b) ∙ tree_form.rolls-Le _ _

  pub formula_of-lt : (a b : ℕ) → formula_of ts (form.Lt a b) ≡ tree_form.Lt (tree_at ts a) (tree_at ts b)
  formula_of-lt a b = ap (formula_of ts) (sym (rolls-Lt a b)) ∙ of_roll ts (Lt a b) ∙ tree_form.rolls-Lt _ _

  pub formula_of-not : (f : IdFormula) → formula_of ts (form.Not f) ≡ tree_form.Not (formula_of ts f)
  formula_of-not f = ap (formula_of ts) (sym (rolls-Not f)) ∙ of_roll ts (Not f) ∙ tree_form.rolls-Not _

  pub formula_of-and : (f g : IdFormula) → formula_of ts (form.And f g) ≡ tree_form.And (formula_of ts f) (formula_of ts g)
  formula_of-and f g = ap (formula_of ts) (sym (rolls-And f g)) ∙ of_roll ts (And f g) ∙ tree_form.rolls-And _ _

  pub formula_of-or : (f g : IdFormula) → formula_of ts (form.Or f g) ≡ tree_form.Or (formula_of ts f) (formula_of ts g)
  formula_of-or f g = ap (formula_of ts) (sym (rolls-Or f g)) ∙ of_roll ts (Or f g) ∙ tree_form.rolls-Or _ _

  pub formula_of-imp : (f g : IdFormula) → formula_of ts (form.Imp f g) ≡ tree_form.Imp (formula_of ts f) (formula_of ts g)
  formula_of-imp f g = ap (formula_of ts) (sym (rolls-Imp f g)) ∙ of_roll ts (Imp f g) ∙ tree_form.rolls-Imp _ _

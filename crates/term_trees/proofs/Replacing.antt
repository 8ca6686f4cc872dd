-- Replacing leaves keeps values.
use Rattle.std.proofs.Common.{◌≡◌, ℤ, ◌+ℤ◌, ◌-ℤ◌, ◌*ℤ◌, Bool, not, ◌&&◌, ◌||◌, Option, Some, None, refl, sym, ap, ◌∙◌}
use Rattle.std.specs.Prelude.{unwrap_or, int_lt, int_le}
use Rattle.std.specs.Option.{option_map_or}
use Rattle.std.specs.Ordering.{int_eq}
use Rattle.term_trees.specs.declared.term.Term.{Term, roll-Term, map-Term, fold-roll-Term}
use Rattle.term_trees.specs.declared.term.Term.TheOpen.{Term-F, Num, Var, Own, At, Add, Sub, Mul, One, Two, Low, Sext, Sgn}
use Rattle.term_trees.specs.declared.term.Term.TheVariants as term
use Rattle.term_trees.specs.declared.term.Formula.{Formula, roll-Formula, map-Formula, fold-roll-Formula}
use Rattle.term_trees.specs.declared.term.Formula.TheOpen as layer
use Rattle.term_trees.specs.declared.term.Formula.TheOpen.{Formula-F}
use Rattle.term_trees.specs.declared.term.Formula.TheVariants as form
use Rattle.term_trees.specs.Meaning.{Numbers, value_here, value, holds_here, holds}
use Rattle.term_trees.specs.Leaves.{Leaves, Stands, replaced_here, replaced, replaced_formula_here, replaced_formula}
use Rattle.term_trees.proofs.Sameness.{induct, map_map, induct_formula, map_map_form}

module _ (l : Leaves) (n m : Numbers) (stands : Stands l n m) where
  abbrev Kept : Term → Type 0
  Kept t = value n (replaced l t) ≡ value m t

  value-of : (k : Term-F Term) (t : Term) → roll-Term k ≡ t → value n t ≡ value_here n (map-Term Term ℤ (value n) k)
  value-of k t is = ap (value n) (sym is) ∙ fold-roll-Term ℤ (value_here n) k

  leaf : (o : Option Term) (d : Term) (z : ℤ) → value n d ≡ z → value n (unwrap_or o d) ≡ option_map_or (value n) o z
  leaf None d z e = e
  leaf (Some t) d z e = refl

  kept_layer : (k : Term-F ((t : Term) × Kept t)) → value n (replaced_here l (map-Term ((t : Term) × Kept t) Term (λ e. replaced l e.0) k)) ≡ value_here m (map-Term ((t : Term) × Kept t) ℤ (λ e. value m e.0) k)
  kept_layer (Num z) = value-of (Num z) _ (term.rolls-Num z)
  kept_layer (Var k) = leaf (l.variable k) _ _ (value-of (Var k) _ (term.rolls-Var k)) ∙ sym (stands.variables k)
  kept_layer (Own k) = leaf (l.own k) _ _ (value-of (Own k) _ (term.rolls-Own k)) ∙ sym (stands.own k)
  kept_layer (At p) = leaf (l.place p) _ _ (value-of (At p) _ (term.rolls-At p)) ∙ sym (stands.places p)
  kept_layer (Add a b) = value-of (Add (replaced l a.0) (replaced l b.0)) _ (term.rolls-Add _ _) ∙ (λ j. a.1 j +ℤ b.1 j)
  kept_layer (Sub a b) = value-of (Sub (replaced l a.0) (replaced l b.0)) _ (term.rolls-Sub _ _) ∙ (λ j. a.1 j -ℤ b.1 j)
  kept_layer (Mul a b) = value-of (Mul (replaced l a.0) (replaced l b.0)) _ (term.rolls-Mul _ _) ∙ (λ j. a.1 j *ℤ b.1 j)
  kept_layer (One op a) = value-of (One op (replaced l a.0)) _ (term.rolls-One _ _) ∙ (λ j. value_here m (One op (a.1 j)))
  kept_layer (Two op a b) = value-of (Two op (replaced l a.0) (replaced l b.0)) _ (term.rolls-Two _ _ _) ∙ (λ j. value_here m (Two op (a.1 j) (b.1 j)))
  kept_layer (Low k a) = value-of (Low k (replaced l a.0)) _ (term.rolls-Low _ _) ∙ (λ j. value_here m (Low k (a.1 j)))
  kept_layer (Sext k q a) = value-of (Sext k q (replaced l a.0)) _ (term.rolls-Sext _ _ _) ∙ (λ j. value_here m (Sext k q (a.1 j)))
  kept_layer (Sgn k a) = value-of (Sgn k (replaced l a.0)) _ (term.rolls-Sgn _ _) ∙ (λ j. value_here m (Sgn k (a.1 j)))

  -- the value of a term whose leaves are replaced
  pub value-replaced : (t : Term) → value n (replaced l t) ≡ value m t
  value-replaced = induct Kept (λ k.
      let part = λ (e : (t : Term) × Kept t). e.0 in
      ap (value n) (fold-roll-Term Term (replaced_here l) (map-Term _ _ part k) ∙ ap (replaced_here l) (map_map part (replaced l) k))
      ∙ kept_layer k
      ∙ sym (fold-roll-Term ℤ (value_here m) (map-Term _ _ part k) ∙ ap (value_here m) (map_map part (value m) k)))

  abbrev KeptForm : Formula → Type 0
  KeptForm f = holds n (replaced_formula l f) ≡ holds m f

  holds-of : (k : Formula-F Formula) (f : Formula) → roll-Formula k ≡ f → holds n f ≡ holds_here n (map-Formula Formula Bool (holds n) k)
  holds-of k f is = ap (holds n) (sym is) ∙ fold-roll-Formula Bool (holds_here n) k

  kept_form : (k : Formula-F ((f : Formula) × KeptForm f)) → holds n (replaced_formula_here l (map-Formula ((f : Formula) × KeptForm f) Formula (λ e. replaced_formula l e.0) k)) ≡ holds_here m (map-Formula ((f : Formula) × KeptForm f) Bool (λ e. holds m e.0) k)
  kept_form layer.True = holds-of layer.True _ form.rolls-True
  kept_form layer.False = holds-of layer.False _ form.rolls-False
  kept_form (layer.Eq a b) = holds-of (layer.Eq (replaced l a) (replaced l b)) _ (form.rolls-Eq _ _) ∙ (λ j. int_eq (value-replaced a j) (value-replaced b j))
  kept_form (layer.Le a b) = holds-of (layer.Le (replaced l a) (replaced l b)) _ (form.rolls-Le _ _) ∙ (λ j. int_le (value-replaced a j) (value-replaced b j))
  kept_form (layer.Lt a b) = holds-of (layer.Lt (replaced l a) (replaced l b)) _ (form.rolls-Lt _ _) ∙ (λ j. int_lt (value-replaced a j) (value-replaced b j))
  kept_form (layer.Not f) = holds-of (layer.Not (replaced_formula l f.0)) _ (form.rolls-Not _) ∙ (λ j. not (f.1 j))
  kept_form (layer.And f g) = holds-of (layer.And (replaced_formula l f.0) (replaced_formula l g.0)) _ (form.rolls-And _ _) ∙ (λ j. f.1 j && g.1 j)
  kept_form (layer.Or f g) = holds-of (layer.Or (replaced_formula l f.0) (replaced_formula l g.0)) _ (form.rolls-Or _ _) ∙ (λ j. f.1 j || g.1 j)
  kept_form (layer.Imp f g) = holds-of (layer.Imp (replaced_formula l f.0) (replaced_formula l g.0)) _ (form.rolls-Imp _ _) ∙ (λ j. not (f.1 j) || g.1 j)

  -- the truth of a formula whose leaves are replaced
  pub holds-replaced : (f : Formula) → holds n (replaced_formula l f) ≡ holds m f
  holds-replaced = induct_formula KeptForm (λ k.
      let part = λ (e : (f : Formula) × KeptForm f). e.0 in
      ap (holds n) (fold-roll-Formula Formula (replaced_formula_here l) (map-Formula _ _ part k) ∙ ap (replaced_formula_here l) (map_map_form part (replaced_formula l) k))
      ∙ kept_form k
      ∙ sym (fold-roll-Formula Bool (holds_here m) (map-Formula _ _ part k) ∙ ap (holds_here m) (map_map_form part (holds m) k)))

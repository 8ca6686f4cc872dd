-- Leaves that come to the same trees.
use Rattle.std.proofs.Common.{◌≡◌, ℕ, sym, ap, ◌∙◌}
use Rattle.std.specs.Prelude.{unwrap_or}
use Rattle.term_trees.specs.declared.term.Place.{Place}
use Rattle.term_trees.specs.declared.term.Term.{Term, map-Term, fold-roll-Term}
use Rattle.term_trees.specs.declared.term.Term.TheOpen.{Term-F, Num, Var, Own, At, Add, Sub, Mul, One, Two, Low, Sext, Sgn}
use Rattle.term_trees.specs.declared.term.Term.TheVariants as term
use Rattle.term_trees.specs.declared.term.Formula.{Formula, map-Formula, fold-roll-Formula}
use Rattle.term_trees.specs.declared.term.Formula.TheOpen as layer
use Rattle.term_trees.specs.declared.term.Formula.TheOpen.{Formula-F}
use Rattle.term_trees.specs.declared.term.Formula.TheVariants as form
use Rattle.term_trees.specs.Leaves.{Leaves, replaced_here, replaced, replaced_formula_here, replaced_formula}
use Rattle.term_trees.proofs.Sameness.{induct, map_map, induct_formula, map_map_form}

-- Each leaf comes to the same tree.
pub record SameTrees (l m : Leaves) : Type 0 where
  pub variables : (k : ℕ) → unwrap_or (l.variable k) (term.Var k) ≡ unwrap_or (m.variable k) (term.Var k)
  pub own : (k : ℕ) → unwrap_or (l.own k) (term.Own k) ≡ unwrap_or (m.own k) (term.Own k)
  pub places : (p : Place) → unwrap_or (l.place p) (term.At p) ≡ unwrap_or (m.place p) (term.At p)

module _ (l m : Leaves) (same : SameTrees l m) where
  abbrev Same : Term → Type 0
  Same t = replaced l t ≡ replaced m t

  here : (k : Term-F ((t : Term) × Same t)) → replaced_here l (map-Term ((t : Term) × Same t) Term (λ e. replaced l e.0) k) ≡ replaced_here m (map-Term ((t : Term) × Same t) Term (λ e. replaced m e.0) k)
  here (Num n) = λ j. term.Num n
  here (Var k) = same.variables k
  here (Own k) = same.own k
  here (At p) = same.places p
  here (Add a b) = λ j. term.Add (a.1 j) (b.1 j)
  here (Sub a b) = λ j. term.Sub (a.1 j) (b.1 j)
  here (Mul a b) = λ j. term.Mul (a.1 j) (b.1 j)
  here (One op a) = λ j. term.One op (a.1 j)
  here (Two op a b) = λ j. term.Two op (a.1 j) (b.1 j)
  here (Low k a) = λ j. term.Low k (a.1 j)
  here (Sext k n a) = λ j. term.Sext k n (a.1 j)
  here (Sgn n a) = λ j. term.Sgn n (a.1 j)

  pub term-same : (t : Term) → replaced l t ≡ replaced m t
  term-same = induct Same (λ k.
      let part = λ (e : (t : Term) × Same t). e.0 in
      fold-roll-Term Term (replaced_here l) (map-Term _ _ part k) ∙ ap (replaced_here l) (map_map part (replaced l) k)
      ∙ here k
      ∙ sym (fold-roll-Term Term (replaced_here m) (map-Term _ _ part k) ∙ ap (replaced_here m) (map_map part (replaced m) k)))

  abbrev SameForm : Formula → Type 0
  SameForm f = replaced_formula l f ≡ replaced_formula m f

  here_form : (k : Formula-F ((f : Formula) × SameForm f)) → replaced_formula_here l (map-Formula ((f : Formula) × SameForm f) Formula (λ e. replaced_formula l e.0) k)
      ≡ replaced_formula_here m (map-Formula ((f : Formula) × SameForm f) Formula (λ e. replaced_formula m e.0) k)
  here_form layer.True = λ j. form.True
  here_form layer.False = λ j. form.False
  here_form (layer.Eq a b) = λ j. form.Eq (term-same a j) (term-same b j)
  here_form (layer.Le a b) = λ j. form.Le (term-same a j) (term-same b j)
  here_form (layer.Lt a b) = λ j. form.Lt (term-same a j) (term-same b j)
  here_form (layer.Not f) = λ j. form.Not (f.1 j)
  here_form (layer.And f g) = λ j. form.And (f.1 j) (g.1 j)
  here_form (layer.Or f g) = λ j. form.Or (f.1 j) (g.1 j)
  here_form (layer.Imp f g) = λ j. form.Imp (f.1 j) (g.1 j)

  pub formula-same : (f : Formula) → replaced_formula l f ≡ replaced_formula m f
  formula-same = induct_formula SameForm (λ k.
      let part = λ (e : (f : Formula) × SameForm f). e.0 in
      fold-roll-Formula Formula (replaced_formula_here l) (map-Formula _ _ part k) ∙ ap (replaced_formula_here l) (map_map_form part (replaced_formula l) k)
      ∙ here_form k
      ∙ sym (fold-roll-Formula Formula (replaced_formula_here m) (map-Formula _ _ part k) ∙ ap (replaced_formula_here m) (map_map_form part (replaced_formula m) k)))

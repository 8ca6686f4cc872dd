-- Where variables stand for themselves, terms and formulas stay.
use Rattle.std.proofs.Common.{◌≡◌, refl, sym, ap, ◌∙◌, ℕ, Bool, true, false, if◌then◌else◌, Some, None}
use Rattle.std.specs.Prelude.{unwrap_or, nat_lt}
use Rattle.term_trees.specs.declared.term.Term.{Term, roll-Term, map-Term, fold-roll-Term}
use Rattle.term_trees.specs.declared.term.Term.TheOpen.{Term-F, Num, Var, Own, At, Add, Sub, Mul, One, Two, Low, Sext, Sgn}
use Rattle.term_trees.specs.declared.term.Term.TheVariants as term
use Rattle.term_trees.specs.declared.term.Formula.{Formula, roll-Formula, map-Formula, fold-roll-Formula}
use Rattle.term_trees.specs.declared.term.Formula.TheOpen as layer
use Rattle.term_trees.specs.declared.term.Formula.TheOpen.{Formula-F}
use Rattle.term_trees.specs.declared.term.Formula.TheVariants as form
use Rattle.term_trees.specs.Leaves.{replaced_here, replaced, replaced_formula_here, replaced_formula}
use Rattle.term_trees.proofs.Sameness.{induct, map_map, induct_formula, map_map_form}
use Rattle.outline_rules.specs.Tests.{lemma_variables}

module _ (vars : ℕ) where
  itself : (k : ℕ) (b : Bool) → unwrap_or (if b then Some (term.Var k) else None) (term.Var k) ≡ term.Var k
  itself k true = refl
  itself k false = refl

  abbrev Stays : Term → Type 0
  Stays t = replaced (lemma_variables vars) t ≡ t

  stays_here : (k : Term-F ((t : Term) × Stays t)) → replaced_here (lemma_variables vars) (map-Term ((t : Term) × Stays t) Term (λ e. replaced (lemma_variables vars) e.0) k) ≡ roll-Term (map-Term ((t : Term) × Stays t) Term (λ e. e.0) k)
  stays_here (Num n) = sym (term.rolls-Num n)
  stays_here (Var k) = itself k (nat_lt k vars) ∙ sym (term.rolls-Var k)
  stays_here (Own k) = sym (term.rolls-Own k)
  stays_here (At p) = sym (term.rolls-At p)
  stays_here (Add a b) = sym (term.rolls-Add (replaced (lemma_variables vars) a.0) (replaced (lemma_variables vars) b.0)) ∙ (λ j. roll-Term (Add (a.1 j) (b.1 j)))
  stays_here (Sub a b) = sym (term.rolls-Sub (replaced (lemma_variables vars) a.0) (replaced (lemma_variables vars) b.0)) ∙ (λ j. roll-Term (Sub (a.1 j) (b.1 j)))
  stays_here (Mul a b) = sym (term.rolls-Mul (replaced (lemma_variables vars) a.0) (replaced (lemma_variables vars) b.0)) ∙ (λ j. roll-Term (Mul (a.1 j) (b.1 j)))
  stays_here (One op a) = sym (term.rolls-One op (replaced (lemma_variables vars) a.0)) ∙ (λ j. roll-Term (One op (a.1 j)))
  stays_here (Two op a b) = sym (term.rolls-Two op (replaced (lemma_variables vars) a.0) (replaced (lemma_variables vars) b.0)) ∙ (λ j. roll-Term (Two op (a.1 j) (b.1 j)))
  stays_here (Low k a) = sym (term.rolls-Low k (replaced (lemma_variables vars) a.0)) ∙ (λ j. roll-Term (Low k (a.1 j)))
  stays_here (Sext k n a) = sym (term.rolls-Sext k n (replaced (lemma_variables vars) a.0)) ∙ (λ j. roll-Term (Sext k n (a.1 j)))
  stays_here (Sgn n a) = sym (term.rolls-Sgn n (replaced (lemma_variables vars) a.0)) ∙ (λ j. roll-Term (Sgn n (a.1 j)))

  pub term_stays : (t : Term) → replaced (lemma_variables vars) t ≡ t
  term_stays = induct Stays (λ k.
      let part = λ (e : (t : Term) × Stays t). e.0 in
      fold-roll-Term Term (replaced_here (lemma_variables vars)) (map-Term _ _ part k) ∙ ap (replaced_here (lemma_variables vars)) (map_map part (replaced (lemma_variables vars)) k) ∙ stays_here k)

  abbrev StaysForm : Formula → Type 0
  StaysForm f = replaced_formula (lemma_variables vars) f ≡ f

  stays_form : (k : Formula-F ((f : Formula) × StaysForm f)) → replaced_formula_here (lemma_variables vars) (map-Formula ((f : Formula) × StaysForm f) Formula (λ e. replaced_formula (lemma_variables vars) e.0) k) ≡ roll-Formula (map-Formula ((f : Formula) × StaysForm f) Formula (λ e. e.0) k)
  stays_form layer.True = sym form.rolls-True
  stays_form layer.False = sym form.rolls-False
  stays_form (layer.Eq a b) = sym (form.rolls-Eq (replaced (lemma_variables vars) a) (replaced (lemma_variables vars) b)) ∙ (λ j. roll-Formula (layer.Eq (term_stays a j) (term_stays b j)))
  stays_form (layer.Le a b) = sym (form.rolls-Le (replaced (lemma_variables vars) a) (replaced (lemma_variables vars) b)) ∙ (λ j. roll-Formula (layer.Le (term_stays a j) (term_stays b j)))
  stays_form (layer.Lt a b) = sym (form.rolls-Lt (replaced (lemma_variables vars) a) (replaced (lemma_variables vars) b)) ∙ (λ j. roll-Formula (layer.Lt (term_stays a j) (term_stays b j)))
  stays_form (layer.Not f) = sym (form.rolls-Not (replaced_formula (lemma_variables vars) f.0)) ∙ (λ j. roll-Formula (layer.Not (f.1 j)))
  stays_form (layer.And f g) = sym (form.rolls-And (replaced_formula (lemma_variables vars) f.0) (replaced_formula (lemma_variables vars) g.0)) ∙ (λ j. roll-Formula (layer.And (f.1 j) (g.1 j)))
  stays_form (layer.Or f g) = sym (form.rolls-Or (replaced_formula (lemma_variables vars) f.0) (replaced_formula (lemma_variables vars) g.0)) ∙ (λ j. roll-Formula (layer.Or (f.1 j) (g.1 j)))
  stays_form (layer.Imp f g) = sym (form.rolls-Imp (replaced_formula (lemma_variables vars) f.0) (replaced_formula (lemma_variables vars) g.0)) ∙ (λ j. roll-Formula (layer.Imp (f.1 j) (g.1 j)))

  pub formula_stays : (f : Formula) → replaced_formula (lemma_variables vars) f ≡ f
  formula_stays = induct_formula StaysForm (λ k.
      let part = λ (e : (f : Formula) × StaysForm f). e.0 in
      fold-roll-Formula Formula (replaced_formula_here (lemma_variables vars)) (map-Formula _ _ part k) ∙ ap (replaced_formula_here (lemma_variables vars)) (map_map_form part (replaced_formula (lemma_variables vars)) k) ∙ stays_form k)

-- What the truth of a formula says of its parts.
use Rattle.std.proofs.Common.{◌≡◌, Bool, true, false, not, ◌&&◌, ◌||◌, IsTrue, Option, Some, None, refl, sym, ap, subst, ◌∙◌, true≢false}
use Rattle.std.proofs.lemmas.Option.{same_Some}
use Rattle.term_trees.specs.declared.term.Formula.{Formula, out-Formula, map-Formula, fold_out-Formula}
use Rattle.term_trees.specs.declared.term.Formula.TheOpen.{Formula-F, True, False, Not, And, Or, Imp}
use Rattle.term_trees.specs.declared.term.Formula.TheVariants as formula
use Rattle.term_trees.specs.Views.{true_here, false_here, not_here, and_here, or_here, imp_here, is_true, is_false, not_of, and_of, or_of, imp_of}
use Rattle.term_trees.specs.Meaning.{Numbers, holds, holds_here}
use Rattle.term_trees.specs.Same.{passes, same_formula}
use Rattle.term_trees.proofs.Sameness.{same_formula-exact}
use Rattle.bitvector_rules.specs.Truth.{Holds}

-- what a test that passed shows
pub passed : {X : Type 0} (o : Option X) (test : X → Bool) (Q : Type 0) → IsTrue (passes o test) → ((x : X) → o ≡ Some x → IsTrue (test x) → Q) → Q
passed None test Q h then = absurd (true≢false (sym h))
passed (Some x) test Q h then = then x refl h

module _ (n : Numbers) where
  -- the truth of a layer, by that of its parts
  abbrev layer_holds : Formula-F Formula → Bool
  layer_holds l = holds_here n (map-Formula Formula Bool (holds n) l)

  holds_out : (c : Formula) → holds n c ≡ layer_holds (out-Formula c)
  holds_out c = fold_out-Formula Bool (holds_here n) c

  true_layer : (l : Formula-F Formula) → true_here l ≡ true → layer_holds l ≡ true
  true_layer True e = refl
  true_layer _ e = cc

  false_layer : (l : Formula-F Formula) → false_here l ≡ true → layer_holds l ≡ false
  false_layer False e = refl
  false_layer _ e = cc

  not_layer : (l : Formula-F Formula) (f : Formula) → not_here l ≡ Some f → layer_holds l ≡ not (holds n f)
  not_layer (Not g) f e = ap (λ h. not (holds n h)) (same_Some g f e)
  not_layer _ f e = cc

  and_layer : (l : Formula-F Formula) (q : Formula × Formula) → and_here l ≡ Some q → layer_holds l ≡ (holds n q.0 && holds n q.1)
  and_layer (And f g) q e = ap (λ p. holds n p.0 && holds n p.1) (same_Some (f, g) q e)
  and_layer _ q e = cc

  or_layer : (l : Formula-F Formula) (q : Formula × Formula) → or_here l ≡ Some q → layer_holds l ≡ (holds n q.0 || holds n q.1)
  or_layer (Or f g) q e = ap (λ p. holds n p.0 || holds n p.1) (same_Some (f, g) q e)
  or_layer _ q e = cc

  imp_layer : (l : Formula-F Formula) (q : Formula × Formula) → imp_here l ≡ Some q → layer_holds l ≡ (not (holds n q.0) || holds n q.1)
  imp_layer (Imp f g) q e = ap (λ p. not (holds n p.0) || holds n p.1) (same_Some (f, g) q e)
  imp_layer _ q e = cc

  pub holds-true : (c : Formula) → is_true c ≡ true → Holds n c
  holds-true c e = holds_out c ∙ true_layer (out-Formula c) e

  pub holds-false : (c : Formula) → is_false c ≡ true → holds n c ≡ false
  holds-false c e = holds_out c ∙ false_layer (out-Formula c) e

  pub holds-not : (c f : Formula) → not_of c ≡ Some f → holds n c ≡ not (holds n f)
  holds-not c f e = holds_out c ∙ not_layer (out-Formula c) f e

  pub holds-and : (c : Formula) (q : Formula × Formula) → and_of c ≡ Some q → holds n c ≡ (holds n q.0 && holds n q.1)
  holds-and c q e = holds_out c ∙ and_layer (out-Formula c) q e

  pub holds-or : (c : Formula) (q : Formula × Formula) → or_of c ≡ Some q → holds n c ≡ (holds n q.0 || holds n q.1)
  holds-or c q e = holds_out c ∙ or_layer (out-Formula c) q e

  pub holds-imp : (c : Formula) (q : Formula × Formula) → imp_of c ≡ Some q → holds n c ≡ (not (holds n q.0) || holds n q.1)
  holds-imp c q e = holds_out c ∙ imp_layer (out-Formula c) q e

  pub false_fails : Holds n formula.False → ⊥
  false_fails h = true≢false (sym h ∙ holds_out formula.False ∙ ap layer_holds formula.outs-False)

  pub denied_holds : (f : Formula) → holds n f ≡ false → Holds n (formula.Not f)
  denied_holds f e = holds_out (formula.Not f) ∙ ap layer_holds (formula.outs-Not f) ∙ ap not e

  pub same_holds : (f g : Formula) → IsTrue (same_formula f g) → Holds n f → Holds n g
  same_holds f g same h = subst (Holds n) (same_formula-exact f g same) h

  pub same_held : (f g : Formula) → IsTrue (same_formula f g) → Holds n g → Holds n f
  same_held f g same h = subst (Holds n) (sym (same_formula-exact f g same)) h

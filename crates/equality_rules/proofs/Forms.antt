-- What the truth of a formula says of the terms in it.
use Rattle.std.proofs.Common.{◌≡◌, Bool, not, ◌||◌, IsTrue, Option, Some, None, refl, sym, ap, ◌∙◌, true≢false}
use Rattle.std.specs.Prelude.{int_lt, int_le}
use Rattle.std.specs.Ordering.{int_eq}
use Rattle.std.proofs.lemmas.Option.{same_Some}
use Rattle.term_trees.specs.declared.term.Term.{Term}
use Rattle.term_trees.specs.declared.term.Formula.{Formula, out-Formula, map-Formula, fold_out-Formula}
use Rattle.term_trees.specs.declared.term.Formula.TheOpen.{Formula-F, Eq, Le, Lt, Not, Or}
use Rattle.term_trees.specs.Views.{eq_here, le_here, lt_here, not_here, or_here, eq_of, le_of, lt_of, not_of, or_of}
use Rattle.term_trees.specs.Meaning.{Numbers, value, holds, holds_here}
use Rattle.term_trees.specs.Same.{passes, same}
use Rattle.term_trees.proofs.Sameness.{same-exact}
use Rattle.term_trees.proofs.Truths.{both}
use Rattle.equality_rules.specs.Equality.{are_sides}

-- what a test that passed shows
pub passed : {X : Type 0} (o : Option X) (test : X → Bool) (Q : Type 0) → IsTrue (passes o test) → ((x : X) → o ≡ Some x → IsTrue (test x) → Q) → Q
passed None test Q h then = absurd (true≢false (sym h))
passed (Some x) test Q h then = then x refl h

-- the sides are the terms that were named
pub sides_are : (o : Option (Term × Term)) (a b : Term) → IsTrue (are_sides o a b) → o ≡ Some (a, b)
sides_are None a b h = absurd (true≢false (sym h))
sides_are (Some p) a b h = let parts = both (same a p.0) (same b p.1) h in sym (λ j. Some (same-exact a p.0 parts.0 j, same-exact b p.1 parts.1 j))

module _ (n : Numbers) where
  -- the truth of a layer, by that of its parts
  abbrev layer_holds : Formula-F Formula → Bool
  layer_holds l = holds_here n (map-Formula Formula Bool (holds n) l)

  holds_out : (c : Formula) → holds n c ≡ layer_holds (out-Formula c)
  holds_out c = fold_out-Formula Bool (holds_here n) c

  eq_layer : (l : Formula-F Formula) (q : Term × Term) → eq_here l ≡ Some q → layer_holds l ≡ int_eq (value n q.0) (value n q.1)
  eq_layer (Eq a b) q e = ap (λ (p : Term × Term). int_eq (value n p.0) (value n p.1)) (same_Some (a, b) q e)
  eq_layer _ q e = cc

  le_layer : (l : Formula-F Formula) (q : Term × Term) → le_here l ≡ Some q → layer_holds l ≡ int_le (value n q.0) (value n q.1)
  le_layer (Le a b) q e = ap (λ (p : Term × Term). int_le (value n p.0) (value n p.1)) (same_Some (a, b) q e)
  le_layer _ q e = cc

  lt_layer : (l : Formula-F Formula) (q : Term × Term) → lt_here l ≡ Some q → layer_holds l ≡ int_lt (value n q.0) (value n q.1)
  lt_layer (Lt a b) q e = ap (λ (p : Term × Term). int_lt (value n p.0) (value n p.1)) (same_Some (a, b) q e)
  lt_layer _ q e = cc

  not_layer : (l : Formula-F Formula) (f : Formula) → not_here l ≡ Some f → layer_holds l ≡ not (holds n f)
  not_layer (Not g) f e = ap (λ h. not (holds n h)) (same_Some g f e)
  not_layer _ f e = cc

  or_layer : (l : Formula-F Formula) (q : Formula × Formula) → or_here l ≡ Some q → layer_holds l ≡ (holds n q.0 || holds n q.1)
  or_layer (Or f g) q e = ap (λ (p : Formula × Formula). holds n p.0 || holds n p.1) (same_Some (f, g) q e)
  or_layer _ q e = cc

  pub holds-eq : (c : Formula) (q : Term × Term) → eq_of c ≡ Some q → holds n c ≡ int_eq (value n q.0) (value n q.1)
  holds-eq c q e = holds_out c ∙ eq_layer (out-Formula c) q e

  pub holds-le : (c : Formula) (q : Term × Term) → le_of c ≡ Some q → holds n c ≡ int_le (value n q.0) (value n q.1)
  holds-le c q e = holds_out c ∙ le_layer (out-Formula c) q e

  pub holds-lt : (c : Formula) (q : Term × Term) → lt_of c ≡ Some q → holds n c ≡ int_lt (value n q.0) (value n q.1)
  holds-lt c q e = holds_out c ∙ lt_layer (out-Formula c) q e

  pub holds-not : (c f : Formula) → not_of c ≡ Some f → holds n c ≡ not (holds n f)
  holds-not c f e = holds_out c ∙ not_layer (out-Formula c) f e

  pub holds-or : (c : Formula) (q : Formula × Formula) → or_of c ≡ Some q → holds n c ≡ (holds n q.0 || holds n q.1)
  holds-or c q e = holds_out c ∙ or_layer (out-Formula c) q e

-- Terms and formulas mean the same under numbers that agree on their leaves.
use Rattle.std.proofs.Common.{◌≡◌, ℤ, ◌+ℤ◌, ◌-ℤ◌, ◌*ℤ◌, Bool, true, not, ◌&&◌, ◌||◌, refl, sym, ap, ◌∙◌}
use Rattle.std.specs.Prelude.{int_lt, int_le}
use Rattle.std.specs.Ordering.{int_eq}
use Rattle.std.proofs.lemmas.Bool.{and_parts}
use Rattle.term_trees.specs.declared.term.Term.{Term, map-Term, fold-roll-Term}
use Rattle.term_trees.specs.declared.term.Term.TheOpen.{Term-F, Num, Var, Own, At, Add, Sub, Mul, One, Two, Low, Sext, Sgn}
use Rattle.term_trees.specs.declared.term.Formula.{Formula, map-Formula, fold-roll-Formula}
use Rattle.term_trees.specs.declared.term.Formula.TheOpen as layer
use Rattle.term_trees.specs.declared.term.Formula.TheOpen.{Formula-F}
use Rattle.term_trees.specs.Meaning.{Numbers, value_here, value, holds_here, holds}
use Rattle.term_trees.specs.Scopes.{Scope, in_scope_here, in_scope, formula_in_scope_here, formula_in_scope, Agree}
use Rattle.term_trees.proofs.Sameness.{induct, map_map, induct_formula, map_map_form}

module _ (s : Scope) (n m : Numbers) (agree : Agree s n m) where
  abbrev Alike : Term → Type 0
  Alike t = in_scope s t ≡ true → value n t ≡ value m t

  alike_layer : (k : Term-F ((t : Term) × Alike t)) → in_scope_here s (map-Term ((t : Term) × Alike t) Bool (λ e. in_scope s e.0) k) ≡ true
      → value_here n (map-Term ((t : Term) × Alike t) ℤ (λ e. value n e.0) k) ≡ value_here m (map-Term ((t : Term) × Alike t) ℤ (λ e. value m e.0) k)
  alike_layer (Num z) e = refl
  alike_layer (Var k) e = agree.variables k e
  alike_layer (Own k) e = agree.own k e
  alike_layer (At p) e = agree.places p e
  alike_layer (Add a b) e = let p = and_parts (in_scope s a.0) (in_scope s b.0) e in λ j. a.1 p.0 j +ℤ b.1 p.1 j
  alike_layer (Sub a b) e = let p = and_parts (in_scope s a.0) (in_scope s b.0) e in λ j. a.1 p.0 j -ℤ b.1 p.1 j
  alike_layer (Mul a b) e = let p = and_parts (in_scope s a.0) (in_scope s b.0) e in λ j. a.1 p.0 j *ℤ b.1 p.1 j
  alike_layer (One op a) e = λ j. value_here m (One op (a.1 e j))
  alike_layer (Two op a b) e = let p = and_parts (in_scope s a.0) (in_scope s b.0) e in λ j. value_here m (Two op (a.1 p.0 j) (b.1 p.1 j))
  alike_layer (Low k a) e = λ j. value_here m (Low k (a.1 e j))
  alike_layer (Sext k q a) e = λ j. value_here m (Sext k q (a.1 e j))
  alike_layer (Sgn k a) e = λ j. value_here m (Sgn k (a.1 e j))

  -- a term in scope has one value
  pub value_alike : (t : Term) → in_scope s t ≡ true → value n t ≡ value m t
  value_alike = induct Alike (λ k e.
      let part = λ (x : (t : Term) × Alike t). x.0 in
      fold-roll-Term ℤ (value_here n) (map-Term _ _ part k) ∙ ap (value_here n) (map_map part (value n) k)
      ∙ alike_layer k (sym (fold-roll-Term Bool (in_scope_here s) (map-Term _ _ part k) ∙ ap (in_scope_here s) (map_map part (in_scope s) k)) ∙ e)
      ∙ sym (fold-roll-Term ℤ (value_here m) (map-Term _ _ part k) ∙ ap (value_here m) (map_map part (value m) k)))

  abbrev AlikeForm : Formula → Type 0
  AlikeForm f = formula_in_scope s f ≡ true → holds n f ≡ holds m f

  two : (test : ℤ → ℤ → Bool) (a b : Term) → (in_scope s a && in_scope s b) ≡ true → test (value n a) (value n b) ≡ test (value m a) (value m b)
  two test a b e =
      let p = and_parts (in_scope s a) (in_scope s b) e in
      λ j. test (value_alike a p.0 j) (value_alike b p.1 j)

  alike_form : (k : Formula-F ((f : Formula) × AlikeForm f)) → formula_in_scope_here s (map-Formula ((f : Formula) × AlikeForm f) Bool (λ e. formula_in_scope s e.0) k) ≡ true
      → holds_here n (map-Formula ((f : Formula) × AlikeForm f) Bool (λ e. holds n e.0) k) ≡ holds_here m (map-Formula ((f : Formula) × AlikeForm f) Bool (λ e. holds m e.0) k)
  alike_form layer.True e = refl
  alike_form layer.False e = refl
  alike_form (layer.Eq a b) e = two int_eq a b e
  alike_form (layer.Le a b) e = two int_le a b e
  alike_form (layer.Lt a b) e = two int_lt a b e
  alike_form (layer.Not f) e = λ j. not (f.1 e j)
  alike_form (layer.And f g) e = let p = and_parts (formula_in_scope s f.0) (formula_in_scope s g.0) e in λ j. f.1 p.0 j && g.1 p.1 j
  alike_form (layer.Or f g) e = let p = and_parts (formula_in_scope s f.0) (formula_in_scope s g.0) e in λ j. f.1 p.0 j || g.1 p.1 j
  alike_form (layer.Imp f g) e = let p = and_parts (formula_in_scope s f.0) (formula_in_scope s g.0) e in λ j. not (f.1 p.0 j) || g.1 p.1 j

  -- a formula in scope is as true
  pub holds_alike : (f : Formula) → formula_in_scope s f ≡ true → holds n f ≡ holds m f
  holds_alike = induct_formula AlikeForm (λ k e.
      let part = λ (x : (f : Formula) × AlikeForm f). x.0 in
      fold-roll-Formula Bool (holds_here n) (map-Formula _ _ part k) ∙ ap (holds_here n) (map_map_form part (holds n) k)
      ∙ alike_form k (sym (fold-roll-Formula Bool (formula_in_scope_here s) (map-Formula _ _ part k) ∙ ap (formula_in_scope_here s) (map_map_form part (formula_in_scope s) k)) ∙ e)
      ∙ sym (fold-roll-Formula Bool (holds_here m) (map-Formula _ _ part k) ∙ ap (holds_here m) (map_map_form part (holds m) k)))

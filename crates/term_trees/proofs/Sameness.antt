-- `same` and `same_formula` are equality of trees.
use Rattle.std.proofs.Common.{◌≡◌, ◌↔◌, Bool, true, ◌&&◌, ◌==◌, IsTrue, refl, sym, ap, subst, ◌∙◌, true≢false}
use Rattle.std.proofs.lemmas.Bool.{eqb-true, eq-eqb}
use Rattle.std.proofs.lemmas.Bool.Decides.{Decides-int_eq}
use Rattle.std.specs.Ordering.{int_eq}
use Rattle.wasm_values.specs.contracts.number.NumOpPartialEq.TheImpl as operator
use Rattle.term_trees.specs.contracts.term.PlacePartialEq.TheImpl as place
use Rattle.term_trees.specs.declared.term.Term.{Term, roll-Term, out-Term, roll-out-Term, out-roll-Term, map-Term, fold-roll-Term, ind-Term}
use Rattle.term_trees.specs.declared.term.Term.TheOpen.{Term-F, Num, Var, Own, At, Add, Sub, Mul, One, Two, Low, Sext, Sgn}
use Rattle.term_trees.specs.declared.term.Formula.{Formula, roll-Formula, out-Formula, roll-out-Formula, out-roll-Formula, map-Formula, fold-roll-Formula, ind-Formula}
use Rattle.term_trees.specs.declared.term.Formula.TheOpen.{Formula-F}
use Rattle.term_trees.specs.declared.term.Formula.TheOpen as form
use Rattle.term_trees.specs.Views.{num_here, var_here, own_here, place_here, sum_here, difference_here, product_here, one_here, two_here, low_here, sext_here, sgn_here, true_here, false_here, eq_here, le_here, lt_here, not_here, and_here, or_here, imp_here}
use Rattle.term_trees.specs.Same.{passes, same_here, same, same_formula_here, same_formula}
use Rattle.term_trees.proofs.Equalities.{exact_place, exact_num_op, refl_place, refl_num_op}
use Rattle.term_trees.proofs.Truths.{both, and_true}

pub induct : (P : Term → Type 0) → ((l : Term-F ((t : Term) × P t)) → P (roll-Term (map-Term ((t : Term) × P t) Term (λ e. e.0) l))) → (t : Term) → P t
induct P step = ind-Term P (λ x y is. subst (λ l. P (roll-Term l)) is (step y))

-- the test at a layer, by the layer of the other tree
abbrev pub layer_test : Term-F (Term → Bool) → Term-F Term → Bool
layer_test (Num n) m = passes (num_here m) (λ k. int_eq n k)
layer_test (Var k) m = passes (var_here m) (λ j. k == j)
layer_test (Own k) m = passes (own_here m) (λ j. k == j)
layer_test (At p) m = passes (place_here m) (λ q. (place.ghosts).eq p q)
layer_test (Add a b) m = passes (sum_here m) (λ p. a p.0 && b p.1)
layer_test (Sub a b) m = passes (difference_here m) (λ p. a p.0 && b p.1)
layer_test (Mul a b) m = passes (product_here m) (λ p. a p.0 && b p.1)
layer_test (One op a) m = passes (one_here m) (λ p. (operator.ghosts).eq op p.0 && a p.1)
layer_test (Two op a b) m = passes (two_here m) (λ p. (operator.ghosts).eq op p.0 && (a p.1 && b p.2))
layer_test (Low k a) m = passes (low_here m) (λ p. k == p.0 && a p.1)
layer_test (Sext k n a) m = passes (sext_here m) (λ p. k == p.0 && (n == p.1 && a p.2))
layer_test (Sgn n a) m = passes (sgn_here m) (λ p. n == p.0 && a p.1)

pub here-test : (l : Term-F (Term → Bool)) (u : Term) → same_here l u ≡ layer_test l (out-Term u)
here-test (Num n) u = refl
here-test (Var k) u = refl
here-test (Own k) u = refl
here-test (At p) u = refl
here-test (Add a b) u = refl
here-test (Sub a b) u = refl
here-test (Mul a b) u = refl
here-test (One op a) u = refl
here-test (Two op a b) u = refl
here-test (Low k a) u = refl
here-test (Sext k n a) u = refl
here-test (Sgn n a) u = refl

pub map_map : {X Y Z : Type 0} (g : X → Y) (h : Y → Z) (l : Term-F X) → map-Term Y Z h (map-Term X Y g l) ≡ map-Term X Z (λ x. h (g x)) l
map_map g h (Num n) = refl
map_map g h (Var k) = refl
map_map g h (Own k) = refl
map_map g h (At p) = refl
map_map g h (Add a b) = refl
map_map g h (Sub a b) = refl
map_map g h (Mul a b) = refl
map_map g h (One op a) = refl
map_map g h (Two op a b) = refl
map_map g h (Low k a) = refl
map_map g h (Sext k n a) = refl
map_map g h (Sgn n a) = refl

same-layer : (l : Term-F Term) (u : Term) → same (roll-Term l) u ≡ layer_test (map-Term Term (Term → Bool) same l) (out-Term u)
same-layer l u =
    ap (λ test. test u) (fold-roll-Term (Term → Bool) same_here l)
    ∙ here-test (map-Term Term (Term → Bool) same l) u

abbrev Exact : Term → Type 0
Exact t = (u : Term) → same t u ≡ true → t ≡ u

abbrev exact_part : (t : Term) × Exact t → Term
exact_part e = e.0

exact_layer : (l : Term-F ((t : Term) × Exact t)) (m : Term-F Term) → layer_test (map-Term ((t : Term) × Exact t) (Term → Bool) (λ e. same e.0) l) m ≡ true
    → map-Term ((t : Term) × Exact t) Term (λ e. e.0) l ≡ m
exact_layer (Num a) (Num b) e = ap Num ((Decides-int_eq a b).0 e)
exact_layer (Var a) (Var b) e = ap Var (eqb-true a b e)
exact_layer (Own a) (Own b) e = ap Own (eqb-true a b e)
exact_layer (At a) (At b) e = ap At (exact_place a b e)
exact_layer (Add a b) (Add c d) e = let p = both _ _ e in λ i. Add (a.1 c p.0 i) (b.1 d p.1 i)
exact_layer (Sub a b) (Sub c d) e = let p = both _ _ e in λ i. Sub (a.1 c p.0 i) (b.1 d p.1 i)
exact_layer (Mul a b) (Mul c d) e = let p = both _ _ e in λ i. Mul (a.1 c p.0 i) (b.1 d p.1 i)
exact_layer (One o a) (One q c) e = let p = both _ _ e in λ i. One (exact_num_op o q p.0 i) (a.1 c p.1 i)
exact_layer (Two o a b) (Two q c d) e =
    let p = both _ _ e in
    let r = both _ _ p.1 in
    λ i. Two (exact_num_op o q p.0 i) (a.1 c r.0 i) (b.1 d r.1 i)
exact_layer (Low k a) (Low m c) e = let p = both _ _ e in λ i. Low (eqb-true k m p.0 i) (a.1 c p.1 i)
exact_layer (Sext k n a) (Sext m q c) e =
    let p = both _ _ e in
    let r = both _ _ p.1 in
    λ i. Sext (eqb-true k m p.0 i) (eqb-true n q r.0 i) (a.1 c r.1 i)
exact_layer (Sgn n a) (Sgn m c) e = let p = both _ _ e in λ i. Sgn (eqb-true n m p.0 i) (a.1 c p.1 i)
exact_layer _ _ e = absurd (true≢false (sym e))

pub same-exact : (t u : Term) → same t u ≡ true → t ≡ u
same-exact = induct Exact (λ l u e.
    ap roll-Term (exact_layer l (out-Term u) (sym (ap (λ k. layer_test k (out-Term u)) (map_map exact_part same l)) ∙ sym (same-layer (map-Term _ _ exact_part l) u) ∙ e))
    ∙ roll-out-Term u)

abbrev Alike : Term → Type 0
Alike t = same t t ≡ true

abbrev alike_part : (t : Term) × Alike t → Term
alike_part e = e.0

alike_layer : (l : Term-F ((t : Term) × Alike t)) → layer_test (map-Term ((t : Term) × Alike t) (Term → Bool) (λ e. same e.0) l) (map-Term ((t : Term) × Alike t) Term (λ e. e.0) l) ≡ true
alike_layer (Num a) = (Decides-int_eq a a).1 refl
alike_layer (Var a) = eq-eqb a a refl
alike_layer (Own a) = eq-eqb a a refl
alike_layer (At p) = refl_place p
alike_layer (Add a b) = and_true _ _ a.1 b.1
alike_layer (Sub a b) = and_true _ _ a.1 b.1
alike_layer (Mul a b) = and_true _ _ a.1 b.1
alike_layer (One op a) = and_true _ _ (refl_num_op op) a.1
alike_layer (Two op a b) = and_true _ _ (refl_num_op op) (and_true _ _ a.1 b.1)
alike_layer (Low k a) = and_true _ _ (eq-eqb k k refl) a.1
alike_layer (Sext k n a) = and_true _ _ (eq-eqb k k refl) (and_true _ _ (eq-eqb n n refl) a.1)
alike_layer (Sgn n a) = and_true _ _ (eq-eqb n n refl) a.1

pub same-refl : (t : Term) → same t t ≡ true
same-refl = induct Alike (λ l.
    same-layer (map-Term _ _ alike_part l) (roll-Term (map-Term _ _ alike_part l))
    ∙ ap (layer_test (map-Term Term (Term → Bool) same (map-Term _ _ alike_part l))) (out-roll-Term (map-Term _ _ alike_part l))
    ∙ ap (λ k. layer_test k (map-Term _ _ alike_part l)) (map_map alike_part same l)
    ∙ alike_layer l)

-- the test is equality
pub same-is : (t u : Term) → IsTrue (same t u) ↔ (t ≡ u)
same-is t u = (same-exact t u, λ e. subst (λ v. same t v ≡ true) e (same-refl t))

-- ---- formulas

pub induct_formula : (P : Formula → Type 0) → ((l : Formula-F ((f : Formula) × P f)) → P (roll-Formula (map-Formula ((f : Formula) × P f) Formula (λ e. e.0) l))) → (f : Formula) → P f
induct_formula P step = ind-Formula P (λ x y is. subst (λ l. P (roll-Formula l)) is (step y))

abbrev form_test : Formula-F (Formula → Bool) → Formula-F Formula → Bool
form_test form.True m = true_here m
form_test form.False m = false_here m
form_test (form.Eq a b) m = passes (eq_here m) (λ p. same a p.0 && same b p.1)
form_test (form.Le a b) m = passes (le_here m) (λ p. same a p.0 && same b p.1)
form_test (form.Lt a b) m = passes (lt_here m) (λ p. same a p.0 && same b p.1)
form_test (form.Not g) m = passes (not_here m) (λ h. g h)
form_test (form.And g h) m = passes (and_here m) (λ p. g p.0 && h p.1)
form_test (form.Or g h) m = passes (or_here m) (λ p. g p.0 && h p.1)
form_test (form.Imp g h) m = passes (imp_here m) (λ p. g p.0 && h p.1)

form-test : (l : Formula-F (Formula → Bool)) (f : Formula) → same_formula_here l f ≡ form_test l (out-Formula f)
form-test form.True f = refl
form-test form.False f = refl
form-test (form.Eq a b) f = refl
form-test (form.Le a b) f = refl
form-test (form.Lt a b) f = refl
form-test (form.Not g) f = refl
form-test (form.And g h) f = refl
form-test (form.Or g h) f = refl
form-test (form.Imp g h) f = refl

pub map_map_form : {X Y Z : Type 0} (g : X → Y) (h : Y → Z) (l : Formula-F X) → map-Formula Y Z h (map-Formula X Y g l) ≡ map-Formula X Z (λ x. h (g x)) l
map_map_form g h form.True = refl
map_map_form g h form.False = refl
map_map_form g h (form.Eq a b) = refl
map_map_form g h (form.Le a b) = refl
map_map_form g h (form.Lt a b) = refl
map_map_form g h (form.Not f) = refl
map_map_form g h (form.And a b) = refl
map_map_form g h (form.Or a b) = refl
map_map_form g h (form.Imp a b) = refl

same_formula-layer : (l : Formula-F Formula) (f : Formula) → same_formula (roll-Formula l) f ≡ form_test (map-Formula Formula (Formula → Bool) same_formula l) (out-Formula f)
same_formula-layer l f =
    ap (λ test. test f) (fold-roll-Formula (Formula → Bool) same_formula_here l)
    ∙ form-test (map-Formula Formula (Formula → Bool) same_formula l) f

abbrev ExactForm : Formula → Type 0
ExactForm f = (g : Formula) → same_formula f g ≡ true → f ≡ g

abbrev exact_form_part : (f : Formula) × ExactForm f → Formula
exact_form_part e = e.0

exact_form : (l : Formula-F ((f : Formula) × ExactForm f)) (m : Formula-F Formula) → form_test (map-Formula ((f : Formula) × ExactForm f) (Formula → Bool) (λ e. same_formula e.0) l) m ≡ true
    → map-Formula ((f : Formula) × ExactForm f) Formula (λ e. e.0) l ≡ m
exact_form form.True form.True e = refl
exact_form form.False form.False e = refl
exact_form (form.Eq a b) (form.Eq c d) e = let p = both _ _ e in λ i. form.Eq (same-exact a c p.0 i) (same-exact b d p.1 i)
exact_form (form.Le a b) (form.Le c d) e = let p = both _ _ e in λ i. form.Le (same-exact a c p.0 i) (same-exact b d p.1 i)
exact_form (form.Lt a b) (form.Lt c d) e = let p = both _ _ e in λ i. form.Lt (same-exact a c p.0 i) (same-exact b d p.1 i)
exact_form (form.Not f) (form.Not g) e = λ i. form.Not (f.1 g e i)
exact_form (form.And f g) (form.And h k) e = let p = both _ _ e in λ i. form.And (f.1 h p.0 i) (g.1 k p.1 i)
exact_form (form.Or f g) (form.Or h k) e = let p = both _ _ e in λ i. form.Or (f.1 h p.0 i) (g.1 k p.1 i)
exact_form (form.Imp f g) (form.Imp h k) e = let p = both _ _ e in λ i. form.Imp (f.1 h p.0 i) (g.1 k p.1 i)
exact_form _ _ e = absurd (true≢false (sym e))

pub same_formula-exact : (f g : Formula) → same_formula f g ≡ true → f ≡ g
same_formula-exact = induct_formula ExactForm (λ l g e.
    ap roll-Formula (exact_form l (out-Formula g) (sym (ap (λ k. form_test k (out-Formula g)) (map_map_form exact_form_part same_formula l)) ∙ sym (same_formula-layer (map-Formula _ _ exact_form_part l) g) ∙ e))
    ∙ roll-out-Formula g)

abbrev AlikeForm : Formula → Type 0
AlikeForm f = same_formula f f ≡ true

abbrev alike_form_part : (f : Formula) × AlikeForm f → Formula
alike_form_part e = e.0

alike_form : (l : Formula-F ((f : Formula) × AlikeForm f)) → form_test (map-Formula ((f : Formula) × AlikeForm f) (Formula → Bool) (λ e. same_formula e.0) l) (map-Formula ((f : Formula) × AlikeForm f) Formula (λ e. e.0) l) ≡ true
alike_form form.True = refl
alike_form form.False = refl
alike_form (form.Eq a b) = and_true _ _ (same-refl a) (same-refl b)
alike_form (form.Le a b) = and_true _ _ (same-refl a) (same-refl b)
alike_form (form.Lt a b) = and_true _ _ (same-refl a) (same-refl b)
alike_form (form.Not f) = f.1
alike_form (form.And f g) = and_true _ _ f.1 g.1
alike_form (form.Or f g) = and_true _ _ f.1 g.1
alike_form (form.Imp f g) = and_true _ _ f.1 g.1

pub same_formula-refl : (f : Formula) → same_formula f f ≡ true
same_formula-refl = induct_formula AlikeForm (λ l.
    same_formula-layer (map-Formula _ _ alike_form_part l) (roll-Formula (map-Formula _ _ alike_form_part l))
    ∙ ap (form_test (map-Formula Formula (Formula → Bool) same_formula (map-Formula _ _ alike_form_part l))) (out-roll-Formula (map-Formula _ _ alike_form_part l))
    ∙ ap (λ k. form_test k (map-Formula _ _ alike_form_part l)) (map_map_form alike_form_part same_formula l)
    ∙ alike_form l)

-- the test is equality
pub same_formula-is : (f g : Formula) → IsTrue (same_formula f g) ↔ (f ≡ g)
same_formula-is f g = (same_formula-exact f g, λ e. subst (λ h. same_formula f h ≡ true) e (same_formula-refl f))

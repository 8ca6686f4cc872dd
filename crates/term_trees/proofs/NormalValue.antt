-- A term with a normal form has the value of that form.
use Rattle.std.proofs.Common.{◌≡◌, ℤ, pos, ◌+ℤ◌, ◌-ℤ◌, ◌*ℤ◌, Bool, true, false, not, ◌&&◌, ◌||◌, List, [], ◌∷◌, Some, None, refl, sym, ap, subst, ◌∙◌, true≢false}
use Rattle.std.specs.Prelude.{if◌then◌else◌}
use Rattle.std.specs.List.{list_all}
use Rattle.std.specs.Ordering.{int_eq}
use Rattle.std.proofs.lemmas.Bool.Decides.{Decides-int_eq}
use Rattle.std.proofs.Math.IntN.{*ℤ-zero, zero-*ℤ}
use Rattle.term_trees.specs.declared.term.Term.{Term, roll-Term, map-Term, fold-roll-Term}
use Rattle.term_trees.specs.declared.term.Term.TheOpen.{Term-F, Num, Var, Own, At, Add, Sub, Mul, One, Two, Low, Sext, Sgn}
use Rattle.term_trees.specs.declared.forms.Normal.{Normal}
use Rattle.term_trees.specs.Same.{same}
use Rattle.term_trees.specs.Meaning.{Numbers, value_here, value}
use Rattle.term_trees.specs.Normal.{Form, single, combined, is_constant, layer_form, form, distinct, parts_of, nonzero, parts_value, fits, on_the_way, normal_form, normal_value}
use Rattle.term_trees.proofs.Sameness.{induct, map_map, same-exact, same-refl}
use Rattle.term_trees.proofs.AtomLists.{among, among-append, with_coefficients, without}
use Rattle.term_trees.proofs.LinearForms.{form-roll, Covers, form-covers}
use Rattle.term_trees.proofs.NormalForms.{finished}
use Rattle.term_trees.proofs.Rings.{sum_of_sums, difference_of_sums, times_sum, sum_times, add_forms, subtract_forms, times_form, form_times, skip_zero, one_zero, zero_plus, plus_zero}

module _ (n : Numbers) where
  -- the sum of the products of coefficients and values
  abbrev total : (Term → ℤ) → List Term → ℤ
  total k [] = pos 0
  total k (x ∷ xs) = (k x *ℤ value n x) +ℤ total k xs

  total-same : (k h : Term → ℤ) → ((x : Term) → k x ≡ h x) → (xs : List Term) → total k xs ≡ total h xs
  total-same k h same xs = λ j. total (λ x. same x j) xs

  total-zero : (xs : List Term) → total (λ x. pos 0) xs ≡ pos 0
  total-zero [] = refl
  total-zero (x ∷ xs) = skip_zero (value n x) (total (λ x. pos 0) xs) ∙ total-zero xs

  total-sum : (f g : Term → ℤ) (xs : List Term) → total (λ x. f x +ℤ g x) xs ≡ total f xs +ℤ total g xs
  total-sum f g [] = refl
  total-sum f g (x ∷ xs) = ap (λ s. ((f x +ℤ g x) *ℤ value n x) +ℤ s) (total-sum f g xs) ∙ sum_of_sums (f x) (g x) (value n x) (total f xs) (total g xs)

  total-difference : (f g : Term → ℤ) (xs : List Term) → total (λ x. f x -ℤ g x) xs ≡ total f xs -ℤ total g xs
  total-difference f g [] = refl
  total-difference f g (x ∷ xs) = ap (λ s. ((f x -ℤ g x) *ℤ value n x) +ℤ s) (total-difference f g xs) ∙ difference_of_sums (f x) (g x) (value n x) (total f xs) (total g xs)

  total-times : (c : ℤ) (g : Term → ℤ) (xs : List Term) → total (λ x. c *ℤ g x) xs ≡ c *ℤ total g xs
  total-times c g [] = sym (*ℤ-zero c)
  total-times c g (x ∷ xs) = ap (λ s. ((c *ℤ g x) *ℤ value n x) +ℤ s) (total-times c g xs) ∙ times_sum c (g x) (value n x) (total g xs)

  total-by : (c : ℤ) (f : Term → ℤ) (xs : List Term) → total (λ x. f x *ℤ c) xs ≡ total f xs *ℤ c
  total-by c f [] = sym (zero-*ℤ c)
  total-by c f (x ∷ xs) = ap (λ s. ((f x *ℤ c) *ℤ value n x) +ℤ s) (total-by c f xs) ∙ sum_times c (f x) (value n x) (total f xs)

  -- ---- one term alone

  abbrev alone : Term → Term → ℤ
  alone t x = if same t x then pos 1 else pos 0

  drop-step : (k : Term → ℤ) (z y : Term) (us : List Term) (b : Bool) (s : ℤ) → (b ≡ true → k y ≡ pos 0) → total k us ≡ s → total k (if not b then y ∷ us else us) ≡ ((k y *ℤ value n y) +ℤ s)
  drop-step k z y us false s zero e = ap (λ s. (k y *ℤ value n y) +ℤ s) e
  drop-step k z y us true s zero e = e ∙ sym (ap (λ c. (c *ℤ value n y) +ℤ s) (zero refl) ∙ skip_zero (value n y) s)

  -- a term with the coefficient 0 may be left out
  total-without : (k : Term → ℤ) (z : Term) → k z ≡ pos 0 → (ys : List Term) → total k (without z ys) ≡ total k ys
  total-without k z zero [] = refl
  total-without k z zero (y ∷ ys) = drop-step k z y (without z ys) (same z y) (total k ys) (λ e. ap k (sym (same-exact z y e)) ∙ zero) (total-without k z zero ys)

  gone-step : (t y : Term) (us : List Term) (b : Bool) → same t y ≡ b → total (alone t) us ≡ pos 0 → total (alone t) (if not b then y ∷ us else us) ≡ pos 0
  gone-step t y us true e ih = ih
  gone-step t y us false e ih = ap (λ b. ((if b then pos 1 else pos 0) *ℤ value n y) +ℤ total (alone t) us) e ∙ skip_zero (value n y) (total (alone t) us) ∙ ih

  -- where it is left out nothing stays
  total-gone : (t : Term) (ys : List Term) → total (alone t) (without t ys) ≡ pos 0
  total-gone t [] = refl
  total-gone t (y ∷ ys) = gone-step t y (without t ys) (same t y) refl (total-gone t ys)

  alone-step : (t y : Term) (us : List Term) (b c : Bool) → same t y ≡ b → total (alone t) us ≡ (if c then value n t else pos 0)
      → ((alone t y *ℤ value n y) +ℤ total (alone t) (without y us)) ≡ (if same y t || c then value n t else pos 0)
  alone-step t y us true c e ih =
      let is = same-exact t y e in
      ap (λ b. ((if b then pos 1 else pos 0) *ℤ value n y) +ℤ total (alone t) (without y us)) e
      ∙ ap (λ z. (pos 1 *ℤ value n y) +ℤ total (alone t) (without z us)) (sym is)
      ∙ ap (λ s. (pos 1 *ℤ value n y) +ℤ s) (total-gone t us) ∙ one_zero (value n y) ∙ ap (value n) (sym is)
      ∙ sym (ap (λ b. if b || c then value n t else pos 0) (ap (λ z. same z t) (sym is) ∙ same-refl t))
  alone-step t y us false c e ih =
      ap (λ b. ((if b then pos 1 else pos 0) *ℤ value n y) +ℤ total (alone t) (without y us)) e
      ∙ skip_zero (value n y) (total (alone t) (without y us))
      ∙ total-without (alone t) y (ap (λ b. if b then pos 1 else pos 0) e) us ∙ ih
      ∙ sym (ap (λ b. if b || c then value n t else pos 0) (turned e))
    where
      turned : same t y ≡ false → same y t ≡ false
      turned e = at (same y t) refl
        where
          at : (b : Bool) → same y t ≡ b → b ≡ false
          at false d = refl
          at true d = absurd (true≢false (sym (same-refl t) ∙ ap (same t) (sym (same-exact y t d)) ∙ e))

  total-alone : (t : Term) (xs : List Term) → total (alone t) (distinct xs) ≡ (if among xs t then value n t else pos 0)
  total-alone t [] = refl
  total-alone t (y ∷ xs) = alone-step t y (distinct xs) (same t y) (among xs t) refl (total-alone t xs)

  -- ---- forms

  -- all atoms of a form are in the list
  abbrev Within : Form → List Term → Type 0
  Within f xs = (x : Term) → among f.atoms x ≡ true → among xs x ≡ true

  abbrev form_value : Form → List Term → ℤ
  form_value f xs = f.constant +ℤ total f.coefficient (distinct xs)

  first-true : (a b : Bool) → a ≡ true → (a || b) ≡ true
  first-true true b e = refl
  first-true false b e = absurd (true≢false (sym e))

  second-true : (a b : Bool) → b ≡ true → (a || b) ≡ true
  second-true true b e = refl
  second-true false b e = e

  within-first : (f g : Form) (op : ℤ → ℤ → ℤ) (xs : List Term) → Within (combined op f g) xs → Within f xs
  within-first f g op xs w x e = w x (among-append f.atoms g.atoms x ∙ first-true _ _ e)

  within-second : (f g : Form) (op : ℤ → ℤ → ℤ) (xs : List Term) → Within (combined op f g) xs → Within g xs
  within-second f g op xs w x e = w x (among-append f.atoms g.atoms x ∙ second-true (among f.atoms x) _ e)

  all-among : (p : Term → Bool) (xs : List Term) (x : Term) → list_all p xs ≡ true → among xs x ≡ true → p x ≡ true
  all-among p [] x a e = absurd (true≢false (sym e))
  all-among p (y ∷ ys) x a e = at (p y) (same y x) refl refl a e (all-among p ys x)
    where
      at : (b c : Bool) → p y ≡ b → same y x ≡ c → (b && list_all p ys) ≡ true → (c || among ys x) ≡ true → (list_all p ys ≡ true → among ys x ≡ true → p x ≡ true) → p x ≡ true
      at true true is the a e ih = ap p (sym (same-exact y x the)) ∙ is
      at true false is the a e ih = ih a e
      at false c is the a e ih = absurd (true≢false (sym a))

  -- a constant form has no coefficients
  constant-zero : (f : Form) → Covers f → is_constant f ≡ true → (x : Term) → f.coefficient x ≡ pos 0
  constant-zero f cf is x = at (among f.atoms x) refl
    where
      at : (b : Bool) → among f.atoms x ≡ b → f.coefficient x ≡ pos 0
      at false e = cf x e
      at true e = (Decides-int_eq (f.coefficient x) (pos 0)).0 (all-among (λ y. int_eq (f.coefficient y) (pos 0)) f.atoms x is e)

  constant-total : (f : Form) → Covers f → is_constant f ≡ true → (xs : List Term) → total f.coefficient xs ≡ pos 0
  constant-total f cf is xs = total-same f.coefficient (λ x. pos 0) (constant-zero f cf is) xs ∙ total-zero xs

  abbrev Valued : Term → Form → Type 0
  Valued t f = (xs : List Term) → Within f xs → value n t ≡ form_value f xs

  valued-single : (t : Term) → Valued t (single t)
  valued-single t xs w = sym (zero_plus (total (alone t) (distinct xs)) ∙ total-alone t xs ∙ ap (λ b. if b then value n t else pos 0) (w t (ap (λ b. b || false) (same-refl t))))

  product-case : (t : Term) (a b : ℤ) (f g : Form) (p q : Bool) → Covers f → Covers g → is_constant f ≡ p → is_constant g ≡ q → value n t ≡ a *ℤ b
      → ((xs : List Term) → Within f xs → a ≡ form_value f xs) → ((xs : List Term) → Within g xs → b ≡ form_value g xs)
      → (xs : List Term) → Within (if p then combined (λ x y. f.constant *ℤ y) f g else if q then combined (λ x y. x *ℤ g.constant) f g else single t) xs
      → value n t ≡ form_value (if p then combined (λ x y. f.constant *ℤ y) f g else if q then combined (λ x y. x *ℤ g.constant) f g else single t) xs
  product-case t a b f g true q cf cg is js e va vb xs w =
      e ∙ (λ j. va xs (within-first f g (λ x y. f.constant *ℤ y) xs w) j *ℤ vb xs (within-second f g (λ x y. f.constant *ℤ y) xs w) j)
      ∙ ap (λ s. (f.constant +ℤ s) *ℤ form_value g xs) (constant-total f cf is (distinct xs))
      ∙ sym (times_form f.constant g.constant (total g.coefficient (distinct xs)))
      ∙ ap (λ s. (f.constant *ℤ g.constant) +ℤ s) (sym (total-times f.constant g.coefficient (distinct xs)))
  product-case t a b f g false true cf cg is js e va vb xs w =
      e ∙ (λ j. va xs (within-first f g (λ x y. x *ℤ g.constant) xs w) j *ℤ vb xs (within-second f g (λ x y. x *ℤ g.constant) xs w) j)
      ∙ ap (λ s. form_value f xs *ℤ (g.constant +ℤ s)) (constant-total g cg js (distinct xs))
      ∙ sym (form_times f.constant g.constant (total f.coefficient (distinct xs)))
      ∙ ap (λ s. (f.constant *ℤ g.constant) +ℤ s) (sym (total-by g.constant f.coefficient (distinct xs)))
  product-case t a b f g false false cf cg is js e va vb xs w = valued-single t xs w

  abbrev Good : Term → Type 0
  Good t = Valued t (form t)

  abbrev good_part : (t : Term) × Good t → Term
  good_part e = e.0

  good_layer : (t : Term) (l : Term-F ((u : Term) × Good u)) → value n t ≡ value_here n (map-Term ((u : Term) × Good u) ℤ (λ e. value n e.0) l)
      → Valued t (layer_form t (map-Term ((u : Term) × Good u) Form (λ e. form e.0) l))
  good_layer t (Num z) is = λ xs w. is ∙ sym (ap (λ s. z +ℤ s) (total-zero (distinct xs)) ∙ plus_zero z)
  good_layer t (Var k) is = valued-single t
  good_layer t (Own k) is = valued-single t
  good_layer t (At p) is = valued-single t
  good_layer t (Add a b) is = λ xs w.
      is ∙ (λ j. a.1 xs (within-first (form a.0) (form b.0) (λ x y. x +ℤ y) xs w) j +ℤ b.1 xs (within-second (form a.0) (form b.0) (λ x y. x +ℤ y) xs w) j)
      ∙ sym (ap (λ s. ((form a.0).constant +ℤ (form b.0).constant) +ℤ s) (total-sum (form a.0).coefficient (form b.0).coefficient (distinct xs))
      ∙ add_forms (form a.0).constant (form b.0).constant (total (form a.0).coefficient (distinct xs)) (total (form b.0).coefficient (distinct xs)))
  good_layer t (Sub a b) is = λ xs w.
      is ∙ (λ j. a.1 xs (within-first (form a.0) (form b.0) (λ x y. x -ℤ y) xs w) j -ℤ b.1 xs (within-second (form a.0) (form b.0) (λ x y. x -ℤ y) xs w) j)
      ∙ sym (ap (λ s. ((form a.0).constant -ℤ (form b.0).constant) +ℤ s) (total-difference (form a.0).coefficient (form b.0).coefficient (distinct xs))
      ∙ subtract_forms (form a.0).constant (form b.0).constant (total (form a.0).coefficient (distinct xs)) (total (form b.0).coefficient (distinct xs)))
  good_layer t (Mul a b) is = product-case t (value n a.0) (value n b.0) (form a.0) (form b.0) (is_constant (form a.0)) (is_constant (form b.0)) (form-covers a.0) (form-covers b.0) refl refl is a.1 b.1
  good_layer t (One op a) is = valued-single t
  good_layer t (Two op a b) is = valued-single t
  good_layer t (Low k a) is = valued-single t
  good_layer t (Sext k q a) is = valued-single t
  good_layer t (Sgn k a) is = valued-single t

  pub form-value : (t : Term) → Valued t (form t)
  form-value = induct Good (λ l.
      subst (Valued (roll-Term (map-Term _ _ good_part l))) (sym (form-roll (map-Term _ _ good_part l) ∙ ap (layer_form (roll-Term (map-Term _ _ good_part l))) (map_map good_part form l)))
      (good_layer (roll-Term (map-Term _ _ good_part l)) l (fold-roll-Term ℤ (value_here n) (map-Term _ _ good_part l) ∙ ap (value_here n) (map_map good_part (value n) l))))

  -- ---- normal forms

  parts-total : (k : Term → ℤ) (xs : List Term) → parts_value n (with_coefficients k xs) ≡ total k xs
  parts-total k [] = refl
  parts-total k (x ∷ xs) = ap (λ s. (k x *ℤ value n x) +ℤ s) (parts-total k xs)

  nonzero-step : (p : Term × ℤ) (ps : List (Term × ℤ)) (b : Bool) (s : ℤ) → int_eq p.1 (pos 0) ≡ b → parts_value n ps ≡ s → parts_value n (if not b then p ∷ ps else ps) ≡ ((p.1 *ℤ value n p.0) +ℤ s)
  nonzero-step p ps false s e ih = ap (λ s. (p.1 *ℤ value n p.0) +ℤ s) ih
  nonzero-step p ps true s e ih = ih ∙ sym (ap (λ c. (c *ℤ value n p.0) +ℤ s) ((Decides-int_eq p.1 (pos 0)).0 e) ∙ skip_zero (value n p.0) s)

  nonzero-value : (ps : List (Term × ℤ)) → parts_value n (nonzero ps) ≡ parts_value n ps
  nonzero-value [] = refl
  nonzero-value (p ∷ ps) = nonzero-step p (nonzero ps) (int_eq p.1 (pos 0)) (parts_value n ps) refl (nonzero-value ps)

  finished-value : (t : Term) → normal_value n (finished ((form t).constant, parts_of (form t))) ≡ value n t
  finished-value t =
      ap (λ s. (form t).constant +ℤ s) (nonzero-value (parts_of (form t)) ∙ parts-total (form t).coefficient (distinct (form t).atoms))
      ∙ sym (form-value t (form t).atoms (λ x e. e))

  same_some : (f g : Normal) → Some f ≡ Some g → f ≡ g
  same_some f g e = cc

  pub normal-value : (t : Term) (f : Normal) → normal_form t ≡ Some f → normal_value n f ≡ value n t
  unfolding normal_form
  normal-value t f e = at (list_all (λ u. fits (form u)) (on_the_way t)) e
    where
      at : (b : Bool) → (if b then Some (finished ((form t).constant, parts_of (form t))) else None) ≡ Some f → normal_value n f ≡ value n t
      at true e = ap (normal_value n) (sym (same_some _ _ e)) ∙ finished-value t
      at false e = cc

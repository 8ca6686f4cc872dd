-- Parts that tell the coefficients of a form.
use Rattle.std.proofs.Common.{◌≡◌, ℤ, pos, Bool, true, false, ◌&&◌, ◌||◌, List, [], ◌∷◌, Some, None, refl, sym, ap, subst, ◌∙◌, true≢false}
use Rattle.std.specs.Prelude.{if◌then◌else◌}
use Rattle.std.specs.List.{list_all}
use Rattle.std.specs.Ordering.{int_eq}
use Rattle.std.proofs.lemmas.Option.{same_Some}
use Rattle.std.proofs.lemmas.Bool.Decides.{Decides-int_eq}
use Rattle.term_trees.specs.declared.term.Term.{Term}
use Rattle.term_trees.specs.Same.{same}
use Rattle.term_trees.specs.Normal.{Form, form, on_the_way, fits, distinct, parts_of}
use Rattle.term_trees.specs.Linear.{Parts, coefficient_in, occurs_in, linear_parts}
use Rattle.term_trees.proofs.AtomLists.{among, among-distinct, with_coefficients, occurs_in-with}
use Rattle.term_trees.proofs.LinearForms.{Covers, form-covers}
use Rattle.term_trees.proofs.Sameness.{same-exact}
use Rattle.term_trees.proofs.Truths.{both, and_true}
use Rattle.equality_rules.specs.words.Sums.{agrees}

-- ---- tests

pub iff_same : (a b : Bool) → (a ≡ true → b ≡ true) → (b ≡ true → a ≡ true) → a ≡ b
iff_same true b f g = sym (f refl)
iff_same false true f g = g refl
iff_same false false f g = refl

neither : (a b : Bool) → (a || b) ≡ false → (a ≡ false) × (b ≡ false)
neither false b e = (refl, e)
neither true b e = (e, cc)

neither_is : (a b : Bool) → a ≡ false → b ≡ false → (a || b) ≡ false
neither_is false b e f = f
neither_is true b e f = e

-- ---- parts of a coefficient k

-- each part has the coefficient of its term
abbrev pub Told : (Term → ℤ) → List (Term × ℤ) → Type 0
Told k [] = Unit {0}
Told k (p ∷ ps) = (p.1 ≡ k p.0) × Told k ps

-- the parts tell the whole of the form: a term that has no part has the coefficient 0
pub record Represents (F : Form) (s : Parts) : Type 0 where
  pub constant : s.0 ≡ F.constant
  pub told : Told F.coefficient s.1
  pub missing : (x : Term) → occurs_in s.1 x ≡ false → F.coefficient x ≡ pos 0

module _ (k : Term → ℤ) where
  coefficient_told : (ps : List (Term × ℤ)) (x : Term) → Told k ps → (occurs_in ps x ≡ false → k x ≡ pos 0) → coefficient_in ps x ≡ k x
  coefficient_told [] x told missing = sym (missing refl)
  coefficient_told (p ∷ ps) x told missing = by (same p.0 x) refl (coefficient_told ps x told.1)
    where
      by : (b : Bool) → same p.0 x ≡ b → ((occurs_in ps x ≡ false → k x ≡ pos 0) → coefficient_in ps x ≡ k x) → (if b then p.1 else coefficient_in ps x) ≡ k x
      by true e rest = told.0 ∙ ap k (same-exact p.0 x e)
      by false e rest = rest (λ o. missing (neither_is (same p.0 x) (occurs_in ps x) e o))

  passed_among : (test : ℤ → Bool) (xs : List Term) (x : Term) → list_all (λ y. test (k y)) xs ≡ true → among xs x ≡ true → test (k x) ≡ true
  passed_among test [] x all e = absurd (true≢false (sym e))
  passed_among test (y ∷ ys) x all e = by (same y x) refl e (passed_among test ys x (both (test (k y)) _ all).1)
    where
      by : (b : Bool) → same y x ≡ b → (b || among ys x) ≡ true → (among ys x ≡ true → test (k x) ≡ true) → test (k x) ≡ true
      by true is e rest = ap (λ z. test (k z)) (sym (same-exact y x is)) ∙ (both (test (k y)) _ all).0
      by false is e rest = rest e

all_of : (test : Term → Bool) (xs : List Term) → ((x : Term) → test x ≡ true) → list_all test xs ≡ true
all_of test [] each = refl
all_of test (x ∷ xs) each = and_true _ _ (each x) (all_of test xs each)

-- a test that 0 passes: each coefficient passes it where those of the atoms do
pub each_coefficient : (test : ℤ → Bool) → test (pos 0) ≡ true → (F : Form) → Covers F → list_all (λ x. test (F.coefficient x)) F.atoms ≡ true → (x : Term) → test (F.coefficient x) ≡ true
each_coefficient test zero F covers all x = by (among F.atoms x) refl
  where
    by : (b : Bool) → among F.atoms x ≡ b → test (F.coefficient x) ≡ true
    by true e = passed_among F.coefficient test F.atoms x all e
    by false e = ap test (covers x e) ∙ zero

pub atoms_pass : (test : ℤ → Bool) (F : Form) → ((x : Term) → test (F.coefficient x) ≡ true) → list_all (λ x. test (F.coefficient x)) F.atoms ≡ true
atoms_pass test F each = all_of (λ x. test (F.coefficient x)) F.atoms each

module _ (F : Form) (s : Parts) (r : Represents F s) where
  pub coefficient_is : (x : Term) → coefficient_in s.1 x ≡ F.coefficient x
  coefficient_is x = coefficient_told F.coefficient s.1 x r.told (r.missing x)

-- ---- the parts of a term's form

told_with : (k : Term → ℤ) (xs : List Term) → Told k (with_coefficients k xs)
told_with k [] = tt
told_with k (x ∷ xs) = (refl, told_with k xs)

pub parts_represent : (t : Term) (g : Parts) → linear_parts t ≡ Some g → Represents (form t) g
unfolding linear_parts
parts_represent t g e = at (list_all (λ u. fits (form u)) (on_the_way t)) e
  where
    whole : Parts
    whole = ((form t).constant, parts_of (form t))

    told : Represents (form t) whole
    told = record {
      constant = refl;
      told = told_with (form t).coefficient (distinct (form t).atoms);
      missing = λ x o. form-covers t x (sym (occurs_in-with (form t).coefficient (distinct (form t).atoms) x ∙ among-distinct (form t).atoms x) ∙ o);
    }

    at : (b : Bool) → (if b then Some whole else None) ≡ Some g → Represents (form t) g
    at true e = subst (Represents (form t)) (same_Some whole g e) told
    at false e = cc

-- ---- forms with the same coefficients

module _ (F G : Form) (s g : Parts) (rs : Represents F s) (rg : Represents G g) where
  agreed : (ps : List (Term × ℤ)) (qs : List (Term × ℤ)) (k h : Term → ℤ) → Told k ps → ((x : Term) → coefficient_in qs x ≡ h x) → agrees ps qs ≡ true → (x : Term) → occurs_in ps x ≡ true → k x ≡ h x
  agreed [] qs k h told is all x e = absurd (true≢false (sym e))
  agreed (p ∷ ps) qs k h told is all x e = by (same p.0 x) refl e (agreed ps qs k h told.1 is (both (int_eq p.1 (coefficient_in qs p.0)) _ all).1 x)
    where
      by : (b : Bool) → same p.0 x ≡ b → (b || occurs_in ps x) ≡ true → (occurs_in ps x ≡ true → k x ≡ h x) → k x ≡ h x
      by true the e rest =
          let here = (both (int_eq p.1 (coefficient_in qs p.0)) _ all).0 in
          subst (λ z. k z ≡ h z) (same-exact p.0 x the) (sym told.0 ∙ (Decides-int_eq p.1 (coefficient_in qs p.0)).0 here ∙ is p.0)
      by false the e rest = rest e

  agreeing : (ps : List (Term × ℤ)) (qs : List (Term × ℤ)) (k h : Term → ℤ) → Told k ps → ((x : Term) → coefficient_in qs x ≡ h x) → ((x : Term) → k x ≡ h x) → agrees ps qs ≡ true
  agreeing [] qs k h told is same = refl
  agreeing (p ∷ ps) qs k h told is same =
      and_true _ _ ((Decides-int_eq p.1 (coefficient_in qs p.0)).1 (told.0 ∙ same p.0 ∙ sym (is p.0))) (agreeing ps qs k h told.1 is same)

  pub same_coefficients : (agrees s.1 g.1 && agrees g.1 s.1) ≡ true → (x : Term) → F.coefficient x ≡ G.coefficient x
  same_coefficients all x = by (occurs_in s.1 x) (occurs_in g.1 x) refl refl
    where
      parts : (agrees s.1 g.1 ≡ true) × (agrees g.1 s.1 ≡ true)
      parts = both (agrees s.1 g.1) (agrees g.1 s.1) all

      by : (b c : Bool) → occurs_in s.1 x ≡ b → occurs_in g.1 x ≡ c → F.coefficient x ≡ G.coefficient x
      by true c o p = agreed s.1 g.1 F.coefficient G.coefficient rs.told (coefficient_is G g rg) parts.0 x o
      by false true o p = sym (agreed g.1 s.1 G.coefficient F.coefficient rg.told (coefficient_is F s rs) parts.1 x p)
      by false false o p = rs.missing x o ∙ sym (rg.missing x p)

  pub coefficients_agree : ((x : Term) → F.coefficient x ≡ G.coefficient x) → (agrees s.1 g.1 && agrees g.1 s.1) ≡ true
  coefficients_agree same = and_true _ _
      (agreeing s.1 g.1 F.coefficient G.coefficient rs.told (coefficient_is G g rg) same)
      (agreeing g.1 s.1 G.coefficient F.coefficient rg.told (coefficient_is F s rs) (λ x. sym (same x)))

-- The linear forms of sums of terms, and what the code computes of them.
use Rattle.std.proofs.Common.{◌≡◌, ℤ, pos, ◌-ℤ◌, Bool, true, false, not, ◌&&◌, ◌||◌, List, [], ◌∷◌, Option, Some, None, refl, sym, ap, subst, ◌∙◌, arith, true≢false}
use Rattle.std.specs.Prelude.{int_le, if◌then◌else◌}
use Rattle.std.specs.List.{list_all}
use Rattle.std.specs.Option.{option_map, option_and_then}
use Rattle.std.specs.Ordering.{int_eq}
use Rattle.std.proofs.lemmas.Int.{ints}
use Rattle.std.proofs.lemmas.Bool.Decides.{Decides-int_eq}
use Rattle.term_trees.specs.declared.term.Term.{Term}
use Rattle.term_trees.specs.declared.term.Term.TheOpen.{Sub}
use Rattle.term_trees.specs.declared.term.Term.TheVariants as term
use Rattle.term_trees.specs.declared.term.Formula.{Formula}
use Rattle.term_trees.specs.declared.linear.Way.TheVariants.{Sum, Difference, Times}
use Rattle.term_trees.specs.Ground.{both}
use Rattle.term_trees.specs.Normal.{Form, combined, is_constant, form, on_the_way, is_low, fits, parts_of}
use Rattle.term_trees.specs.Same.{passes}
use Rattle.term_trees.specs.Linear.{Parts, limited, joined, joined_product, linear_parts}
use Rattle.term_trees.proofs.LinearForms.{form-roll, Covers, form-covers, linear-num, linear-add, linear-sub, linear-mul}
use Rattle.equality_rules.specs.Equality.{together}
use Rattle.equality_rules.specs.Linear.{concluded_term, is_equation, weighed_term, weighted, sum_after, weighted_sum, is_bounded, is_remainder, is_sum, is_linear}
use Rattle.equality_rules.specs.words.Sums.{concluded_form, scaled, total_after, agrees, remains}
use Rattle.equality_rules.proofs.Coefficients.{iff_same, Represents, each_coefficient, atoms_pass, parts_represent, same_coefficients, coefficients_agree}

-- ---- bounds

abbrev parts_form : Term → Parts
parts_form t = ((form t).constant, parts_of (form t))

abbrev fit_along : List Term → Bool
fit_along ts = list_all (λ u. fits (form u)) ts

bounded-some : (t : Term) (g : Parts) → linear_parts t ≡ Some g → is_bounded t ≡ true
unfolding linear_parts is_bounded
bounded-some t g e = at (fit_along (on_the_way t)) e
  where
    at : (b : Bool) → (if b then Some (parts_form t) else None) ≡ Some g → b ≡ true
    at true e = refl
    at false e = cc

bounded-none : (t : Term) → linear_parts t ≡ None → is_bounded t ≡ false
unfolding linear_parts is_bounded
bounded-none t e = at (fit_along (on_the_way t)) e
  where
    at : (b : Bool) → (if b then Some (parts_form t) else None) ≡ None → b ≡ false
    at true e = cc
    at false e = refl

-- ---- the form of a difference

-- what the code shows of a difference
pub difference_form : (a b : Term) (f g : Parts) → Some f ≡ linear_parts a → Some g ≡ linear_parts b → joined Difference f g ≡ linear_parts (term.Sub a b)
difference_form a b f g first second =
    (λ j. option_and_then (λ q. joined Difference q.0 q.1) (both (first j) (second j))) ∙ sym (linear-sub a b)

-- ---- the form of a sum

sum_none : (s t : Term) → linear_parts s ≡ None → linear_parts (term.Add s t) ≡ None
sum_none s t e = linear-add s t ∙ ap (λ o. option_and_then (λ q. joined Sum q.0 q.1) (both o (linear_parts t))) e

-- a sum that goes on from a term without a form has none
lost : (ps : List (ℤ × Term)) (s : Term) → linear_parts s ≡ None → linear_parts (sum_after s ps) ≡ None
lost [] s e = e
lost (p ∷ ps) s e = lost ps (term.Add s (term.Mul (term.Num p.0) p.1)) (sum_none s (term.Mul (term.Num p.0) p.1) e)

abbrev number_parts : ℤ → Option Parts
number_parts k = option_map (λ c. (c, [])) (limited k)

-- a number times a term
product_form : (k : ℤ) (t : Term) → linear_parts (term.Mul (term.Num k) t) ≡ option_and_then (λ g. scaled k g) (linear_parts t)
product_form k t =
    linear-mul (term.Num k) t
    ∙ ap (λ o. option_and_then (λ q. joined_product (term.Mul (term.Num k) t) q.0 q.1) (both o (linear_parts t))) (linear-num k)
    ∙ at (is_low k) (linear_parts t)
  where
    at : (b : Bool) (o : Option Parts) → option_and_then (λ q. joined_product (term.Mul (term.Num k) t) q.0 q.1) (both (option_map (λ c. (c, [])) (if b then Some k else None)) o)
        ≡ option_and_then (λ g. option_and_then (λ n. joined (Times k) n g) (option_map (λ c. (c, [])) (if b then Some k else None))) o
    at true (Some g) = refl
    at true None = refl
    at false (Some g) = refl
    at false None = refl

-- one premise more
step_form : (s : Term) (p : Parts) (k : ℤ) (t : Term) → linear_parts s ≡ Some p
    → option_and_then (λ g. option_and_then (λ q. joined Sum p q) (scaled k g)) (linear_parts t) ≡ linear_parts (term.Add s (term.Mul (term.Num k) t))
step_form s p k t e =
    at (linear_parts t)
    ∙ sym (ap (λ o. option_and_then (λ q. joined Sum q.0 q.1) (both (Some p) o)) (product_form k t))
    ∙ sym (ap (λ o. option_and_then (λ q. joined Sum q.0 q.1) (both o (linear_parts (term.Mul (term.Num k) t)))) e)
    ∙ sym (linear-add s (term.Mul (term.Num k) t))
  where
    after : (o : Option Parts) → option_and_then (λ q. joined Sum p q) o ≡ option_and_then (λ q. joined Sum q.0 q.1) (both (Some p) o)
    after (Some q) = refl
    after None = refl

    at : (o : Option Parts) → option_and_then (λ g. option_and_then (λ q. joined Sum p q) (scaled k g)) o ≡ option_and_then (λ q. joined Sum q.0 q.1) (both (Some p) (option_and_then (λ g. scaled k g) o))
    at (Some g) = after (scaled k g)
    at None = refl

-- the form of a sum of premises that goes on from a term
abbrev summed : Term → List Formula → List ℤ → Option Parts
summed s fs ks = option_and_then (λ ps. linear_parts (sum_after s ps)) (weighted fs ks)

none_of : {X Y : Type 0} (o : Option X) (f : X → Option Y) → ((x : X) → f x ≡ None) → None ≡ option_and_then f o
none_of (Some x) f e = sym (e x)
none_of None f e = refl

mapped : {X Y Z : Type 0} (o : Option X) (m : X → Y) (f : Y → Option Z) → option_and_then (λ x. f (m x)) o ≡ option_and_then f (option_map m o)
mapped (Some x) m f = refl
mapped None m f = refl

pub total_is : (fs : List Formula) (ks : List ℤ) (s : Term) (p : Parts) → linear_parts s ≡ Some p → total_after p fs ks ≡ summed s fs ks
total_is [] [] s p e = sym e
total_is [] (k ∷ ks) s p e = refl
total_is (f ∷ fs) [] s p e = refl
total_is (f ∷ fs) (k ∷ ks) s p e = by (weighed_term f k) (total_is fs ks)
  where
    by : (o : Option Term) → ((s : Term) (p : Parts) → linear_parts s ≡ Some p → total_after p fs ks ≡ summed s fs ks)
        → option_and_then (λ t. total_after t fs ks) (option_and_then (λ g. option_and_then (λ q. joined Sum p q) (scaled k g)) (option_and_then linear_parts o))
        ≡ option_and_then (λ ps. linear_parts (sum_after s ps)) (option_and_then (λ t. option_map (λ ps. (k, t) ∷ ps) (weighted fs ks)) o)
    by None rest = refl
    by (Some t) rest =
        ap (λ o. option_and_then (λ t. total_after t fs ks) o) (step_form s p k t e)
        ∙ go (linear_parts n) refl
        ∙ mapped (weighted fs ks) (λ ps. (k, t) ∷ ps) (λ ps. linear_parts (sum_after s ps))
      where
        n : Term
        n = term.Add s (term.Mul (term.Num k) t)

        go : (o : Option Parts) → linear_parts n ≡ o → option_and_then (λ t. total_after t fs ks) o ≡ summed n fs ks
        go (Some q) is = rest n q is
        go None is = none_of (weighted fs ks) (λ ps. linear_parts (sum_after n ps)) (λ ps. lost ps n is)

zero_form : linear_parts (term.Num (pos 0)) ≡ Some (pos 0, [])
zero_form = linear-num (pos 0)

-- ---- what remains

form-sub : (a b : Term) → form (term.Sub a b) ≡ combined (λ x y. x -ℤ y) (form a) (form b)
form-sub a b = ap form (sym (term.rolls-Sub a b)) ∙ form-roll (Sub a b)

equal_difference : (a b : ℤ) → int_eq (a -ℤ b) (pos 0) ≡ int_eq a b
equal_difference a b = iff_same _ _
    (λ h. (Decides-int_eq a b).1 (from_zero ((Decides-int_eq (a -ℤ b) (pos 0)).0 h)))
    (λ h. (Decides-int_eq (a -ℤ b) (pos 0)).1 (to_zero ((Decides-int_eq a b).0 h)))
  where
    from_zero : a -ℤ b ≡ pos 0 → a ≡ b
    from_zero e = omega (arith, ints)

    to_zero : a ≡ b → a -ℤ b ≡ pos 0
    to_zero e = omega (arith, ints)

ordered_difference : (a b : ℤ) → int_le (pos 0) (a -ℤ b) ≡ int_le b a
ordered_difference a b = iff_same _ _ (from a b) (to a b)
  where
    from : (a b : ℤ) → int_le (pos 0) (a -ℤ b) ≡ true → int_le b a ≡ true
    from a b h = grind (arith, ints)

    to : (a b : ℤ) → int_le b a ≡ true → int_le (pos 0) (a -ℤ b) ≡ true
    to a b h = grind (arith, ints)

module _ (t s : Term) (g p : Parts) (rt : Represents (form t) g) (rs : Represents (form s) p) where
  abbrev left : Form
  left = combined (λ x y. x -ℤ y) (form t) (form s)

  covers : Covers left
  covers = subst Covers (form-sub t s) (form-covers (term.Sub t s))

  difference_zero : (x : Term) → int_eq ((form t).coefficient x -ℤ (form s).coefficient x) (pos 0) ≡ int_eq ((form t).coefficient x) ((form s).coefficient x)
  difference_zero x = equal_difference ((form t).coefficient x) ((form s).coefficient x)

  constant_is : is_constant left ≡ (agrees g.1 p.1 && agrees p.1 g.1)
  constant_is = iff_same _ _
      (λ all. coefficients_agree (form t) (form s) g p rt rs (λ x.
      (Decides-int_eq ((form t).coefficient x) ((form s).coefficient x)).0 (sym (difference_zero x) ∙ each_coefficient (λ z. int_eq z (pos 0)) refl left covers all x)))
      (λ all. atoms_pass (λ z. int_eq z (pos 0)) left (λ x.
      difference_zero x ∙ (Decides-int_eq ((form t).coefficient x) ((form s).coefficient x)).1 (same_coefficients (form t) (form s) g p rt rs all x)))

  constants : (none : Bool) → (if none then int_eq left.constant (pos 0) else int_le (pos 0) left.constant) ≡ (if none then int_eq g.0 p.0 else int_le p.0 g.0)
  constants true = equal_difference (form t).constant (form s).constant ∙ sym (λ j. int_eq (rt.constant j) (rs.constant j))
  constants false = ordered_difference (form t).constant (form s).constant ∙ sym (λ j. int_le (rs.constant j) (rt.constant j))

  remains_is : (none : Bool) → remains none g p ≡ is_remainder none (form (term.Sub t s))
  remains_is none = sym (ap (is_remainder none) (form-sub t s) ∙ (λ j. constant_is j && constants none j))

-- ---- what the code shows of a sum

sum_settled : (none : Bool) (t s : Term) (g p : Parts) → linear_parts t ≡ Some g → linear_parts s ≡ Some p
    → remains none g p ≡ ((is_bounded t && is_bounded s) && is_remainder none (form (term.Sub t s)))
sum_settled none t s g p e f =
    remains_is t s g p (parts_represent t g e) (parts_represent s p f) none
    ∙ sym (λ j. (bounded-some t g e j && bounded-some s p f j) && is_remainder none (form (term.Sub t s)))

module _ (fs : List Formula) (ks : List ℤ) (c : Formula) where
  abbrev kinds : Bool
  kinds = not (is_equation c) || list_all is_equation fs

  abbrev Rule : Option Term → Option (List (ℤ × Term)) → Bool
  Rule o m = passes (together o m) (λ p. kinds && is_sum (is_equation c) p.0 p.1)

  no_sum : (b d e : Bool) → d ≡ false → (b && (d && e)) ≡ false
  no_sum true true e is = absurd (true≢false is)
  no_sum true false e is = refl
  no_sum false d e is = refl

  pub linear-unformed : concluded_form c ≡ None → false ≡ is_linear fs ks c
  linear-unformed e = sym (at (concluded_term c) (weighted fs ks) e)
    where
      at : (o : Option Term) (m : Option (List (ℤ × Term))) → option_and_then linear_parts o ≡ None → Rule o m ≡ false
      at None m e = refl
      at (Some t) None e = refl
      at (Some t) (Some ps) e =
          no_sum kinds (is_bounded t && is_bounded (weighted_sum ps)) _ (ap (λ b. b && is_bounded (weighted_sum ps)) (bounded-none t e))

  pub linear-high : total_after (pos 0, []) fs ks ≡ None → false ≡ is_linear fs ks c
  linear-high e = sym (at (concluded_term c) (weighted fs ks) (sym (total_is fs ks (term.Num (pos 0)) (pos 0, []) zero_form) ∙ e))
    where
      and_none : (a b : Bool) → b ≡ false → (a && b) ≡ false
      and_none true b e = e
      and_none false b e = refl

      at : (o : Option Term) (m : Option (List (ℤ × Term))) → option_and_then (λ ps. linear_parts (weighted_sum ps)) m ≡ None → Rule o m ≡ false
      at None m e = refl
      at (Some t) None e = refl
      at (Some t) (Some ps) e =
          no_sum kinds (is_bounded t && is_bounded (weighted_sum ps)) _ (and_none (is_bounded t) (is_bounded (weighted_sum ps)) (bounded-none (weighted_sum ps) e))

  pub linear-settled : (g p : Parts) → kinds ≡ true → concluded_form c ≡ Some g → total_after (pos 0, []) fs ks ≡ Some p → remains (is_equation c) g p ≡ is_linear fs ks c
  linear-settled g p fit e f = at (concluded_term c) (weighted fs ks) e (sym (total_is fs ks (term.Num (pos 0)) (pos 0, []) zero_form) ∙ f)
    where
      at : (o : Option Term) (m : Option (List (ℤ × Term))) → option_and_then linear_parts o ≡ Some g → option_and_then (λ ps. linear_parts (weighted_sum ps)) m ≡ Some p
          → remains (is_equation c) g p ≡ Rule o m
      at None m e f = cc
      at (Some t) None e f = cc
      at (Some t) (Some ps) e f =
          sum_settled (is_equation c) t (weighted_sum ps) g p e f
          ∙ sym (ap (λ b. b && is_sum (is_equation c) t ps) fit)

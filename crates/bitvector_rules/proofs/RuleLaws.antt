-- Each rule keeps truth, in the order of the rules.
use Rattle.std.proofs.Common.{◌≡◌, ℕ, zero, suc, Bool, true, false, not, ◌&&◌, ◌||◌, if◌then◌else◌, IsTrue, List, [], ◌∷◌, slice_get, Option, Some, None, refl, sym, subst, ◌∙◌, true≢false}
use Rattle.std.specs.Prelude.{IfSome}
use Rattle.std.specs.Option.{option_map, option_and_then}
use Rattle.std.proofs.lemmas.Option.{same_Some}
use Rattle.std.proofs.lemmas.List.Elements.{All-nil, All-head, All-tail, All-cons}
use Rattle.term_trees.specs.declared.term.Formula.{Formula}
use Rattle.term_trees.specs.declared.term.Formula.TheVariants as formula
use Rattle.term_trees.specs.Ground.{both}
use Rattle.term_trees.specs.Meaning.{Numbers, holds}
use Rattle.term_trees.specs.Same.{passes, same_formula}
use Rattle.term_trees.specs.Views.{is_false, not_of, and_of, or_of, imp_of}
use Rattle.term_trees.proofs.Truths.{and_true}
use Rattle.term_trees.proofs.Truths.{both as both_true}
use Rattle.equality_rules.proofs.EqualityLaws.{sound_refl, sound_eval, sound_floor, sound_ceil, sound_order, sound_notle, sound_notlt, sound_mulpos}
use Rattle.equality_rules.proofs.LinearLaws.{sound_linear}
use Rattle.equality_rules.proofs.RewriteLaws.{sound_rewrite}
use Rattle.bitvector_rules.specs.declared.step.Rule.{Rule}
use Rattle.bitvector_rules.specs.declared.step.Rule.TheVariants.{Hyp, True, And, Left, Right, Orl, Orr, Cases, Assume, Apply, Contra, Refute, Clash, Explode, Refl, Rewrite, Eval, Floor, Ceil, Order, Notle, Notlt, Mulpos}
use Rattle.bitvector_rules.specs.declared.step.Ref.{Ref}
use Rattle.bitvector_rules.specs.declared.step.Ref.TheVariants as ref
use Rattle.bitvector_rules.specs.declared.step.Step.{Step, out-Step}
use Rattle.bitvector_rules.specs.Facts.{is_empty, fact_at, one_premise, two_premises, premises}
use Rattle.bitvector_rules.specs.Goals.{Goals, when, fits_equality, further_goals, rule_goals, takes_numbers, fits_linear}
use Rattle.integer_rules.specs.declared.rule.IntegerRule.{IntegerRule}
use Rattle.bitvector_rules.specs.Machine.{machine_rule}
use Rattle.integer_rules.specs.Fits.{fits}
use Rattle.integer_rules.proofs.FitLaws.{keeps}
use Rattle.bitvector_rules.specs.Truth.{Holds, AllHold, AllMet, PremisesHold, StepIsSound}
use Rattle.bitvector_rules.proofs.FormLemmas.{passed, holds-true, holds-false, holds-not, holds-and, holds-or, holds-imp, false_fails, denied_holds, same_holds, same_held}

-- ---- tests

either : (a b : Bool) (Q : Type 0) → (a || b) ≡ true → (a ≡ true → Q) → (b ≡ true → Q) → Q
either true b Q h left right = left refl
either false b Q h left right = right h

or_left : (a b : Bool) → a ≡ true → (a || b) ≡ true
or_left true b h = refl
or_left false b h = cc

or_right : (a b : Bool) → b ≡ true → (a || b) ≡ true
or_right true b h = refl
or_right false b h = h

leads_to : (a b : Bool) → (not a || b) ≡ true → a ≡ true → b ≡ true
leads_to true b h e = h
leads_to false b h e = cc

leads : (a b : Bool) → (a ≡ true → b ≡ true) → (not a || b) ≡ true
leads true b h = h refl
leads false b h = refl

denies : (a : Bool) → (a ≡ true → ⊥) → not a ≡ true
denies true h = absurd (h refl)
denies false h = refl

clashes : (a : Bool) → a ≡ true → not a ≡ true → ⊥
clashes true e h = true≢false (sym h)
clashes false e h = true≢false (sym e)

-- a step without goals passed its test
tested : (b : Bool) (gs : List (Formula × Formula)) → when b ≡ Some gs → b ≡ true
tested true gs e = refl
tested false gs e = cc

if_some : (b : Bool) (o : Goals) (gs : List (Formula × Formula)) → (if b then o else None) ≡ Some gs → o ≡ Some gs
if_some true o gs e = e
if_some false o gs e = cc

module _ (n : Numbers) (hyps earlier : List Formula) where
  -- ---- premises

  abbrev Given : Ref → Type 0
  Given r = IfSome (fact_at hyps earlier r) (Holds n)

  named : (r : Ref) (f : Formula) → fact_at hyps earlier r ≡ Some f → Given r → Holds n f
  named r f e h = subst (λ o. IfSome o (Holds n)) e h

  one_holds : (refs : List Ref) → PremisesHold n hyps earlier refs → (f : Formula) → one_premise hyps earlier refs ≡ Some f → Holds n f
  one_holds [] given f e = cc
  one_holds (r ∷ []) given f e = named r f e (All-head Given r [] given)
  one_holds (r ∷ (q ∷ rs)) given f e = cc

  both_hold : (o p : Option Formula) (q : Formula × Formula) → both o p ≡ Some q → ((f : Formula) → o ≡ Some f → Holds n f) → ((f : Formula) → p ≡ Some f → Holds n f) → Holds n q.0 × Holds n q.1
  both_hold (Some f) (Some g) q e first second = let same = same_Some (f, g) q e in (subst (λ p. Holds n p.0) same (first f refl), subst (λ p. Holds n p.1) same (second g refl))
  both_hold (Some f) None q e first second = cc
  both_hold None p q e first second = cc

  two_hold : (refs : List Ref) → PremisesHold n hyps earlier refs → (q : Formula × Formula) → two_premises hyps earlier refs ≡ Some q → Holds n q.0 × Holds n q.1
  two_hold [] given q e = cc
  two_hold (r ∷ []) given q e = cc
  two_hold (r ∷ (s ∷ [])) given q e =
      both_hold (fact_at hyps earlier r) (fact_at hyps earlier s) q e
      (λ f is. named r f is (All-head Given r (s ∷ []) given)) (λ f is. named s f is (All-head Given s [] (All-tail Given r (s ∷ []) given)))
  two_hold (r ∷ (s ∷ (t ∷ rs))) given q e = cc

  joined : (o : Option Formula) (p : Option (List Formula)) (fs : List Formula) → ((f : Formula) → o ≡ Some f → Holds n f) → ((gs : List Formula) → p ≡ Some gs → AllHold n gs) → option_and_then (λ f. option_map (λ gs. f ∷ gs) p) o ≡ Some fs → AllHold n fs
  joined (Some f) (Some gs) fs first rest is = subst (AllHold n) (same_Some (f ∷ gs) fs is) (All-cons (Holds n) f gs (first f refl) (rest gs refl))
  joined (Some f) None fs first rest is = cc
  joined None p fs first rest is = cc

  all_hold : (refs : List Ref) → PremisesHold n hyps earlier refs → (fs : List Formula) → premises hyps earlier refs ≡ Some fs → AllHold n fs
  all_hold [] given fs is = subst (AllHold n) (same_Some [] fs is) (All-nil (Holds n))
  all_hold (r ∷ rs) given fs is =
      joined (fact_at hyps earlier r) (premises hyps earlier rs) fs (λ f found. named r f found (All-head Given r rs given)) (all_hold rs (All-tail Given r rs given)) is

  -- ---- the logical rules

  module _ (refs : List Ref) (given : PremisesHold n hyps earlier refs) (c : Formula) where
    by_one : (test : Formula → Bool) → IsTrue (passes (one_premise hyps earlier refs) test) → ((f : Formula) → Holds n f → IsTrue (test f) → Holds n c) → Holds n c
    by_one test h so = passed (one_premise hyps earlier refs) test (Holds n c) h (λ f is. so f (one_holds refs given f is))

    by_two : (test : Formula × Formula → Bool) → IsTrue (passes (two_premises hyps earlier refs) test) → ((p : Formula × Formula) → Holds n p.0 → Holds n p.1 → IsTrue (test p) → Holds n c) → Holds n c
    by_two test h so = passed (two_premises hyps earlier refs) test (Holds n c) h (λ p is. let hold = two_hold refs given p is in so p hold.0 hold.1)

    sound_hyp : IsTrue (passes (one_premise hyps earlier refs) (λ f. same_formula f c)) → Holds n c
    sound_hyp h = by_one _ h (λ f holds same. same_holds n f c same holds)

    sound_and : IsTrue (passes (two_premises hyps earlier refs) (λ p. passes (and_of c) (λ q. same_formula p.0 q.0 && same_formula p.1 q.1))) → Holds n c
    sound_and h = by_two _ h (λ p first second test. passed (and_of c) _ (Holds n c) test (λ q is same. let parts = both_true _ _ same in
        holds-and n c q is ∙ and_true _ _ (same_holds n p.0 q.0 parts.0 first) (same_holds n p.1 q.1 parts.1 second)))

    sound_left : IsTrue (passes (one_premise hyps earlier refs) (λ p. passes (and_of p) (λ q. same_formula q.0 c))) → Holds n c
    sound_left h = by_one _ h (λ p holds test. passed (and_of p) _ (Holds n c) test (λ q is same. same_holds n q.0 c same (both_true _ _ (sym (holds-and n p q is) ∙ holds)).0))

    sound_right : IsTrue (passes (one_premise hyps earlier refs) (λ p. passes (and_of p) (λ q. same_formula q.1 c))) → Holds n c
    sound_right h = by_one _ h (λ p holds test. passed (and_of p) _ (Holds n c) test (λ q is same. same_holds n q.1 c same (both_true _ _ (sym (holds-and n p q is) ∙ holds)).1))

    sound_orl : IsTrue (passes (one_premise hyps earlier refs) (λ f. passes (or_of c) (λ q. same_formula f q.0))) → Holds n c
    sound_orl h = by_one _ h (λ f holds test. passed (or_of c) _ (Holds n c) test (λ q is same. holds-or n c q is ∙ or_left _ _ (same_holds n f q.0 same holds)))

    sound_orr : IsTrue (passes (one_premise hyps earlier refs) (λ f. passes (or_of c) (λ q. same_formula f q.1))) → Holds n c
    sound_orr h = by_one _ h (λ f holds test. passed (or_of c) _ (Holds n c) test (λ q is same. holds-or n c q is ∙ or_right _ _ (same_holds n f q.1 same holds)))

    met : (gs : List (Formula × Formula)) (g : Formula × Formula) → Some (g ∷ []) ≡ Some gs → AllMet n gs → Holds n g.0 → Holds n g.1
    met gs g e all = All-head (λ g. Holds n g.0 → Holds n g.1) g [] (subst (AllMet n) (sym (same_Some (g ∷ []) gs e)) all)

    sound_cases : (o : Option Formula) → ((f : Formula) → o ≡ Some f → Holds n f) → (gs : List (Formula × Formula)) → option_map (λ q. (q.0, c) ∷ (q.1, c) ∷ []) (option_and_then or_of o) ≡ Some gs → AllMet n gs → Holds n c
    sound_cases None given gs e all = cc
    sound_cases (Some p) given gs e all = by (or_of p) refl e
      where
        by : (o : Option (Formula × Formula)) → or_of p ≡ o → option_map (λ q. (q.0, c) ∷ (q.1, c) ∷ []) o ≡ Some gs → Holds n c
        by None is e = cc
        by (Some q) is e =
            let goals = subst (AllMet n) (sym (same_Some ((q.0, c) ∷ ((q.1, c) ∷ [])) gs e)) all in
            let Met : Formula × Formula → Type 0 = λ g. Holds n g.0 → Holds n g.1 in
            let later = All-tail Met (q.0, c) ((q.1, c) ∷ []) goals in
            either (holds n q.0) (holds n q.1) (Holds n c) (sym (holds-or n p q is) ∙ given p refl) (All-head Met (q.0, c) ((q.1, c) ∷ []) goals) (All-head Met (q.1, c) [] later)

    sound_assume : (gs : List (Formula × Formula)) (o : Option (Formula × Formula)) → imp_of c ≡ o → option_map (λ q. (q.0, q.1) ∷ []) o ≡ Some gs → AllMet n gs → Holds n c
    sound_assume gs None is e all = cc
    sound_assume gs (Some q) is e all = holds-imp n c q is ∙ leads (holds n q.0) (holds n q.1) (met gs (q.0, q.1) e all)

    sound_apply : IsTrue (passes (two_premises hyps earlier refs) (λ p. passes (imp_of p.0) (λ q. same_formula q.0 p.1 && same_formula q.1 c))) → Holds n c
    sound_apply h = by_two _ h (λ p first second test. passed (imp_of p.0) _ (Holds n c) test (λ q is same. let parts = both_true _ _ same in
        same_holds n q.1 c parts.1 (leads_to (holds n q.0) (holds n q.1) (sym (holds-imp n p.0 q is) ∙ first) (same_held n q.0 p.1 parts.0 second))))

    sound_contra : (gs : List (Formula × Formula)) → Some ((formula.Not c, formula.False) ∷ []) ≡ Some gs → AllMet n gs → Holds n c
    sound_contra gs e all = by (holds n c) refl
      where
        by : (b : Bool) → holds n c ≡ b → Holds n c
        by true is = is
        by false is = absurd (false_fails n (met gs (formula.Not c, formula.False) e all (denied_holds n c is)))

    sound_refute : (gs : List (Formula × Formula)) (o : Option Formula) → not_of c ≡ o → option_map (λ f. (f, formula.False) ∷ []) o ≡ Some gs → AllMet n gs → Holds n c
    sound_refute gs None is e all = cc
    sound_refute gs (Some f) is e all = holds-not n c f is ∙ denies (holds n f) (λ h. false_fails n (met gs (f, formula.False) e all h))

    sound_clash : IsTrue (passes (two_premises hyps earlier refs) (λ p. passes (not_of p.1) (λ f. same_formula p.0 f))) → Holds n c
    sound_clash h = by_two _ h (λ p first second test. passed (not_of p.1) _ (Holds n c) test (λ f is same.
        absurd (clashes (holds n f) (same_holds n p.0 f same first) (sym (holds-not n p.1 f is) ∙ second))))

    sound_explode : IsTrue (passes (one_premise hyps earlier refs) (λ p. is_false p)) → Holds n c
    sound_explode h = by_one _ h (λ p holds test. absurd (true≢false (sym holds ∙ holds-false n p test)))

    sound_equality : (rule : Rule) → IsTrue (fits_equality hyps earlier refs c rule) → Holds n c
    sound_equality Refl h = sound_refl n c (both_true _ _ h).1
    sound_equality Rewrite h = by_two _ h (λ p first second test. sound_rewrite n p.0 p.1 c first second test)
    sound_equality Eval h = sound_eval n c (both_true _ _ h).1
    sound_equality Floor h = by_one _ h (λ p holds test. sound_floor n p c holds test)
    sound_equality Ceil h = by_one _ h (λ p holds test. sound_ceil n p c holds test)
    sound_equality Order h = sound_order n c (both_true _ _ h).1
    sound_equality Notle h = by_one _ h (λ p holds test. sound_notle n p c holds test)
    sound_equality Notlt h = by_one _ h (λ p holds test. sound_notlt n p c holds test)
    sound_equality Mulpos h = by_two _ h (λ p first second test. sound_mulpos n p.0 p.1 c first second test)
    sound_equality _ h = absurd (true≢false (sym h))

    sound_further : (rule : Rule) (o : Option IntegerRule) (gs : List (Formula × Formula)) → further_goals hyps earlier refs c rule o ≡ Some gs → Holds n c
    sound_further rule (Some r) gs e = passed (premises hyps earlier refs) (λ fs. fits r fs c) (Holds n c) (tested _ gs e) (λ fs is fit. keeps r n fs c fit (all_hold refs given fs is))
    sound_further rule None gs e = sound_equality rule (tested _ gs e)

    sound_rule : (rule : Rule) (gs : List (Formula × Formula)) → rule_goals hyps earlier refs c rule ≡ Some gs → AllMet n gs → Holds n c
    sound_rule Hyp gs e all = sound_hyp (tested _ gs e)
    sound_rule True gs e all = holds-true n c (both_true _ _ (tested _ gs e)).1
    sound_rule And gs e all = sound_and (tested _ gs e)
    sound_rule Left gs e all = sound_left (tested _ gs e)
    sound_rule Right gs e all = sound_right (tested _ gs e)
    sound_rule Orl gs e all = sound_orl (tested _ gs e)
    sound_rule Orr gs e all = sound_orr (tested _ gs e)
    sound_rule Cases gs e all = sound_cases (one_premise hyps earlier refs) (one_holds refs given) gs e all
    sound_rule Assume gs e all = sound_assume gs (imp_of c) refl (if_some (is_empty refs) _ gs e) all
    sound_rule Apply gs e all = sound_apply (tested _ gs e)
    sound_rule Contra gs e all = sound_contra gs (if_some (is_empty refs) _ gs e) all
    sound_rule Refute gs e all = sound_refute gs (not_of c) refl (if_some (is_empty refs) _ gs e) all
    sound_rule Clash gs e all = sound_clash (both_true _ _ (tested _ gs e)).0
    sound_rule Explode gs e all = sound_explode (tested _ gs e)
    sound_rule rule gs e all = sound_further rule (machine_rule rule) gs e

-- a step by `linear`, and any other
by_numbers : (a b : Bool) (g h : Goals) (gs : List (Formula × Formula)) (Q : Type 0) → (if a then g else if b then h else None) ≡ Some gs → (g ≡ Some gs → Q) → (h ≡ Some gs → Q) → Q
by_numbers true b g h gs Q e first second = first e
by_numbers false true g h gs Q e first second = second e
by_numbers false false g h gs Q e first second = cc

pub sound_step : (s : Step) → StepIsSound s
sound_step s n hyps earlier goals is given met =
    let l = out-Step s in
    by_numbers (takes_numbers l.rule) (is_empty l.numbers) (when (fits_linear hyps earlier l.refs l.numbers l.formula)) (rule_goals hyps earlier l.refs l.formula l.rule) goals (Holds n l.formula) is
    (λ e. passed (premises hyps earlier l.refs) _ (Holds n l.formula) (tested _ goals e) (λ fs found test. sound_linear n fs l.numbers l.formula (all_hold n hyps earlier l.refs given fs found) test))
    (λ e. sound_rule n hyps earlier l.refs given l.formula l.rule goals e met)

-- ---- premises among true facts

module _ (n : Numbers) where
  at_true : (fs : List Formula) (k : ℕ) → AllHold n fs → IfSome (slice_get fs k) (Holds n)
  at_true [] k all = tt
  at_true (f ∷ fs) zero all = All-head (Holds n) f fs all
  at_true (f ∷ fs) (suc k) all = at_true fs k (All-tail (Holds n) f fs all)

  module _ (hyps earlier : List Formula) (hs : AllHold n hyps) (es : AllHold n earlier) where
    fact_true : (r : Ref) → IfSome (fact_at hyps earlier r) (Holds n)
    fact_true (ref.Hyp k) = at_true hyps k hs
    fact_true (ref.Earlier k) = at_true earlier k es

    -- where all facts are true, so are the premises
    pub premises_true : (refs : List Ref) → PremisesHold n hyps earlier refs
    premises_true [] = All-nil (λ r. IfSome (fact_at hyps earlier r) (Holds n))
    premises_true (r ∷ rs) = All-cons (λ r. IfSome (fact_at hyps earlier r) (Holds n)) r rs (fact_true r) (premises_true rs)

-- Derivations are exact and sound.
use Rattle.std.proofs.Common.{◌≡◌, ℕ, zero, suc, ◌+◌, ◌-◌, ◌<◌, Bool, true, false, ◌&&◌, ◌⊎◌, inl, inr, List, [], ◌∷◌, ◌++◌, length, take, Option, Some, None, refl, ap, sym, ◌∙◌, append_assoc, if◌then◌else◌, add-zero, arith, length-append}
use Rattle.std.specs.Prelude.{ℤ, int_le, slice_get, MatchOption}
use Rattle.std.specs.List.{list_all}
use Rattle.std.specs.Option.{option_map_or}
use Rattle.std.specs.Ordering.{int_eq}
use Rattle.std.proofs.lemmas.List.{append-nil}
use Rattle.std.proofs.lemmas.Bool.Decides.{Decides-int_eq}
use Rattle.std.proofs.lemmas.Bool.{and_parts}
use Rattle.outline_check.specs.declared.notes.Rule.{Rule}
use Rattle.outline_check.specs.declared.notes.Rule.TheVariants as rule
use Rattle.outline_check.specs.declared.notes.Ref.{Ref}
use Rattle.outline_check.specs.declared.notes.Ref.TheVariants as ref
use Rattle.outline_check.specs.declared.notes.Step.{Step}
use Rattle.outline_check.specs.declared.state.Term.{Term}
use Rattle.outline_check.specs.declared.state.Term.TheVariants.{Number, Variable}
use Rattle.outline_check.specs.declared.state.Fact.{Fact}
use Rattle.outline_check.specs.declared.state.Fact.TheVariants.{Equal, AtMost}
use Rattle.outline_check.specs.States.{fact_of}
use Rattle.outline_check.specs.Derivations.{same_term, same_fact, is_at, is_small, evaluates, value_of, is_true, DerivationsAreSound, is_instance, ends_in, bad_from, first_bad, conclusions, Derives, IsFirstBad, DerivationsAreExact}

module _ (globals : List Term) (hyps : List Fact) (goal : Fact) where
  -- step k after earlier conclusions
  abbrev after_at : List Fact → List Step → ℕ → Bool
  after_at earlier steps k =
      option_map_or
      (λ step. is_instance hyps (earlier ++ take k (conclusions globals steps)) step.rule step.refs (fact_of globals step.formula))
      (slice_get steps k) false

  record AllStand (earlier : List Fact) (steps : List Step) : Type 0 where
    instances : (k : ℕ) → k < length steps → after_at earlier steps k ≡ true
    last : ends_in (earlier ++ conclusions globals steps) goal ≡ true

  record BadAt (earlier : List Fact) (steps : List Step) (n : ℕ) : Type 0 where
    k : ℕ
    place : n ≡ length earlier + k
    before : (j : ℕ) → j < k → after_at earlier steps j ≡ true
    here : ((k < length steps) × (after_at earlier steps k ≡ false)) ⊎ ((k ≡ length steps) × (ends_in (earlier ++ conclusions globals steps) goal ≡ false))

  shift : (earlier : List Fact) (step : Step) (steps : List Step) (k : ℕ) →
      after_at (earlier ++ fact_of globals step.formula ∷ []) steps k ≡ after_at earlier (step ∷ steps) (suc k)
  shift earlier step steps k =
      ap (λ known. option_map_or (λ s. is_instance hyps known s.rule s.refs (fact_of globals s.formula)) (slice_get steps k) false)
      (append_assoc earlier (fact_of globals step.formula ∷ []) (take k (conclusions globals steps)))

  shift_last : (earlier : List Fact) (step : Step) (steps : List Step) →
      ends_in ((earlier ++ fact_of globals step.formula ∷ []) ++ conclusions globals steps) goal ≡ ends_in (earlier ++ conclusions globals (step ∷ steps)) goal
  shift_last earlier step steps =
      ap (λ known. ends_in known goal) (append_assoc earlier (fact_of globals step.formula ∷ []) (conclusions globals steps))

  first_stands : (earlier : List Fact) (step : Step) (steps : List Step) (b : Bool) →
      is_instance hyps earlier step.rule step.refs (fact_of globals step.formula) ≡ b → after_at earlier (step ∷ steps) 0 ≡ b
  first_stands earlier step steps b e = rw append-nil e

  ended : (earlier : List Fact) (b : Bool) → ends_in earlier goal ≡ b →
      MatchOption (if b then None else Some (length earlier)) (AllStand earlier []) (BadAt earlier [])
  ended earlier true e = record { instances = λ k h. absurd (omega arith); last = rw append-nil e }
  ended earlier false e =
      record { k = 0; place = rw add-zero refl; before = λ j h. absurd (omega arith); here = inr (refl, rw append-nil e) }

  all_on : (earlier : List Fact) (step : Step) (steps : List Step) →
      is_instance hyps earlier step.rule step.refs (fact_of globals step.formula) ≡ true →
      AllStand (earlier ++ fact_of globals step.formula ∷ []) steps → AllStand earlier (step ∷ steps)
  all_on earlier step steps e all = record {
    instances = each;
    last = sym (shift_last earlier step steps) ∙ all.last;
  }
    where
      each : (k : ℕ) → k < length (step ∷ steps) → after_at earlier (step ∷ steps) k ≡ true
      each zero h = first_stands earlier step steps true e
      each (suc k) h = sym (shift earlier step steps k) ∙ all.instances k (omega arith)

  bad_on : (earlier : List Fact) (step : Step) (steps : List Step) (n : ℕ) →
      is_instance hyps earlier step.rule step.refs (fact_of globals step.formula) ≡ true →
      BadAt (earlier ++ fact_of globals step.formula ∷ []) steps n → BadAt earlier (step ∷ steps) n
  bad_on earlier step steps n e bad = record {
    k = suc bad.k;
    place = omega (arith, bad.place, length-append earlier (fact_of globals step.formula ∷ []));
    before = each;
    here = elim bad.here [
      | inl h ↦ inl (omega (arith, h.0), sym (shift earlier step steps bad.k) ∙ h.1)
      | inr h ↦ inr (ap suc h.0, sym (shift_last earlier step steps) ∙ h.1)
    ];
  }
    where
      each : (j : ℕ) → j < suc bad.k → after_at earlier (step ∷ steps) j ≡ true
      each zero h = first_stands earlier step steps true e
      each (suc j) h = sym (shift earlier step steps j) ∙ bad.before j (omega arith)

  match_on : (o : Option ℕ) (earlier : List Fact) (step : Step) (steps : List Step) →
      is_instance hyps earlier step.rule step.refs (fact_of globals step.formula) ≡ true →
      MatchOption o (AllStand (earlier ++ fact_of globals step.formula ∷ []) steps) (BadAt (earlier ++ fact_of globals step.formula ∷ []) steps) →
      MatchOption o (AllStand earlier (step ∷ steps)) (BadAt earlier (step ∷ steps))
  match_on None earlier step steps e m = all_on earlier step steps e m
  match_on (Some n) earlier step steps e m = bad_on earlier step steps n e m

  by_first : (earlier : List Fact) (step : Step) (steps : List Step) (b : Bool) (o : Option ℕ) →
      is_instance hyps earlier step.rule step.refs (fact_of globals step.formula) ≡ b →
      MatchOption o (AllStand (earlier ++ fact_of globals step.formula ∷ []) steps) (BadAt (earlier ++ fact_of globals step.formula ∷ []) steps) →
      MatchOption (if b then o else Some (length earlier)) (AllStand earlier (step ∷ steps)) (BadAt earlier (step ∷ steps))
  by_first earlier step steps true o e m = match_on o earlier step steps e m
  by_first earlier step steps false o e m = record {
    k = 0;
    place = rw add-zero refl;
    before = λ j h. absurd (omega arith);
    here = inl (omega arith, first_stands earlier step steps false e);
  }

  stands : (earlier : List Fact) (steps : List Step) → MatchOption (bad_from globals hyps goal earlier steps) (AllStand earlier steps) (BadAt earlier steps)
  stands earlier [] = ended earlier (ends_in earlier goal) refl
  stands earlier (step ∷ steps) =
      by_first earlier step steps (is_instance hyps earlier step.rule step.refs (fact_of globals step.formula))
      (bad_from globals hyps goal (earlier ++ fact_of globals step.formula ∷ []) steps) refl
      (stands (earlier ++ fact_of globals step.formula ∷ []) steps)

  from_start : (steps : List Step) (o : Option ℕ) → MatchOption o (AllStand [] steps) (BadAt [] steps) →
      MatchOption o (Derives globals hyps goal steps) (IsFirstBad globals hyps goal steps)
  from_start steps None m = record { instances = m.instances; last = m.last }
  from_start steps (Some n) m =
      let place : n ≡ m.k = omega (arith, m.place) in
      rw place (record { before = m.before; here = m.here })

pub exact : DerivationsAreExact
exact globals hyps goal steps =
    from_start globals hyps goal steps (first_bad globals hyps goal steps) (stands globals hyps goal [] steps)

module _ (numbers : ℕ → ℤ) where
  same-value : (a b : Term) → same_term a b ≡ true → value_of numbers a ≡ value_of numbers b
  same-value (Number a) (Number b) e = (Decides-int_eq a b).0 e
  same-value (Variable v) (Variable w) e = let p : v ≡ w = grind arith in ap numbers p
  same-value (Number a) (Variable w) e = cc
  same-value (Variable v) (Number b) e = cc

  same-truth : (a b : Fact) → same_fact a b ≡ true → is_true numbers b ≡ is_true numbers a
  unfolding same_fact
  same-truth (Equal a b) (Equal c d) e =
      let p = and_parts (same_term a c) (same_term b d) e in
      rw (same-value a c p.0, same-value b d p.1) refl
  same-truth (AtMost a b) (AtMost c d) e =
      let p = and_parts (same_term a c) (same_term b d) e in
      rw (same-value a c p.0, same-value b d p.1) refl
  same-truth (Equal a b) (AtMost c d) e = cc
  same-truth (AtMost a b) (Equal c d) e = cc

  pub at-true : (facts : List Fact) (k : ℕ) (fact : Fact) → list_all (is_true numbers) facts ≡ true → is_at facts k fact ≡ true →
      is_true numbers fact ≡ true
  unfolding is_at
  at-true [] k fact h e = cc
  at-true (f ∷ facts) zero fact h e =
      let p = and_parts (is_true numbers f) (list_all (is_true numbers) facts) h in
      sym (same-truth fact f e) ∙ p.0
  at-true (f ∷ facts) (suc k) fact h e =
      let p = and_parts (is_true numbers f) (list_all (is_true numbers) facts) h in
      at-true facts k fact p.1 e

  evaluated : (fact : Fact) → evaluates fact ≡ true → is_true numbers fact ≡ true
  unfolding evaluates
  evaluated (Equal (Number a) (Number b)) e = (and_parts (is_small a && is_small b) (int_eq a b) e).1
  evaluated (AtMost (Number a) (Number b)) e = (and_parts (is_small a && is_small b) (int_le a b) e).1
  evaluated (Equal (Number a) (Variable w)) e = cc
  evaluated (Equal (Variable v) b) e = cc
  evaluated (AtMost (Number a) (Variable w)) e = cc
  evaluated (AtMost (Variable v) b) e = cc

  instance-true : (hyps earlier : List Fact) (r : Rule) (refs : List Ref) (fact : Fact) → list_all (is_true numbers) hyps ≡ true →
      list_all (is_true numbers) earlier ≡ true → is_instance hyps earlier r refs fact ≡ true → is_true numbers fact ≡ true
  unfolding is_instance
  instance-true hyps earlier rule.Hyp (ref.Hyp k ∷ []) fact h k_true e = at-true hyps k fact h e
  instance-true hyps earlier rule.Hyp (ref.Earlier k ∷ []) fact h k_true e = at-true earlier k fact k_true e
  instance-true hyps earlier rule.Eval [] fact h k_true e = evaluated fact e
  instance-true hyps earlier rule.Hyp [] fact h k_true e = cc
  instance-true hyps earlier rule.Hyp (ref.Hyp k ∷ r ∷ refs) fact h k_true e = cc
  instance-true hyps earlier rule.Hyp (ref.Earlier k ∷ r ∷ refs) fact h k_true e = cc
  instance-true hyps earlier rule.Eval (r ∷ refs) fact h k_true e = cc

  pub all-append : (xs : List Fact) (x : Fact) → list_all (is_true numbers) xs ≡ true → is_true numbers x ≡ true →
      list_all (is_true numbers) (xs ++ x ∷ []) ≡ true
  all-append [] x h e = rw e refl
  all-append (y ∷ xs) x h e =
      let p = and_parts (is_true numbers y) (list_all (is_true numbers) xs) h in
      rw (p.0, all-append xs x p.1 e) refl

  module _ (globals : List Term) (hyps : List Fact) (goal : Fact) (hyps_true : list_all (is_true numbers) hyps ≡ true) where
    sound-from : (earlier : List Fact) (steps : List Step) → list_all (is_true numbers) earlier ≡ true →
        AllStand globals hyps goal earlier steps → is_true numbers goal ≡ true
    sound-from earlier [] h all =
        at-true earlier (length earlier - 1) goal h (rw append-nil at all.last)
    sound-from earlier (step ∷ steps) h all =
        let here : is_instance hyps earlier step.rule step.refs (fact_of globals step.formula) ≡ true =
        rw append-nil at (all.instances 0 (omega arith)) in
        sound-from (earlier ++ fact_of globals step.formula ∷ []) steps
        (all-append earlier (fact_of globals step.formula) h
        (instance-true hyps earlier step.rule step.refs (fact_of globals step.formula) hyps_true h here))
        (record {
          instances = λ k below. shift globals hyps goal earlier step steps k ∙ all.instances (suc k) (omega arith);
          last = shift_last globals hyps goal earlier step steps ∙ all.last;
        })

pub sound : DerivationsAreSound
sound globals hyps goal steps numbers derives h =
    sound-from numbers globals hyps goal h [] steps refl (record { instances = derives.instances; last = derives.last })

-- Derivations by the rules `hyp` and `eval`.
use Rattle.std.specs.Prelude.{true, ◌≡◌, ◌<◌, ◌⊎◌, MatchOption, map, take, ℕ, ◌-◌, ◌^◌, Bool, false, if◌then◌else◌, ◌&&◌, nat_lt, nat_eq, ℤ, nat_abs, int_le, List, [], ◌∷◌, ◌++◌, length, slice_get, Option, Some, None}
use Rattle.std.specs.List.{list_all}
use Rattle.std.specs.Option.{option_map_or}
use Rattle.std.specs.Ordering.{int_eq}
use Rattle.outline_check.specs.declared.notes.Rule.{Rule}
use Rattle.outline_check.specs.declared.notes.Rule.TheVariants as rule
use Rattle.outline_check.specs.declared.notes.Ref.{Ref}
use Rattle.outline_check.specs.declared.notes.Ref.TheVariants as ref
use Rattle.outline_check.specs.declared.notes.Step.{Step}
use Rattle.outline_check.specs.declared.state.Term.{Term}
use Rattle.outline_check.specs.declared.state.Term.TheVariants.{Number, Variable}
use Rattle.outline_check.specs.declared.state.Fact.{Fact}
use Rattle.outline_check.specs.declared.state.Fact.TheVariants.{Equal, AtMost}
use Rattle.outline_check.specs.States.{fact_of}

-- Whether two terms are the same tree.
abbrev pub same_term : Term → Term → Bool
same_term (Number a) (Number b) = int_eq a b
same_term (Variable v) (Variable w) = nat_eq v w
same_term _ _ = false

-- Whether two facts are the same tree.
unfoldable pub same_fact : Fact → Fact → Bool
same_fact (Equal a b) (Equal c d) = same_term a c && same_term b d
same_fact (AtMost a b) (AtMost c d) = same_term a c && same_term b d
same_fact _ _ = false

-- Whether the fact of that number exists and is this one.
unfoldable pub is_at : List Fact → ℕ → Fact → Bool
is_at facts k fact = option_map_or (same_fact fact) (slice_get facts k) false

-- Whether a number is below 2^120 in absolute value.
abbrev pub is_small : ℤ → Bool
is_small n = nat_lt (nat_abs n) (2 ^ 120)

-- Whether a formula has no variables and is true, each number in it below 2^120 in absolute value.
unfoldable pub evaluates : Fact → Bool
evaluates (Equal (Number a) (Number b)) = is_small a && is_small b && int_eq a b
evaluates (AtMost (Number a) (Number b)) = is_small a && is_small b && int_le a b
evaluates _ = false

-- Whether a step is an instance of its rule over the hypotheses and the conclusions of earlier steps: `hyp` refers to
-- the conclusion itself, and `eval` refers to nothing.
unfoldable pub is_instance : List Fact → List Fact → Rule → List Ref → Fact → Bool
is_instance hyps earlier rule.Hyp (ref.Hyp k ∷ []) conclusion = is_at hyps k conclusion
is_instance hyps earlier rule.Hyp (ref.Earlier k ∷ []) conclusion = is_at earlier k conclusion
is_instance hyps earlier rule.Eval [] conclusion = evaluates conclusion
is_instance _ _ _ _ _ = false

-- Whether the last of these is the goal.
abbrev pub ends_in : List Fact → Fact → Bool
ends_in conclusions goal = is_at conclusions (length conclusions - 1) goal

-- The steps go on from the conclusions of earlier ones. The position of the first step that is no instance, or the
-- number of all steps where the last conclusion isn't the goal; none where they derive the goal.
abbrev pub bad_from : List Term → List Fact → Fact → List Fact → List Step → Option ℕ
bad_from globals hyps goal earlier [] = if ends_in earlier goal then None else Some (length earlier)
bad_from globals hyps goal earlier (step ∷ steps) =
    if is_instance hyps earlier step.rule step.refs (fact_of globals step.formula)
    then bad_from globals hyps goal (earlier ++ fact_of globals step.formula ∷ []) steps
    else Some (length earlier)

-- The same from the first step on: the number K of a derivation that is refused.
abbrev pub first_bad : List Term → List Fact → Fact → List Step → Option ℕ
first_bad globals hyps goal steps = bad_from globals hyps goal [] steps

-- The conclusions of steps, in their order.
abbrev pub conclusions : List Term → List Step → List Fact
conclusions globals steps = map (λ step. fact_of globals step.formula) steps

-- Whether step k is an instance over the hypotheses and the conclusions of the steps before it.
abbrev pub is_instance_at : List Term → List Fact → List Step → ℕ → Bool
is_instance_at globals hyps steps k =
    option_map_or
    (λ step. is_instance hyps (take k (conclusions globals steps)) step.rule step.refs (fact_of globals step.formula))
    (slice_get steps k) false

-- The steps derive the goal from the hypotheses: each step is an instance over the hypotheses and the earlier
-- conclusions, and the last conclusion is the goal.
pub record Derives (globals : List Term) (hyps : List Fact) (goal : Fact) (steps : List Step) : Type 0 where
  pub instances : (k : ℕ) → k < length steps → is_instance_at globals hyps steps k ≡ true
  pub last : ends_in (conclusions globals steps) goal ≡ true

-- The steps before k are instances, and step k isn't; or k is the number of all steps and the last conclusion isn't the
-- goal.
pub record IsFirstBad (globals : List Term) (hyps : List Fact) (goal : Fact) (steps : List Step) (k : ℕ) : Type 0 where
  pub before : (j : ℕ) → j < k → is_instance_at globals hyps steps j ≡ true
  pub here :
      ((k < length steps) × (is_instance_at globals hyps steps k ≡ false))
      ⊎ ((k ≡ length steps) × (ends_in (conclusions globals steps) goal ≡ false))

-- The first bad step is none exactly where the steps derive the goal, and else it is the first bad one.
abbrev pub DerivationsAreExact : Type 0
DerivationsAreExact =
    (globals : List Term) (hyps : List Fact) (goal : Fact) (steps : List Step) →
    MatchOption (first_bad globals hyps goal steps) (Derives globals hyps goal steps) (IsFirstBad globals hyps goal steps)

-- The value of a term, where numbers are given for the variables.
abbrev pub value_of : (ℕ → ℤ) → Term → ℤ
value_of numbers (Number n) = n
value_of numbers (Variable v) = numbers v

-- Whether a fact is true under these numbers.
abbrev pub is_true : (ℕ → ℤ) → Fact → Bool
is_true numbers (Equal a b) = int_eq (value_of numbers a) (value_of numbers b)
is_true numbers (AtMost a b) = int_le (value_of numbers a) (value_of numbers b)

-- What is derived from true facts is true, under all numbers.
abbrev pub DerivationsAreSound : Type 0
DerivationsAreSound =
    (globals : List Term) (hyps : List Fact) (goal : Fact) (steps : List Step) (numbers : ℕ → ℤ) →
    Derives globals hyps goal steps → list_all (is_true numbers) hyps ≡ true → is_true numbers goal ≡ true

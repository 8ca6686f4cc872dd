-- What a derivation is: a list of steps, each an instance of its rule over the hypotheses and the conclusions before it.
use Rattle.std.specs.Prelude.{ℕ, suc, ◌-◌, Bool, true, false, ◌&&◌, if◌then◌else◌, List, [], ◌∷◌, ◌++◌, length, slice_get, IsTrue}
use Rattle.std.specs.Option.{option_map}
use Rattle.term_logic.specs.declared.term.Formula.{Formula}
use Rattle.term_logic.specs.Meaning.{Numbers}
use Rattle.term_logic.specs.Same.{passes, same_formula}
use Rattle.bitvector_rules.specs.declared.step.Step.{Step, Step-F, out-Step, fold-Step}
use Rattle.bitvector_rules.specs.Goals.{step_goals}
use Rattle.bitvector_rules.specs.Truth.{Holds, AllHold}
use Rattle.derivation_check.specs.declared.check.Checked.{Checked}
use Rattle.derivation_check.specs.declared.check.Checked.TheVariants.{Yes, BadStep}

-- Steps stand here for values of any type X that have a conclusion and a test whether they are instances, over
-- hypotheses and the conclusions of the earlier steps.
module _ (X : Type 0) (conclusion : X → Formula) (test : X → List Formula → List Formula → Bool) where
  -- whether each step is an instance, over the hypotheses and the conclusions of the earlier steps
  abbrev pub all_pass : List X → List Formula → List Formula → Bool
  all_pass [] hyps earlier = true
  all_pass (x ∷ xs) hyps earlier = test x hyps earlier && all_pass xs hyps (earlier ++ conclusion x ∷ [])

  -- whether the steps are instances, and the conclusion of the last is the goal
  abbrev pub reach : List Formula → Formula → List X → Bool
  reach hyps goal xs =
      all_pass xs hyps [] && passes (option_map conclusion (slice_get xs (length xs - 1))) (λ f. same_formula f goal)

  -- whether there is one sub-derivation for each goal, and it reaches it: its hypotheses are the facts around it, and
  -- then its assumption
  abbrev pub all_reach : List Formula → List (List X) → List (Formula × Formula) → Bool
  all_reach facts [] [] = true
  all_reach facts (s ∷ ss) (g ∷ gs) = reach (facts ++ g.0 ∷ []) g.1 s && all_reach facts ss gs
  all_reach facts _ _ = false

-- a step, as its conclusion and whether it is an instance over hypotheses and earlier conclusions
abbrev pub Tested : Type 0
Tested = Formula × (List Formula → List Formula → Bool)

-- whether a step whose sub-derivations are tested is an instance: it fits its rule, and they reach what it has to show
abbrev pub instance_here : Step-F Tested → List Formula → List Formula → Bool
instance_here s hyps earlier = passes (step_goals hyps earlier s) (all_reach Tested (λ t. t.0) (λ t. t.1) (hyps ++ earlier) s.subs)

-- a step as its conclusion and its test, which rests on those of the steps of its sub-derivations
unfoldable pub tested : Step → Tested
tested s = fold-Step Tested (λ l. (l.formula, instance_here l)) s

-- Whether a step is an instance of its rule, over hypotheses and the conclusions of the earlier steps: it has the
-- premises and the conclusion that its rule wants, and each of its sub-derivations derives what it has to.
abbrev pub is_instance : Step → List Formula → List Formula → Bool
is_instance s = (tested s).1

-- The step is an instance of its rule.
abbrev pub Instance : List Formula → List Formula → Step → Type 0
Instance hyps earlier s = IsTrue (is_instance s hyps earlier)

-- The conclusion of a step.
abbrev pub conclusion_of : Step → Formula
conclusion_of s = (out-Step s).formula

-- Whether steps derive the goal from the hypotheses: each is an instance over these and the conclusions before it, and
-- the last conclusion is the goal.
abbrev pub derives : List Formula → Formula → List Step → Bool
derives hyps goal steps = reach Step conclusion_of is_instance hyps goal steps

-- The steps derive the goal from the hypotheses.
abbrev pub Derives : List Formula → Formula → List Step → Type 0
Derives hyps goal steps = IsTrue (derives hyps goal steps)

-- How many steps come before the first that is no instance, or how many there are.
abbrev pub good_steps : List Formula → List Formula → List Step → ℕ
good_steps hyps earlier [] = 0
good_steps hyps earlier (s ∷ ss) = if is_instance s hyps earlier then suc (good_steps hyps (earlier ++ conclusion_of s ∷ []) ss) else 0

-- The position of the first step that is no instance, or the number of steps where all are and the last isn't the goal.
abbrev pub first_bad : List Formula → List Step → ℕ
first_bad hyps steps = good_steps hyps [] steps

-- The answer of a check of the steps.
abbrev pub checked : List Formula → Formula → List Step → Checked
checked hyps goal steps = if derives hyps goal steps then Yes else BadStep (first_bad hyps steps)

-- The goal is true under all numbers under which the hypotheses are.
abbrev pub Follows : List Formula → Formula → Type 0
Follows hyps goal = (n : Numbers) → AllHold n hyps → Holds n goal

-- When facts and goals are true.
use Rattle.std.specs.Prelude.{◌≡◌, List, Some, IsTrue, IfSome}
use Rattle.std.specs.List.{All}
use Rattle.term_trees.specs.declared.term.Formula.{Formula}
use Rattle.term_trees.specs.Meaning.{Numbers, holds}
use Rattle.bitvector_rules.specs.declared.step.Ref.{Ref}
use Rattle.bitvector_rules.specs.declared.step.Step.{Step, out-Step}
use Rattle.bitvector_rules.specs.Facts.{fact_at}
use Rattle.bitvector_rules.specs.Goals.{step_goals}

-- The formula is true under the numbers.
abbrev pub Holds : Numbers → Formula → Type 0
Holds n f = IsTrue (holds n f)

-- All of the formulas are true under the numbers.
abbrev pub AllHold : Numbers → List Formula → Type 0
AllHold n fs = All (λ f. Holds n f) fs

-- Each goal is met under the numbers: where its assumption is true, so is what is to be derived.
abbrev pub AllMet : Numbers → List (Formula × Formula) → Type 0
AllMet n gs = All (λ g. Holds n g.0 → Holds n g.1) gs

-- The premises are true under the numbers: each fact that a reference names is. Other facts may be false.
abbrev pub PremisesHold : Numbers → List Formula → List Formula → List Ref → Type 0
PremisesHold n hyps earlier refs = All (λ r. IfSome (fact_at hyps earlier r) (Holds n)) refs

-- A step that fits its rule, from true premises and with goals that are met, draws a true conclusion.
abbrev pub StepIsSound : Step → Type 0
StepIsSound s = (n : Numbers) (hyps earlier : List Formula) (goals : List (Formula × Formula)) → step_goals hyps earlier (out-Step s) ≡ Some goals
    → PremisesHold n hyps earlier (out-Step s).refs → AllMet n goals → Holds n (out-Step s).formula

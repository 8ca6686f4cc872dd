-- The rules: which premises and sub-derivations a conclusion wants.
use Rattle.std.specs.Prelude.{ℕ, ℤ, ◌≤◌, ◌-◌, Bool, true, false, ◌&&◌, if◌then◌else◌, List, [], ◌∷◌, length, slice_get, Option, Some, None}
use Rattle.std.specs.Option.{option_map, option_and_then}
use Rattle.std.specs.List.{All}
use Rattle.term_trees.specs.declared.term.Term.{Term}
use Rattle.term_trees.specs.declared.term.Formula.{Formula}
use Rattle.term_trees.specs.declared.term.Formula.TheVariants as formula
use Rattle.term_logic.specs.Formulas.{formula_bound, formula_of}
use Rattle.term_trees.specs.Same.{passes, same_formula}
use Rattle.term_trees.specs.Views.{is_true, is_false, not_of, and_of, or_of, imp_of}
use Rattle.integer_rules.specs.declared.rule.IntegerRule.{IntegerRule}
use Rattle.bitvector_rules.specs.declared.step.Rule.{Rule}
use Rattle.bitvector_rules.specs.declared.step.Rule.TheVariants.{Hyp, True, And, Left, Right, Orl, Orr, Cases, Assume, Apply, Contra, Refute, Clash, Explode, Refl, Rewrite, Eval, Linear, Floor, Ceil, Order, Notle, Notlt, Mulpos}
use Rattle.bitvector_rules.specs.declared.step.Ref.{Ref}
use Rattle.bitvector_rules.specs.declared.step.Step.{Step, Step-F, out-Step}
use Rattle.bitvector_rules.specs.declared.goals.SubGoal.{SubGoal}
use Rattle.equality_rules.specs.Equality.{is_refl, is_eval, is_floor, is_ceil, is_order, is_notle, is_notlt, is_mulpos}
use Rattle.equality_rules.specs.Linear.{is_linear}
use Rattle.equality_rules.specs.Rewrite.{is_rewrite}
use Rattle.bitvector_rules.specs.Facts.{is_empty, one_premise, two_premises, premises}
use Rattle.bitvector_rules.specs.Machine.{machine_rule, fits_machine}

-- What a step's sub-derivations have to show, in their order: each an assumption, and what to derive under it. There is
-- none where the step doesn't fit its rule.
abbrev pub Goals : Type 0
Goals = Option (List (Formula × Formula))

-- no sub-derivation at all, where the test holds
abbrev pub when : Bool → Goals
when holds = if holds then Some [] else None

-- Whether a step fits a rule of equality and order, but for `linear`, which takes numbers.
abbrev pub fits_equality : List Formula → List Formula → List Ref → Formula → Rule → Bool
fits_equality hyps earlier refs c Refl = is_empty refs && is_refl c
fits_equality hyps earlier refs c Rewrite = passes (two_premises hyps earlier refs) (λ p. is_rewrite p.0 p.1 c)
fits_equality hyps earlier refs c Eval = is_empty refs && is_eval c
fits_equality hyps earlier refs c Floor = passes (one_premise hyps earlier refs) (λ p. is_floor p c)
fits_equality hyps earlier refs c Ceil = passes (one_premise hyps earlier refs) (λ p. is_ceil p c)
fits_equality hyps earlier refs c Order = is_empty refs && is_order c
fits_equality hyps earlier refs c Notle = passes (one_premise hyps earlier refs) (λ p. is_notle p c)
fits_equality hyps earlier refs c Notlt = passes (one_premise hyps earlier refs) (λ p. is_notlt p c)
fits_equality hyps earlier refs c Mulpos = passes (two_premises hyps earlier refs) (λ p. is_mulpos p.0 p.1 c)
fits_equality hyps earlier refs c _ = false

-- The goals of a step by a rule of machine integers, where its rule is one, and else of equality and order.
abbrev pub further_goals : List Formula → List Formula → List Ref → Formula → Rule → Option IntegerRule → Goals
further_goals hyps earlier refs c rule (Some r) = when (fits_machine hyps earlier refs c r)
further_goals hyps earlier refs c rule None = when (fits_equality hyps earlier refs c rule)

-- The goals of a step by its rule, from its references and its conclusion c.
abbrev pub rule_goals : List Formula → List Formula → List Ref → Formula → Rule → Goals
rule_goals hyps earlier refs c Hyp = when (passes (one_premise hyps earlier refs) (λ f. same_formula f c))
rule_goals hyps earlier refs c True = when (is_empty refs && is_true c)
rule_goals hyps earlier refs c And =
    when (passes (two_premises hyps earlier refs) (λ p. passes (and_of c) (λ q. same_formula p.0 q.0 && same_formula p.1 q.1)))
rule_goals hyps earlier refs c Left = when (passes (one_premise hyps earlier refs) (λ p. passes (and_of p) (λ q. same_formula q.0 c)))
rule_goals hyps earlier refs c Right = when (passes (one_premise hyps earlier refs) (λ p. passes (and_of p) (λ q. same_formula q.1 c)))
rule_goals hyps earlier refs c Orl = when (passes (one_premise hyps earlier refs) (λ f. passes (or_of c) (λ q. same_formula f q.0)))
rule_goals hyps earlier refs c Orr = when (passes (one_premise hyps earlier refs) (λ f. passes (or_of c) (λ q. same_formula f q.1)))
rule_goals hyps earlier refs c Cases =
    option_map (λ q. (q.0, c) ∷ (q.1, c) ∷ []) (option_and_then or_of (one_premise hyps earlier refs))
rule_goals hyps earlier refs c Assume = if is_empty refs then option_map (λ q. (q.0, q.1) ∷ []) (imp_of c) else None
rule_goals hyps earlier refs c Apply =
    when (passes (two_premises hyps earlier refs) (λ p. passes (imp_of p.0) (λ q. same_formula q.0 p.1 && same_formula q.1 c)))
rule_goals hyps earlier refs c Contra = if is_empty refs then Some ((formula.Not c, formula.False) ∷ []) else None
rule_goals hyps earlier refs c Refute = if is_empty refs then option_map (λ f. (f, formula.False) ∷ []) (not_of c) else None
rule_goals hyps earlier refs c Clash =
    when (passes (two_premises hyps earlier refs) (λ p. passes (not_of p.1) (λ f. same_formula p.0 f)) && is_false c)
rule_goals hyps earlier refs c Explode = when (passes (one_premise hyps earlier refs) (λ p. is_false p))
rule_goals hyps earlier refs c rule = further_goals hyps earlier refs c rule (machine_rule rule)

-- whether a rule takes numbers: `linear` alone does
abbrev pub takes_numbers : Rule → Bool
takes_numbers Linear = true
takes_numbers _ = false

-- Whether a step fits `linear`.
abbrev pub fits_linear : List Formula → List Formula → List Ref → List ℤ → Formula → Bool
fits_linear hyps earlier refs numbers c = passes (premises hyps earlier refs) (λ fs. is_linear fs numbers c)

-- The goals of a step. A step by `linear` has a number for each premise, and any other step has none.
abbrev pub step_goals : {X : Type 0} → List Formula → List Formula → Step-F X → Goals
step_goals hyps earlier s =
    if takes_numbers s.rule then when (fits_linear hyps earlier s.refs s.numbers s.formula) else
    if is_empty s.numbers then rule_goals hyps earlier s.refs s.formula s.rule else None

-- The formula of the last step, where there is one.
abbrev pub last_formula : List Step → Option Formula
last_formula steps = option_map (λ s. (out-Step s).formula) (slice_get steps (length steps - 1))

-- Whether there is one sub-derivation for each goal, and it ends with what the goal says.
abbrev pub ends_match : List (List Step) → List (Formula × Formula) → Bool
ends_match [] [] = true
ends_match (s ∷ ss) (g ∷ gs) = passes (last_formula s) (λ f. same_formula f g.1) && ends_match ss gs
ends_match _ _ = false

-- Whether a step fits its rule, as far as the steps of its sub-derivations aren't looked at: it has the premises and
-- the conclusion of the rule, and its sub-derivations end as they have to.
unfoldable pub has_shape : List Formula → List Formula → Step → Bool
has_shape hyps earlier s = passes (step_goals hyps earlier (out-Step s)) (λ goals. ends_match (out-Step s).subs goals)

-- ---- goals over a table

-- The formulas that a goal over a table stands for.
abbrev pub goal_of : List Term → SubGoal → Formula × Formula
goal_of ts g = (formula_of ts g.assumption, formula_of ts g.goal)

-- The goals are over a table of n terms.
abbrev pub GoalsWithin : ℕ → List SubGoal → Type 0
GoalsWithin n gs = All (λ g. (formula_bound g.assumption ≤ n) × (formula_bound g.goal ≤ n)) gs

use Rattle.std.proofs.Common.{◌≡◌, ◌+◌, ◌∙◌, sym, ap, subst, arith, length, take, map, ◌++◌, ◌∷◌, [], IsTrue}
use Rattle.std.specs.List.{list_all}
use Rattle.std.specs.Prelude.{IfSome}
use Rattle.std.specs.Option.{option_map}
use Rattle.std.proofs.lemmas.Grind.{common_steps}
use Rattle.bitvector_rules.specs.Facts.{AllWithin}
use Rattle.bitvector_rules.specs.Goals.{goal_of, step_goals, GoalsWithin}
use Rattle.bitvector_rules.specs.Steps.{all_admissible}
use Rattle.derivation_check.specs.Derivations.{derives}
use Rattle.derivation_check.specs.words.Facts.{hyps_at, earlier_at, facts_at}
use Rattle.bitvector_rules.specs.declared.step.Step.{out-Step}
use Rattle.derivation_check.proofs.FactLemmas.{extends_trans, within_more, goals_more, facts_kept, goals_kept, goals_tail, all_facts}
use Rattle.derivation_check.proofs.Progress.{Progress, stopped, next}
use Rattle.derivation_check.proofs.StepLemmas.{goal_then, goal_else, goal_met, instance_some, instance_none, subs_admissible, step_admissible, subs_tail, reached, ok_then, no_goals, trimmed}
use Rattle.bitvector_rules.proofs.Weights.{weights_of, weight_at, weight_out}
use Rattle.derivation_check.proofs.check.+check.Goals as goal

-- ---- good_steps

pub good_steps-returns-in_err-conclusion-clause-kept : goal.good_steps-returns-in_err-conclusion-clause-kept
good_steps-returns-in_err-conclusion-clause-kept t c = extends_trans _ _ _ c.loop-good.invariant.grown c.put_formula.ensures.kept

pub good_steps-returns-in_err-is_instance-clause-kept : goal.good_steps-returns-in_err-is_instance-clause-kept
good_steps-returns-in_err-is_instance-clause-kept t c = extends_trans _ _ _ c.loop-good.invariant.grown (extends_trans _ _ _ c.put_formula.ensures.kept c.is_instance.ensures.kept)

pub good_steps-returns-then-not-branch-clause-kept : goal.good_steps-returns-then-not-branch-clause-kept
good_steps-returns-then-not-branch-clause-kept t c = extends_trans _ _ _ c.loop-good.invariant.grown (extends_trans _ _ _ c.put_formula.ensures.kept c.is_instance.ensures.kept)

pub good_steps-returns-in_err-push-clause-kept : goal.good_steps-returns-in_err-push-clause-kept
good_steps-returns-in_err-push-clause-kept t c = extends_trans _ _ _ c.loop-good.invariant.grown (extends_trans _ _ _ c.put_formula.ensures.kept c.is_instance.ensures.kept)

pub good_steps-returns-then-not-branch-clause-added : goal.good_steps-returns-then-not-branch-clause-added
good_steps-returns-then-not-branch-clause-added t c = ap (take (length c.args.added.now)) c.in_ok-is_instance.ensures.added ∙ c.loop-good.invariant.prefix

pub good_steps-returns-then-not-branch-clause-good : goal.good_steps-returns-then-not-branch-clause-good
good_steps-returns-then-not-branch-clause-good t c =
    stopped _ _ _ c.requires.hyps _ c.requires.base _ _ _ _ _ _ c.loop-good.invariant c.put_formula.ensures.kept c.is_instance.ensures.kept c.index-steps-good.result c.index-steps-good.is c.loop-good-test.true
    (sym c.if-not-branch.true ∙ c.in_ok-is_instance.ensures.instance)

pub good_steps-is_instance-requires : goal.good_steps-is_instance-requires
good_steps-is_instance-requires t c =
    let now = c.loop-good.invariant in
    let put = c.in_ok-conclusion.ensures in
    let longer = c.put_formula.ensures.kept.longer in
    let lighter = weight_at c.args.steps.now c.loop-good.good c.index-steps-good.result c.loop-good-test.true c.index-steps-good.is in (
      omega (arith, c.decreases, lighter),
      (
        within_more _ _ c.args.hyps.now (omega (arith, now.grown.longer, longer)) c.requires.hyps,
        (
          within_more _ _ c.loop-good.added longer now.within,
          (
            omega (arith, c.requires.base, now.longer),
            (step_admissible c.args.steps.now c.loop-good.good c.index-steps-good.result c.loop-good-test.true c.index-steps-good.is c.requires.steps, (put.within, put.tree)),
          ),
        ),
      ),
    )

pub derives_goal-returns-then-good-steps-clause-derives : goal.derives_goal-returns-then-good-steps-clause-derives
derives_goal-returns-then-good-steps-clause-derives t c =
    let pushed : c.push.new.self ≡ c.args.added.now ++ c.args.goal.now.assumption ∷ [] = c.in_ok-push.ensures.ok ∙ ap (λ a. c.args.added.now ++ a ∷ []) c.in_ok-copy.ensures in
    goal_then c.args.table.now c.good_steps.new.table c.good_steps.ensures.kept c.args.hyps.now c.args.added.now c.push.new.self c.args.goal.now.assumption c.args.goal.now.goal c.requires.goal c.len-base.result c.in_ok-good.good c.args.steps.now
    pushed c.len-base.ensures c.in_ok-good.ensures.good c.ends_with.result c.if-good-steps.true c.ends_with.ensures

pub derives_goal-returns-then-good-steps-clause-added : goal.derives_goal-returns-then-good-steps-clause-added
derives_goal-returns-then-good-steps-clause-added t c =
    let pushed : c.push.new.self ≡ c.args.added.now ++ c.args.goal.now.assumption ∷ [] = c.in_ok-push.ensures.ok ∙ ap (λ a. c.args.added.now ++ a ∷ []) c.in_ok-copy.ensures in
    c.truncate.ensures ∙ trimmed c.args.added.now c.good_steps.new.added c.args.goal.now.assumption c.len-count.result c.len-count.ensures (subst (λ xs. take (length xs) c.good_steps.new.added ≡ xs) pushed c.in_ok-good.ensures.added)

pub derives_goal-returns-else-good-steps-clause-derives : goal.derives_goal-returns-else-good-steps-clause-derives
derives_goal-returns-else-good-steps-clause-derives t c =
    let pushed : c.push.new.self ≡ c.args.added.now ++ c.args.goal.now.assumption ∷ [] = c.in_ok-push.ensures.ok ∙ ap (λ a. c.args.added.now ++ a ∷ []) c.in_ok-copy.ensures in
    goal_else c.args.table.now c.good_steps.new.table c.good_steps.ensures.kept c.args.hyps.now c.args.added.now c.push.new.self c.args.goal.now.assumption c.args.goal.now.goal c.requires.goal c.len-base.result c.in_ok-good.good c.args.steps.now
    pushed c.len-base.ensures c.in_ok-good.ensures.good _ (grind (arith, common_steps, c.if-good-steps.false)) c.if-good-steps.false

pub derives_goal-returns-else-good-steps-clause-added : goal.derives_goal-returns-else-good-steps-clause-added
derives_goal-returns-else-good-steps-clause-added t c =
    let pushed : c.push.new.self ≡ c.args.added.now ++ c.args.goal.now.assumption ∷ [] = c.in_ok-push.ensures.ok ∙ ap (λ a. c.args.added.now ++ a ∷ []) c.in_ok-copy.ensures in
    c.truncate.ensures ∙ trimmed c.args.added.now c.good_steps.new.added c.args.goal.now.assumption c.len-count.result c.len-count.ensures (subst (λ xs. take (length xs) c.good_steps.new.added ≡ xs) pushed c.in_ok-good.ensures.added)

pub all_derive-all_derive-requires : goal.all_derive-all_derive-requires
all_derive-all_derive-requires t c =
    let longer = c.derives_goal.ensures.kept.longer in
    let subs = c.in-Some.ensures.cases.0 in
    let goals = c.in-Some-split_first.ensures.cases.0 in (
      omega (arith, c.decreases, ap weights_of subs),
      (
        within_more _ _ c.args.hyps.now longer c.requires.hyps,
        (
          within_more _ _ c.derives_goal.new.added longer (subst (AllWithin (length c.args.table.now)) (sym c.in_ok-derives_goal.ensures.added) c.requires.added),
          (
            goals_more _ _ c.in-Some-split_first.goals.now longer (goals_tail _ c.in-Some-split_first.goal.now c.in-Some-split_first.goals.now (subst (GoalsWithin (length c.args.table.now)) goals c.requires.goals)),
            subs_tail c.in-Some.sub.now c.in-Some.subs.now (subst (λ ss. IsTrue (list_all all_admissible ss)) subs c.requires.subs),
          ),
        ),
      ),
    )

pub all_derive-returns-clause-derive : goal.all_derive-returns-clause-derive
all_derive-returns-clause-derive t c =
    let kept = c.derives_goal.ensures.kept in
    let subs = c.in-Some.ensures.cases.0 in
    let goals = c.in-Some-split_first.ensures.cases.0 in
    let within = goals_tail _ c.in-Some-split_first.goal.now c.in-Some-split_first.goals.now (subst (GoalsWithin (length c.args.table.now)) goals c.requires.goals) in
    let facts = facts_at c.args.table.now c.args.hyps.now c.args.added.now in
    let here = goal_of c.args.table.now c.in-Some-split_first.goal.now in
    let met = sym c.if-not-branch.false ∙ c.in_ok-derives_goal.ensures.derives ∙ ap (derives (facts ++ here.0 ∷ []) here.1) c.as_slice.ensures in
    ok_then c.all_derive.result c.all_derive.ensures.derive (λ b is.
    is
    ∙ ap (λ xs. reached (facts_at c.derives_goal.new.table c.args.hyps.now xs) c.in-Some.subs.now (map (goal_of c.derives_goal.new.table) c.in-Some-split_first.goals.now)) c.in_ok-derives_goal.ensures.added
    ∙ (λ j. reached (facts_kept _ _ kept c.args.hyps.now c.args.added.now c.requires.hyps c.requires.added j) c.in-Some.subs.now (goals_kept _ _ kept c.in-Some-split_first.goals.now within j))
    ∙ goal_met (facts_at c.args.table.now c.args.hyps.now c.args.added.now) c.in-Some.sub.now c.in-Some.subs.now c.args.subs.now (goal_of c.args.table.now c.in-Some-split_first.goal.now) (map (goal_of c.args.table.now) c.in-Some-split_first.goals.now) (map (goal_of c.args.table.now) c.args.goals.now) subs (ap (map (goal_of c.args.table.now)) goals) met)

pub all_derive-returns-clause-kept : goal.all_derive-returns-clause-kept
all_derive-returns-clause-kept t c = extends_trans _ _ _ c.derives_goal.ensures.kept c.all_derive.ensures.kept

pub good_steps-loop-good-preserved : goal.good_steps-loop-good-preserved
good_steps-loop-good-preserved t c =
    let put = c.in_ok-conclusion.ensures in
    subst (λ fs. Progress c.args.table.now c.args.hyps.now c.args.added.now c.args.base c.args.steps.now (c.loop-good.good + 1) c.is_instance.new.table fs)
    (sym (c.in_ok-push.ensures.ok ∙ ap (λ fs. fs ++ c.in_ok-conclusion.conclusion ∷ []) c.in_ok-is_instance.ensures.added))
    (next _ _ _ c.requires.hyps _ c.requires.base _ _ _ _ _ _ c.loop-good.invariant c.put_formula.ensures.kept c.is_instance.ensures.kept c.index-steps-good.result c.index-steps-good.is c.loop-good-test.true
    c.in_ok-conclusion.conclusion put.within put.tree (sym c.if-not-branch.false ∙ c.in_ok-is_instance.ensures.instance))

pub is_instance-returns-in_default-clause-instance : goal.is_instance-returns-in_default-clause-instance
is_instance-returns-in_default-clause-instance t c =
    let stands = c.as_slice.ensures in
    instance_none c.args.step.now _ _
    (no_goals (map (goal_of c.args.table.now)) c.in_ok-goals.field-0 c.in_default.not-Some
    ∙ c.in_ok-goals.ensures.goals
    ∙ (λ j. step_goals (hyps_at c.args.table.now c.args.hyps.now (stands j) c.args.base) (earlier_at c.args.table.now (stands j) c.args.base) (out-Step c.args.step.now)))

pub is_instance-all_derive-requires : goal.is_instance-all_derive-requires
is_instance-all_derive-requires t c =
    let subs = c.as_slice-3.ensures in
    let within = subst (λ o. IfSome o (GoalsWithin (length c.args.table.now))) c.in-Some.is c.in_ok-goals.ensures.within in (
      omega (arith, c.decreases, weight_out c.args.step.now, ap weights_of subs),
      (
        c.requires.hyps,
        (
          c.requires.added,
          (
            subst (GoalsWithin (length c.args.table.now)) (sym c.as_slice-2.ensures) within,
            subst (λ ss. IsTrue (list_all all_admissible ss)) (sym subs) (subs_admissible c.args.step.now c.requires.step),
          ),
        ),
      ),
    )

pub is_instance-returns-clause-instance : goal.is_instance-returns-clause-instance
is_instance-returns-clause-instance t c =
    let ts = c.args.table.now in
    let hyps = c.args.hyps.now in
    let stands = c.as_slice.ensures in
    let subs = c.as_slice-3.ensures in
    let goals = c.as_slice-2.ensures in
    let asked = sym (ap (option_map (map (goal_of ts))) c.in-Some.is) ∙ c.in_ok-goals.ensures.goals
    ∙ (λ j. step_goals (hyps_at ts hyps (stands j) c.args.base) (earlier_at ts (stands j) c.args.base) (out-Step c.args.step.now)) in
    ok_then c.all_derive.result c.all_derive.ensures.derive (λ b is.
    is
    ∙ (λ j. reached (facts_at ts hyps c.args.added.now) (subs j) (map (goal_of ts) (goals j)))
    ∙ instance_some c.args.step.now (hyps_at ts hyps c.args.added.now c.args.base) (earlier_at ts c.args.added.now c.args.base) (facts_at ts hyps c.args.added.now) (all_facts ts hyps c.args.added.now c.args.base) (map (goal_of ts) c.in-Some.goals) asked)

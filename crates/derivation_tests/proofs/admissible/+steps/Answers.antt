use Rattle.std.proofs.Common.{subst, ap, arith, IsTrue}
use Rattle.std.specs.List.{list_all}
use Rattle.bitvector_rules.specs.Steps.{all_admissible}
use Rattle.bitvector_rules.proofs.Weights.{weights, weights_of, weight_out}
use Rattle.derivation_tests.proofs.StepParts.{step_admissible}
use Rattle.derivation_tests.proofs.admissible.+steps.Goals as goal

pub is_admissible-returns-then-is_admissible_formula : goal.is_admissible-returns-then-is_admissible_formula
is_admissible-returns-then-is_admissible_formula t c h =
    step_admissible c.args.step.now (c.is_admissible_formula.ensures c.if-is_admissible_formula.true)
    (subst (λ subs. IsTrue (list_all all_admissible subs)) c.as_slice.ensures (c.subs_are_admissible.ensures h))

pub is_admissible-subs_are_admissible-requires : goal.is_admissible-subs_are_admissible-requires
is_admissible-subs_are_admissible-requires t c = (omega (arith, c.decreases, weight_out c.args.step.now, ap weights_of c.as_slice.ensures), tt)

pub subs_are_admissible-are_admissible-requires : goal.subs_are_admissible-are_admissible-requires
subs_are_admissible-are_admissible-requires t c = (omega (arith, c.decreases, ap weights_of c.in-Some.ensures.cases.0, ap weights c.as_slice.ensures), tt)

pub subs_are_admissible-subs_are_admissible-requires : goal.subs_are_admissible-subs_are_admissible-requires
subs_are_admissible-subs_are_admissible-requires t c = (omega (arith, c.decreases, ap weights_of c.in-Some.ensures.cases.0), tt)

pub are_admissible-is_admissible-requires : goal.are_admissible-is_admissible-requires
are_admissible-is_admissible-requires t c = (omega (arith, c.decreases, ap weights c.in-Some.ensures.cases.0), tt)

pub are_admissible-are_admissible-requires : goal.are_admissible-are_admissible-requires
are_admissible-are_admissible-requires t c = (omega (arith, c.decreases, ap weights c.in-Some.ensures.cases.0, weight_out c.in-Some.step.now), tt)

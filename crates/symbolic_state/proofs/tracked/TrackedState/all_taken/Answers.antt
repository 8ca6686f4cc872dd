use Rattle.std.proofs.Common.{◌+◌, sym, subst}
use Rattle.std.proofs.lemmas.Result.{err_from_is_err_and}
use Rattle.symbolic_state.specs.Refused.{refusal_of}
use Rattle.symbolic_state.proofs.Takes.{TakingTerms, terms-next, terms-stop}
use Rattle.symbolic_state.proofs.tracked.TrackedState.all_taken.Goals as goal

pub returns-in_err-taken-clause-taken : goal.returns-in_err-taken-clause-taken
returns-in_err-taken-clause-taken c =
    let p = err_from_is_err_and c.from_residual.result c.from_residual.ensures.1 in
    rw (p.1, p.2)
    (terms-stop c.args.self.now c.loop-term.self c.args.terms.now c.loop-term.term-index c.loop-term.taken c.loop-term.invariant c.term-item.result c.loop-term-test.true c.term-item.is (refusal_of c.in_err-taken.field-0.0) c.in_err-taken.ensures.taken)

pub loop-term-preserved : goal.loop-term-preserved
loop-term-preserved c =
    subst (TakingTerms c.args.self.now c.taken.new.self c.args.terms.now (c.loop-term.term-index + 1)) (sym c.in_ok-push.ensures.ok)
    (terms-next c.args.self.now c.loop-term.self c.args.terms.now c.loop-term.term-index c.loop-term.taken c.loop-term.invariant c.term-item.result c.loop-term-test.true c.term-item.is
    c.taken.new.self c.in_ok-taken.field-0 c.in_ok-taken.ensures.taken c.in_ok-taken.ensures.within c.in_ok-taken.ensures.state c.in_ok-taken.ensures.kept)

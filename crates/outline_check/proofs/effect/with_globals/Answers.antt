use Rattle.std.proofs.lemmas.Result.{err_from_is_err_and}
use Rattle.outline_check.proofs.StateLemmas.{made-few, with_globals-next, with_globals-refused}
use Rattle.outline_check.proofs.effect.with_globals.Goals as goal

pub returns-in_err-state : goal.returns-in_err-state
returns-in_err-state c =
    let p = err_from_is_err_and c.from_residual.result c.from_residual.ensures.1 in
    rw (p.1, p.2)
    (with_globals-refused c.loop-k._k c.args.globals c.loop-k.state c.in_err-state.field-0.0 c.loop-k.invariant.so_far
    c.loop-k-test.true c.in_err-state.ensures)

pub loop-k-preserved : goal.loop-k-preserved
loop-k-preserved c = record {
  so_far = with_globals-next c.loop-k._k c.loop-k.state c.in_ok-state.state c.loop-k.invariant.so_far c.in_ok-state.ensures;
  few = made-few _ _ c.in_ok-state.ensures;
}

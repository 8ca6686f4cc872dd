use Rattle.std.proofs.Common.{◌<◌, length, arith}
use Rattle.std.proofs.lemmas.Result.{err_from_is_err_and}
use Rattle.symbolic_state.specs.Refused.{refusal_of}
use Rattle.block_changes.specs.Seen.{changes_seen}
use Rattle.renewed_locals.proofs.Types.{locals-next, locals-stop}
use Rattle.renewed_locals.proofs.locals.renew_locals.Goals as goal

pub returns-in_err-renew_at-clause-done : goal.returns-in_err-renew_at-clause-done
returns-in_err-renew_at-clause-done c =
    let p = err_from_is_err_and c.from_residual.result c.from_residual.ensures.1 in
    let low : c.loop-k.k < length c.args.state.now.state.locals = omega arith in
    rw (p.1, p.2)
    (locals-stop c.args.state.now c.loop-k.state (changes_seen c.args.changes.now).locals c.loop-k.k c.loop-k.invariant low c.sets_local.result c.sets_local.ensures
    (refusal_of c.in_err-renew_at.field-0.0) c.in_err-renew_at.ensures.done)

pub loop-k-preserved : goal.loop-k-preserved
loop-k-preserved c =
    let low : c.loop-k.k < length c.args.state.now.state.locals = omega arith in
    locals-next c.args.state.now c.loop-k.state (changes_seen c.args.changes.now).locals c.loop-k.k c.loop-k.invariant low c.sets_local.result c.sets_local.ensures
    c.renew_at.new.state c.in_ok-renew_at.ensures.done c.in_ok-renew_at.ensures.types c.in_ok-renew_at.ensures.kept

use Rattle.std.proofs.lemmas.Result.{err_from_is_err_and}
use Rattle.symbolic_state.specs.Refused.{refusal_of}
use Rattle.symbolic_renewal.proofs.Assumed.{added-next, added-stop}
use Rattle.symbolic_renewal.proofs.assuming.assume_chunks.Goals as goal

pub returns-in_err-add_whole_chunk-clause-done : goal.returns-in_err-add_whole_chunk-clause-done
returns-in_err-add_whole_chunk-clause-done c =
    let p = err_from_is_err_and c.from_residual.result c.from_residual.ensures.1 in
    rw (p.1, p.2)
    (added-stop c.args.state.now c.loop-chunk.state c.args.chunks.now c.loop-chunk.chunk-index c.loop-chunk.invariant c.chunk-item.result c.loop-chunk-test.true c.chunk-item.is (refusal_of c.in_err-add_whole_chunk.field-0.0) c.in_err-add_whole_chunk.ensures.done)

pub loop-chunk-preserved : goal.loop-chunk-preserved
loop-chunk-preserved c =
    added-next c.args.state.now c.loop-chunk.state c.args.chunks.now c.loop-chunk.chunk-index c.loop-chunk.invariant c.chunk-item.result c.loop-chunk-test.true c.chunk-item.is
    c.add_whole_chunk.new.self c.in_ok-add_whole_chunk.ensures.done c.in_ok-add_whole_chunk.ensures.kept

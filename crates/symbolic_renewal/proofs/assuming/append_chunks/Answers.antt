use Rattle.std.proofs.lemmas.Result.{err_from_is_err_and}
use Rattle.symbolic_state.specs.Refused.{refusal_of}
use Rattle.symbolic_renewal.proofs.Assumed.{chunks-next, chunks-stop}
use Rattle.symbolic_renewal.proofs.assuming.append_chunks.Goals as goal

pub returns-in_err-add_chunk_of-clause-done : goal.returns-in_err-add_chunk_of-clause-done
returns-in_err-add_chunk_of-clause-done c =
    let p = err_from_is_err_and c.from_residual.result c.from_residual.ensures.1 in
    rw (p.1, p.2)
    (chunks-stop c.args.state.now c.loop-chunk.state c.args.terms.now c.args.chunks.now c.loop-chunk.chunk-index c.loop-chunk.invariant c.chunk-item.result c.loop-chunk-test.true c.chunk-item.is (refusal_of c.in_err-add_chunk_of.field-0.0) c.in_err-add_chunk_of.ensures.done)

pub loop-chunk-preserved : goal.loop-chunk-preserved
loop-chunk-preserved c =
    chunks-next c.args.state.now c.loop-chunk.state c.args.terms.now c.args.chunks.now c.loop-chunk.chunk-index c.loop-chunk.invariant c.chunk-item.result c.loop-chunk-test.true c.chunk-item.is
    c.add_chunk_of.new.self c.in_ok-add_chunk_of.ensures.done c.in_ok-add_chunk_of.ensures.kept

use Rattle.std.proofs.lemmas.Result.{err_from_is_err_and}
use Rattle.outline_rules.specs.Chunks.{replaced_chunk}
use Rattle.symbolic_state.specs.Assertions.{leaves_in}
use Rattle.symbolic_state.specs.Refused.{refusal_of}
use Rattle.symbolic_state.proofs.AssertionParts.{chunk-refused-by}
use Rattle.symbolic_state.proofs.tracked.TrackedState.add_chunk_of.Goals as goal

pub returns-in_err-made-clause-done : goal.returns-in_err-made-clause-done
returns-in_err-made-clause-done c =
    let p = err_from_is_err_and c.from_residual.result c.from_residual.ensures.1 in
    rw (p.1, p.2)
    (chunk-refused-by (replaced_chunk (leaves_in c.args.self.now c.args.terms.now) c.args.chunk.now) c.args.self.now.state (refusal_of c.in_err-made.field-0.0) c.in_err-made.ensures.put)

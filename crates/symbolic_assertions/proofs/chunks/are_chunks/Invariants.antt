use Rattle.std.proofs.Common.{[], map}
use Rattle.term_logic.specs.Leaves.{leaves_of}
use Rattle.outline_rules.specs.Chunks.{replaced_chunk}
use Rattle.outline_rules.specs.Entailment.{are_chunks}
use Rattle.symbolic_assertions.proofs.Using.{UsingSoFar}
use Rattle.symbolic_assertions.proofs.chunks.are_chunks.Given as goal

abbrev pub invariant-loop-i : goal.invariant-loop-i
invariant-loop-i l =
    let instance = replaced_chunk (leaves_of l.fn.state.terms l.fn.leaves) in
    UsingSoFar l.fn.state.state l.fn.numbers (are_chunks l.fn.state.state [] l.fn.numbers (map instance l.fn.chunks)) l.i (map instance l.rest)

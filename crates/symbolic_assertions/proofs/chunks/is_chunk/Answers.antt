use Rattle.std.proofs.Common.{◌≡◌, List, ap, subst, ◌∙◌}
use Rattle.term_trees.specs.declared.term.Term.{Term}
use Rattle.term_trees.specs.Same.{passes}
use Rattle.term_logic.specs.Leaves.{leaves_of}
use Rattle.heap_logic.specs.Heaps.{chunk_of}
use Rattle.outline_rules.specs.Chunks.{same_chunk, replaced_chunk}
use Rattle.symbolic_assertions.proofs.chunks.is_chunk.Goals as goal

pub returns-in-Some : goal.returns-in-Some
returns-in-Some c =
    subst (λ (ts : List Term). c.is_owned.result ≡ same_chunk (chunk_of ts c.in-Some.owned.now) (replaced_chunk (leaves_of ts c.args.leaves.now) c.args.chunk.now)) c.table.ensures c.is_owned.ensures
    ∙ ap (λ o. passes o (λ d. same_chunk d (replaced_chunk (leaves_of c.args.state.now.terms c.args.leaves.now) c.args.chunk.now))) c.in-Some.ensures.chunk

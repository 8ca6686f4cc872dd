use Rattle.std.proofs.Common.{rules, ap, ◌∙◌}
use Rattle.outline_rules.specs.States.{with_chunk}
use Rattle.heap_logic.specs.Heaps.{chunk_of}
use Rattle.symbolic_state.specs.States.{Tracked}
use Rattle.symbolic_state.proofs.Replacing.{chunk-replaced, chunk-state}
use Rattle.symbolic_state.proofs.tracked.TrackedState.replace_chunk.Goals as goal

pub invariant_of-self : goal.invariant_of-self
invariant_of-self c =
    chunk-replaced c.self.inside c.self.invariant c.args.k c.args.nodes c.requires.room c.args.chunk (search rules) c.requires.width c.put_chunk.new.chunks c.put_chunk.ensures (search rules)

pub returns-clause-state : goal.returns-clause-state
returns-clause-state c = λ j. record {
  terms = ap (λ (t : Tracked). t.terms) c.self.view_is j;
  state = (chunk-state c.self.inside c.self.invariant c.args.k c.args.nodes c.requires.room c.args.chunk (search rules) c.requires.width c.put_chunk.new.chunks c.put_chunk.ensures
      ∙ ap (λ (t : Tracked). with_chunk c.args.k (chunk_of t.terms c.args.chunk) t.state) c.self.view_is) j;
}

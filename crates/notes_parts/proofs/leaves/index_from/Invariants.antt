use Rattle.std.proofs.Common.{◌≡◌, drop}
use Rattle.notes_grammar.specs.Reading.{index_from}
use Rattle.notes_parts.proofs.leaves.index_from.Given as goal

abbrev pub invariant-loop-b : goal.invariant-loop-b
invariant-loop-b l = index_from l.n (drop l.b-index l.bytes) ≡ index_from l.first l.bytes

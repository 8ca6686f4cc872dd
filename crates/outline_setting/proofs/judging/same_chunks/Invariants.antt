use Rattle.std.proofs.Common.{◌≡◌, drop}
use Rattle.std.specs.Cmp.Lexicographic.{pointwise}
use Rattle.outline_rules.specs.Chunks.{same_chunk}
use Rattle.outline_setting.proofs.judging.same_chunks.Given as goal

abbrev pub invariant-loop-first : goal.invariant-loop-first
invariant-loop-first l = pointwise same_chunk l.a l.b ≡ pointwise same_chunk (drop l.first-index l.a) l.rest

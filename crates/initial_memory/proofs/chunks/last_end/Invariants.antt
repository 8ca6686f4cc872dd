use Rattle.std.proofs.Common.{◌≡◌, drop, Some}
use Rattle.outline_rules.specs.Initial.{last_end}
use Rattle.initial_memory.proofs.chunks.last_end.Given as goal

abbrev pub invariant-loop-chunk : goal.invariant-loop-chunk
invariant-loop-chunk l = last_end l.setting l.chunks (Some 0) ≡ last_end l.setting (drop l.chunk-index l.chunks) (Some l.from)

use Rattle.std.proofs.Common.{◌≡◌, drop}
use Rattle.outline_rules.specs.Tests.{reason_in, chunk_reason}
use Rattle.notes_tests.specs.words.Tests.{leaves_test}
use Rattle.notes_tests.proofs.reasons.chunks_reason.Given as goal

abbrev pub invariant-loop-chunk : goal.invariant-loop-chunk
invariant-loop-chunk l = reason_in (chunk_reason l.leaves.setting.now (leaves_test l.leaves)) l.chunks ≡ reason_in (chunk_reason l.leaves.setting.now (leaves_test l.leaves)) (drop l.chunk-index l.chunks)

use Rattle.std.proofs.Common.{length}
use Rattle.bitvector_rules.specs.Facts.{AllWithin}
use Rattle.derivation_tests.proofs.check.put_all.Given as goal

abbrev pub invariant-loop-f : goal.invariant-loop-f
invariant-loop-f l = AllWithin (length l.table) l.facts

use Rattle.std.proofs.Common.{◌≡◌, length}
use Rattle.first_reader.specs.ReadingLexemes.{drop_white}
use Rattle.first_reader.proofs.text.after_white.Given as goal

abbrev pub invariant-loop-rest : goal.invariant-loop-rest
invariant-loop-rest l = drop_white l.rest ≡ drop_white l.text

abbrev pub decreases-loop-rest : goal.decreases-loop-rest
decreases-loop-rest l = length l.rest

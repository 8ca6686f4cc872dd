use Rattle.std.proofs.Common.{arith}
use Rattle.first_reader.proofs.NumeralLaws.{too_great}
use Rattle.first_reader.proofs.numeral.digits_value.Goals as goal

pub returns-then-value-ge-LIMIT-clause-value : goal.returns-then-value-ge-LIMIT-clause-value
returns-then-value-ge-LIMIT-clause-value c = too_great c.args.digits.now c.loop-digit.value c.loop-digit.digit-index c.loop-digit-test.true c.loop-digit.invariant.worth (omega arith)

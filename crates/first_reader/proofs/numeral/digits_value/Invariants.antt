use Rattle.std.proofs.Common.{◌≡◌, ◌<◌, ◌^◌, drop}
use Rattle.std.specs.List.{list_all}
use Rattle.first_reader.specs.Lexemes.{is_digit, value_from}
use Rattle.first_reader.proofs.numeral.digits_value.Given as goal

abbrev pub invariant-loop-digit : goal.invariant-loop-digit
invariant-loop-digit l = record {
  digits : list_all is_digit (drop l.digit-index l.digits) ≡ list_all is_digit l.digits;
  worth : value_from l.value (drop l.digit-index l.digits) ≡ value_from 0 l.digits;
  below : l.value < 2 ^ 120;
}

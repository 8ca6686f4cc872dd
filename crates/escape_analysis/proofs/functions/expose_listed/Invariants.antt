use Rattle.std.proofs.Common.{◌≡◌, drop}
use Rattle.escape_analysis.specs.words.Changing.{changed_where, exposing, number_among}
use Rattle.escape_analysis.proofs.functions.expose_listed.Given as goal

abbrev pub invariant-loop-number : goal.invariant-loop-number
invariant-loop-number l =
    changed_where exposing (number_among (drop l.number-index l.numbers)) 0 l.marks ≡ changed_where exposing (number_among l.fn.numbers) 0 l.fn.marks

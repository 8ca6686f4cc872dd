use Rattle.std.proofs.Common.{◌≡◌, drop}
use Rattle.escape_analysis.specs.words.Changing.{changed_where, exposing, func_among}
use Rattle.escape_analysis.proofs.functions.expose_exported.Given as goal

abbrev pub invariant-loop-export : goal.invariant-loop-export
invariant-loop-export l =
    changed_where exposing (func_among (drop l.export-index l.exports)) 0 l.marks ≡ changed_where exposing (func_among l.fn.exports) 0 l.fn.marks

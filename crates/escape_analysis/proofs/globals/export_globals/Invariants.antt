use Rattle.std.proofs.Common.{◌≡◌, drop}
use Rattle.escape_analysis.specs.words.Changing.{changed_where, exporting, global_among}
use Rattle.escape_analysis.proofs.globals.export_globals.Given as goal

abbrev pub invariant-loop-export : goal.invariant-loop-export
invariant-loop-export l =
    changed_where exporting (global_among (drop l.export-index l.exports)) 0 l.globals
    ≡ changed_where exporting (global_among l.fn.exports) 0 l.fn.globals

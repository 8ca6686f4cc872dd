use Rattle.std.proofs.Common.{◌≡◌, drop}
use Rattle.escape_analysis.specs.words.Changing.{changed_where, exposing, named_among}
use Rattle.escape_analysis.proofs.functions.expose_elements.Given as goal

abbrev pub invariant-loop-elem : goal.invariant-loop-elem
invariant-loop-elem l =
    changed_where exposing (named_among (drop l.elem-index l.elems)) 0 l.marks ≡ changed_where exposing (named_among l.fn.elems) 0 l.fn.marks

use Rattle.std.proofs.Common.{◌≡◌, ◌++◌, take}
use Rattle.std.specs.List.{flat_map}
use Rattle.sexp_text.specs.words.Parts.{spaced}
use Rattle.sexp_text.proofs.print.+printing.Given as goal

abbrev pub invariant-print_parts-loop-part : goal.invariant-print_parts-loop-part
invariant-print_parts-loop-part l = l.out ≡ l.initial.out ++ flat_map spaced (take l.part-index l.rest)

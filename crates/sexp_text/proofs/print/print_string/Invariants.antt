use Rattle.std.proofs.Common.{◌≡◌, ◌++◌, take}
use Rattle.std.specs.List.{flat_map}
use Rattle.sexp_text.specs.Spelling.{string_byte}
use Rattle.sexp_text.proofs.print.print_string.Given as goal

abbrev pub invariant-loop-b : goal.invariant-loop-b
invariant-loop-b l = l.out ≡ l.initial.out ++ flat_map string_byte (take l.b-index l.bytes)

use Rattle.std.proofs.Common.{◌≡◌, drop}
use Rattle.first_reader.specs.ReadingNotes.{left_after_all}
use Rattle.first_reader.proofs.notes.left_after_all.Given as goal

abbrev pub invariant-loop-func : goal.invariant-loop-func
invariant-loop-func l = left_after_all l.left (drop l.func-index l.funcs) ≡ left_after_all l.fn.left l.funcs

use Rattle.std.proofs.Common.{◌≡◌, map, drop}
use Rattle.notes.specs.declared.outline.FuncNotes.{FuncNotes}
use Rattle.outline_rules.specs.Tests.{rise_within}
use Rattle.notes_tests.proofs.numbers.funcs_rise.Given as goal

abbrev pub invariant-loop-notes : goal.invariant-loop-notes
invariant-loop-notes l = rise_within l.fn.low l.high (map (λ (n : FuncNotes). n.func) l.funcs) ≡ rise_within l.least l.high (map (λ (n : FuncNotes). n.func) (drop l.notes-index l.funcs))

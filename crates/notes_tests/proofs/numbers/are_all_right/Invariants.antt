use Rattle.std.proofs.Common.{◌≡◌, drop}
use Rattle.std.specs.List.{list_all}
use Rattle.outline_rules.specs.Tests.{are_numbers_right}
use Rattle.notes_tests.proofs.numbers.are_all_right.Given as goal

abbrev pub invariant-loop-notes : goal.invariant-loop-notes
invariant-loop-notes l = list_all (are_numbers_right l.setting) l.funcs ≡ list_all (are_numbers_right l.setting) (drop l.notes-index l.funcs)

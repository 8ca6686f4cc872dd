use Rattle.std.proofs.Common.{◌≡◌, ◌++◌, take}
use Rattle.module_listing.specs.Instructions.{numbers_text}
use Rattle.module_listing.proofs.instrs.write_all.Given as goal

abbrev pub invariant-loop-number : goal.invariant-loop-number
invariant-loop-number l = l.out ≡ l.initial.out ++ numbers_text (take l.number-index l.numbers)

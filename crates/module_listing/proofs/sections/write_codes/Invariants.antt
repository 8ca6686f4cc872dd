use Rattle.std.proofs.Common.{◌≡◌, ◌++◌, take}
use Rattle.module_listing.specs.Listing.{code_text}
use Rattle.module_listing.proofs.sections.write_codes.Given as goal

abbrev pub invariant-loop-i : goal.invariant-loop-i
invariant-loop-i l = l.out ≡ l.initial.out ++ code_text l.first (take l.i l.places) (take l.i l.«module».funcs)

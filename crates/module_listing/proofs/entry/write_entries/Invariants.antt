use Rattle.std.proofs.Common.{◌≡◌, ◌++◌, take}
use Rattle.module_listing.specs.Listing.{entries_text}
use Rattle.module_listing.proofs.entry.write_entries.Given as goal

abbrev pub invariant-loop-i : goal.invariant-loop-i
invariant-loop-i g l = l.out ≡ l.initial.out ++ entries_text l.word g.T.Entry.text l.first (take l.i l.entries)

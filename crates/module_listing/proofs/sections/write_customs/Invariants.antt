use Rattle.std.proofs.Common.{◌≡◌, ◌++◌, take}
use Rattle.std.specs.List.{flat_map}
use Rattle.module_listing.specs.Listing.{custom_line}
use Rattle.module_listing.proofs.sections.write_customs.Given as goal

abbrev pub invariant-loop-custom : goal.invariant-loop-custom
invariant-loop-custom l = l.out ≡ l.initial.out ++ flat_map custom_line (take l.custom-index l.customs)

use Rattle.std.proofs.Common.{◌≡◌, ◌++◌, map, take}
use Rattle.std.specs.Prelude.{slice_index}
use Rattle.module_instances.proofs.instances.add_addresses.Given as goal

abbrev pub invariant-loop-number : goal.invariant-loop-number
invariant-loop-number l = l.elems ≡ l.initial.elems ++ map (slice_index l.funcs) (take l.number-index l.numbers)

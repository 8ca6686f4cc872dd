use Rattle.std.proofs.Common.{◌≡◌, None, replicate}
use Rattle.module_instances.proofs.parts.make_table.Given as goal

abbrev pub invariant-entries : goal.invariant-entries
invariant-entries l = l.entries ≡ replicate l.counter None

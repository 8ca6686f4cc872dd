use Rattle.std.proofs.Common.{◌≡◌, map, take}
use Rattle.wasm_sessions.specs.Instantiation.{made_table}
use Rattle.module_instances.proofs.parts.make_tables.Given as goal

abbrev pub invariant-loop-limits : goal.invariant-loop-limits
invariant-loop-limits l = l.made ≡ map made_table (take l.limits-index l.«module».tables)

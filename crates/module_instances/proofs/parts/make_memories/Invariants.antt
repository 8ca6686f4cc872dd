use Rattle.std.proofs.Common.{◌≡◌, map, take}
use Rattle.wasm_sessions.specs.Instantiation.{made_memory}
use Rattle.module_instances.proofs.parts.make_memories.Given as goal

abbrev pub invariant-loop-limits : goal.invariant-loop-limits
invariant-loop-limits l = l.made ≡ map made_memory (take l.limits-index l.«module».memories)

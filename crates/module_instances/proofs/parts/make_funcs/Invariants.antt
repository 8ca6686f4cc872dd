use Rattle.std.proofs.Common.{◌≡◌, map, take}
use Rattle.std.specs.List.{enumerate_from}
use Rattle.wasm_sessions.specs.Instantiation.{made_func}
use Rattle.module_instances.proofs.parts.make_funcs.Given as goal

abbrev pub invariant-loop-k : goal.invariant-loop-k
invariant-loop-k l = l.made ≡ map (made_func l.«module» l.instance) (enumerate_from 0 (take l.k l.«module».funcs))

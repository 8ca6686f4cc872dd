use Rattle.std.proofs.Common.{◌≡◌, min, sum_by, take}
use Rattle.wasm_syntax.specs.declared.module.Limits.{Limits}
use Rattle.module_instances.proofs.limits.sizes_in.Given as goal

abbrev pub invariant-loop-limits : goal.invariant-loop-limits
invariant-loop-limits l = l.sizes ≡ min (sum_by (λ (x : Limits). x.min) (take l.limits-index l.all)) 18446744073709551615

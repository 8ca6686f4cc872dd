use Rattle.std.proofs.Common.{◌≡◌, map, take}
use Rattle.std.specs.Prelude.{slice_index}
use Rattle.std.specs.List.{flat_map}
use Rattle.wasm_syntax.specs.declared.module.Elem.{Elem}
use Rattle.module_instances.proofs.instances.make_elems.Given as goal

abbrev pub invariant-loop-elem : goal.invariant-loop-elem
invariant-loop-elem l = l.made ≡ flat_map (λ (e : Elem). map (slice_index l.funcs) e.funcs) (take l.elem-index l.«module».elems)

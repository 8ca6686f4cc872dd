use Rattle.std.proofs.Common.{◌≡◌, drop, None, flat_map}
use Rattle.wasm_syntax.specs.declared.module.Elem.{Elem}
use Rattle.outline_setting.specs.words.Judging.{judged_walk}
use Rattle.outline_setting.proofs.judging.judged_segments.Given as goal

abbrev pub invariant-loop-elem : goal.invariant-loop-elem
invariant-loop-elem l =
    judged_walk l.setting l.ty None (flat_map (λ (e : Elem). e.funcs) l.elems)
    ≡ judged_walk l.setting l.ty l.known (flat_map (λ (e : Elem). e.funcs) (drop l.elem-index l.elems))

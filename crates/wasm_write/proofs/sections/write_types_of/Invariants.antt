use Rattle.std.proofs.Common.{◌≡◌, ◌++◌, take}
use Rattle.std.specs.List.{flat_map}
use Rattle.wasm_write.specs.Encoding.{type_text}
use Rattle.wasm_write.proofs.sections.write_types_of.Given as goal

abbrev pub invariant-loop-func : goal.invariant-loop-func
invariant-loop-func l = l.out ≡ l.initial.out ++ flat_map type_text (take l.func-index l.funcs)

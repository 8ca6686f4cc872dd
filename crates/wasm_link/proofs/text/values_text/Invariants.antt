use Rattle.std.proofs.Common.{◌≡◌, ◌++◌, take}
use Rattle.std.specs.Prelude.{codes}
use Rattle.std.specs.List.{flat_map}
use Rattle.wasm_link.specs.Lines.{value_text}
use Rattle.wasm_link.proofs.text.values_text.Given as goal

abbrev pub invariant-loop-value : goal.invariant-loop-value
invariant-loop-value l = l.text.items ≡ codes "values" ++ flat_map value_text (take l.value-index l.values)

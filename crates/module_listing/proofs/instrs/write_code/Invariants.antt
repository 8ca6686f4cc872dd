use Rattle.std.proofs.Common.{◌≡◌, ◌++◌, take}
use Rattle.wasm_syntax.specs.FlatForm.{flat_body}
use Rattle.module_listing.specs.Instructions.{items_text}
use Rattle.module_listing.proofs.instrs.write_code.Given as goal

abbrev pub invariant-loop-i : goal.invariant-loop-i
invariant-loop-i l = l.out ≡ l.initial.out ++ items_text (take l.i l.places) (take l.i (flat_body l.code))

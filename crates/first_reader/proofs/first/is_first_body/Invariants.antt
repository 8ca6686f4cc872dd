use Rattle.std.proofs.Common.{◌≡◌, drop}
use Rattle.std.specs.List.{list_all}
use Rattle.wasm_syntax.specs.FlatForm.{flat}
use Rattle.first_reader.specs.FirstTests.{is_first_item}
use Rattle.first_reader.proofs.first.is_first_body.Given as goal

abbrev pub invariant-loop-i : goal.invariant-loop-i
invariant-loop-i l = list_all is_first_item (drop l.i (flat l.code)) ≡ list_all is_first_item (flat l.code)

use Rattle.std.proofs.Common.{◌≡◌, ◌+◌, ◌-◌, ◌<◌, length}
use Rattle.wasm_syntax.specs.FlatForm.{flat_body}
use Rattle.wasm_syntax.specs.Places.{size_of_all, rest_at}
use Rattle.block_changes.proofs.part.end_of_part.Given as goal

abbrev pub invariant-loop-next : goal.invariant-loop-next
invariant-loop-next l = record {
  within : l.place < length (flat_body l.code);
  same_end : l.place + size_of_all (rest_at l.code l.place) ≡ l.from + size_of_all (rest_at l.code l.from);
}

abbrev pub decreases-loop-next : goal.decreases-loop-next
decreases-loop-next l = length (flat_body l.code) - l.place

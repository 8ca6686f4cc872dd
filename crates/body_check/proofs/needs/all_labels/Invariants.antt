use Rattle.std.proofs.Common.{◌≡◌, true, take, slice_get}
use Rattle.std.specs.List.{list_all}
use Rattle.wasm_typing.specs.Typing.{types_of}
use Rattle.wasm_typing.specs.faults.Faults.{is_label_of}
use Rattle.body_check.specs.words.Steps.{labels_in}
use Rattle.body_check.proofs.needs.all_labels.Given as goal

abbrev pub invariant-loop-l : goal.invariant-loop-l
invariant-loop-l l = list_all (λ k. is_label_of (slice_get (labels_in l.labels) k) (types_of l.wanted)) (take l.l-index l.targets) ≡ true

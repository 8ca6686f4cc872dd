use Rattle.std.proofs.Common.{◌≡◌, take}
use Rattle.wasm_syntax.proofs.seen.kept_labels.Given as goal

abbrev pub invariant-loop-label : goal.invariant-loop-label
invariant-loop-label l = l.kept ≡ take l.label-index l.labels

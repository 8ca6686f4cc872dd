use Rattle.std.proofs.Common.{sym, ap, ◌∙◌, ◌++◌, drop, List, ℕ}
use Rattle.initial_memory.proofs.Writes.{overlaid_count}
use Rattle.initial_memory.proofs.bytes.overlay.Goals as goal

pub returns : goal.returns
returns c =
    ap (λ (xs : List ℕ). xs ++ drop c.min-count.result c.args.window.now) c.copy_from_slice.ensures.after
    ∙ sym (overlaid_count c.min-count.result c.args.bytes.now c.args.window.now c.min-count.ensures)

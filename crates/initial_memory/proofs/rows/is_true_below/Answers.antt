use Rattle.std.proofs.Common.{◌≡◌, ap, ◌∙◌, ◌*◌, arith, length, List, ℕ}
use Rattle.initial_memory.proofs.Cells.{length-bytes}
use Rattle.initial_memory.proofs.rows.is_true_below.Goals as goal

pub are_true-requires-clause-within : goal.are_true-requires-clause-within
are_true-requires-clause-within c =
    let many : length c.as_slice.result.now ≡ c.args.count * c.args.width =
    ap (λ (xs : List ℕ). length xs) (c.as_slice.ensures.value ∙ c.in_ok-bytes.ensures) ∙ length-bytes c.args.setting.now c.args.at (c.args.count * c.args.width)
    in omega (arith, many)

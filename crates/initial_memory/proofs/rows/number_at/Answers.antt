use Rattle.std.proofs.Common.{◌≡◌, ap, ◌∙◌, arith, length, List, ℕ}
use Rattle.initial_memory.proofs.Cells.{length-bytes}
use Rattle.initial_memory.proofs.rows.number_at.Goals as goal

pub load_le-requires : goal.load_le-requires
load_le-requires c =
    let many : length c.as_slice.result.now ≡ c.args.width =
    ap (λ (xs : List ℕ). length xs) (c.as_slice.ensures.value ∙ c.in_ok-bytes.ensures) ∙ length-bytes c.args.setting.now c.args.at c.args.width
    in omega (arith, many, c.requires.few)

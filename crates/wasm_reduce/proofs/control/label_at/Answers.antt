use Rattle.std.proofs.Common.{◌+◌, drop, reverse}
use Rattle.wasm_reduce.proofs.Stacks.{drop-reverse}
use Rattle.wasm_reduce.proofs.control.label_at.Goals as goal

pub returns : goal.returns
returns c =
    (drop (c.args.k + 1) (reverse c.args.labels.now), drop-reverse c.args.labels.now c.args.k _ c.requires)

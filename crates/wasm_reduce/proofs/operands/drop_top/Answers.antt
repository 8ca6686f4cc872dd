use Rattle.std.proofs.Common.{◌-◌, take, reverse, ap, ◌∙◌}
use Rattle.wasm_reduce.proofs.Stacks.{reverse-lower}
use Rattle.wasm_reduce.proofs.operands.drop_top.Goals as goal

pub returns : goal.returns
returns c =
    let xs = c.args.operands.now in
    ap reverse c.truncate.ensures
    ∙ ap (λ n. reverse (take (n - c.args.count) xs)) c.len.ensures
    ∙ reverse-lower xs c.args.count c.requires

use Rattle.std.proofs.Common.{◌-◌, set, reverse, ap, ◌∙◌}
use Rattle.wasm_reduce.proofs.Stacks.{reverse-set_last}
use Rattle.wasm_reduce.proofs.operands.set_top.Goals as goal

pub returns : goal.returns
returns c = λ w rest h.
    let items = c.args.operands.now in
    ap reverse c.set.ensures
    ∙ ap (λ n. reverse (set items (n - 1) c.args.value)) c.len-last.ensures
    ∙ reverse-set_last items rest w c.args.value h

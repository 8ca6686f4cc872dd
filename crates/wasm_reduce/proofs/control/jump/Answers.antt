use Rattle.std.proofs.Common.{arith}
use Rattle.std.proofs.lemmas.Grind.{common_steps}
use Rattle.wasm_reduce.proofs.Stacks.{drop_next}
use Rattle.wasm_reduce.proofs.control.jump.Goals as goal

pub returns-in-None-clause-jumped : goal.returns-in-None-clause-jumped
returns-in-None-clause-jumped c = λ l outer h code.
    let rest = drop_next _ outer l c.args.k h in
    grind (arith, common_steps)

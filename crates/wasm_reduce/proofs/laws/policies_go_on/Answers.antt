use Rattle.type_safety.proofs.Progressing.{progress}
use Rattle.wasm_reduce.proofs.Choices.{policy_has_step}
use Rattle.wasm_reduce.proofs.laws.policies_go_on.Goals as goal

pub returns : goal.returns
returns r = λ policy c typed running top.
    let d = progress c typed running top in policy_has_step policy c d.0 d.1

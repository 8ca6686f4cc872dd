use Rattle.wasm_seal.proofs.ModuleLaws.{seal_splits, seal_spells}
use Rattle.wasm_seal.proofs.laws.sealed_files.Goals as goal

pub returns : goal.returns
returns c =
    let spelled = c.numbers_are_spelled.ensures.number in
    record { split = seal_splits spelled; spelled = seal_spells spelled }

use Rattle.wasm_seal.proofs.DecideLaws.{split_decided}
use Rattle.wasm_seal.proofs.laws.split_or_none.Goals as goal

pub returns : goal.returns
returns c = split_decided

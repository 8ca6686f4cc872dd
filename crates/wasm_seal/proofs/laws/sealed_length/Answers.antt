use Rattle.wasm_seal.proofs.LengthLaws.{few_bytes}
use Rattle.wasm_seal.proofs.laws.sealed_length.Goals as goal

pub returns : goal.returns
returns c = few_bytes c.texts_are_shortest.ensures.number

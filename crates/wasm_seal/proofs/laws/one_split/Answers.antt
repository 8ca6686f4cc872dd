use Rattle.wasm_seal.proofs.NotesLaws as notes
use Rattle.wasm_seal.proofs.laws.one_split.Goals as goal

pub returns : goal.returns
returns c = notes.one_split

use Rattle.wasm_write.proofs.ModuleTexts.{spells_encoded, reads_encoded}
use Rattle.wasm_write.proofs.laws.modules_are_spelled.Goals as goal

pub returns : goal.returns
returns c = record { spelled = spells_encoded; read = reads_encoded }

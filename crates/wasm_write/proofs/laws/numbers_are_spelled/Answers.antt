use Rattle.wasm_write.proofs.NumberTexts.{spells_number, spells_word32, spells_word64}
use Rattle.wasm_write.proofs.laws.numbers_are_spelled.Goals as goal

pub returns : goal.returns
returns c = record { number = spells_number; word32 = spells_word32; word64 = spells_word64 }

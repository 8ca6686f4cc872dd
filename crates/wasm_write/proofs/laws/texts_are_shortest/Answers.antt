use Rattle.wasm_write.proofs.ShortestLaws.{shortest_number, shortest_word32, shortest_word64, fewest_runs}
use Rattle.wasm_write.proofs.laws.texts_are_shortest.Goals as goal

pub returns : goal.returns
returns c = record { number = shortest_number; word32 = shortest_word32; word64 = shortest_word64; runs = fewest_runs }

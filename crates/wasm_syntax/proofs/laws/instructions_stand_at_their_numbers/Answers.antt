use Rattle.wasm_syntax.proofs.NextLaws.{rest_at-zero}
use Rattle.wasm_syntax.proofs.NumberLaws.{length-flat_body, InstructionAt-rest_at, StopsAt-rest_at}
use Rattle.wasm_syntax.proofs.laws.instructions_stand_at_their_numbers.Goals as goal

pub returns : goal.returns
returns c = record {
  whole = rest_at-zero;
  count = length-flat_body;
  instruction = InstructionAt-rest_at;
  stop = StopsAt-rest_at;
}

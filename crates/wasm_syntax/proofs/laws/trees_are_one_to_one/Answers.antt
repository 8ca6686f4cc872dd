use Rattle.wasm_syntax.proofs.TreeLaws.{instr_from-instruction_of, instruction_of-instr_from, instrs_from-sequence_of, sequence_of-instrs_from}
use Rattle.wasm_syntax.proofs.laws.trees_are_one_to_one.Goals as goal

pub returns : goal.returns
returns c = record {
  instruction = instr_from-instruction_of;
  instruction_back = instruction_of-instr_from;
  sequence = instrs_from-sequence_of;
  sequence_back = sequence_of-instrs_from;
}

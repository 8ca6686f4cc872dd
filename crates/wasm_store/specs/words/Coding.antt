-- How trees are stored: as the instructions that have them.
use Rattle.std.specs.Prelude.{List}
use Rattle.std.specs.Coded.{Coded, code_by, coded_list}
use Rattle.wasm_syntax.specs.declared.instr.Instr.{Instr}
use Rattle.wasm_syntax.specs.contracts.instr.Instr as of_instr
use Rattle.wasm_syntax.specs.Trees.{Sequence, sequence_of, instrs_from}
use Rattle.wasm_syntax.proofs.TreeLaws.{sequence_of-instrs_from}

-- The code of a sequence.
abbrev pub sequence_code : Coded Sequence
sequence_code = code_by (List Instr) (coded_list of_instr.the_row.coded) instrs_from sequence_of sequence_of-instrs_from

-- Kinds of instructions, by what the machine's parts do with them. These words are the project's own.
use Rattle.std.specs.Prelude.{Bool, true, false}
use Rattle.wasm_syntax.specs.declared.instr.Instr.{Instr}
use Rattle.wasm_syntax.specs.declared.instr.Instr.TheVariants as instr

-- The instruction writes to no global, table or memory: it works on its frame's operands, locals and labels, or leaves its
-- frame, or enters one. Blocks are not among these, nor instructions without immediates, but for the numeric operators.
abbrev pub only_reads : Instr → Bool
only_reads (instr.Num op) = true
only_reads (instr.Const value) = true
only_reads (instr.LocalGet x) = true
only_reads (instr.LocalSet x) = true
only_reads (instr.LocalTee x) = true
only_reads (instr.GlobalGet x) = true
only_reads (instr.Load op align offset) = true
only_reads (instr.Br k) = true
only_reads (instr.BrIf k) = true
only_reads (instr.BrTable ks k) = true
only_reads (instr.Call x) = true
only_reads (instr.CallIndirect x) = true
only_reads _ = false

-- The instruction works on locals, or reads a global (Core Specification, section 2.4.3).
abbrev pub is_variable : Instr → Bool
is_variable (instr.LocalGet x) = true
is_variable (instr.LocalSet x) = true
is_variable (instr.LocalTee x) = true
is_variable (instr.GlobalGet x) = true
is_variable _ = false

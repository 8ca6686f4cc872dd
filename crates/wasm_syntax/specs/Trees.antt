-- Instructions and their sequences as trees, for all definitions that recurse on them (Core Specification, section 2.4).
use Rattle.std.specs.Prelude.{ℕ, List, [], ◌∷◌, Option, Some, None}
use Rattle.wasm_values.specs.declared.number.NumOp.{NumOp}
use Rattle.wasm_values.specs.declared.number.Val.{Val}
use Rattle.wasm_values.specs.declared.number.ValType.{ValType}
use Rattle.wasm_syntax.specs.declared.instr.Plain as plain
use Rattle.wasm_syntax.specs.declared.instr.LoadOp.{LoadOp}
use Rattle.wasm_syntax.specs.declared.instr.StoreOp.{StoreOp}
use Rattle.wasm_syntax.specs.declared.instr.Instr as source
use Rattle.wasm_syntax.specs.declared.instr.Instr.TheVariants as instr

mutual
  -- One instruction with the sequences in it. An `if` without `else` is `If`, one with `else` is `IfElse`; the numbers
  -- of a load or store are the alignment exponent and the offset (sections 2.4.1 to 2.4.5).
  pub data Instruction : Type 0 where
    Plain : plain.Plain → Instruction
    Num : NumOp → Instruction
    Const : Val → Instruction
    LocalGet : ℕ → Instruction
    LocalSet : ℕ → Instruction
    LocalTee : ℕ → Instruction
    GlobalGet : ℕ → Instruction
    GlobalSet : ℕ → Instruction
    Load : LoadOp → (align offset : ℕ) → Instruction
    Store : StoreOp → (align offset : ℕ) → Instruction
    Block : Option ValType → (body : Sequence) → Instruction
    Loop : Option ValType → (body : Sequence) → Instruction
    If : Option ValType → (first : Sequence) → Instruction
    IfElse : Option ValType → (first second : Sequence) → Instruction
    Br : ℕ → Instruction
    BrIf : ℕ → Instruction
    BrTable : List ℕ → ℕ → Instruction
    Call : ℕ → Instruction
    CallIndirect : ℕ → Instruction

  -- Instructions that run one after another (section 2.4.6).
  pub data Sequence : Type 0 where
    Empty : Sequence
    Then : (first : Instruction) → (rest : Sequence) → Sequence

abbrev mutual
  -- The tree of an instruction of the program.
  pub instruction_of : source.Instr → Instruction
  instruction_of (source.Plain op) = Plain op
  instruction_of (source.Num op) = Num op
  instruction_of (source.Const value) = Const value
  instruction_of (source.LocalGet x) = LocalGet x
  instruction_of (source.LocalSet x) = LocalSet x
  instruction_of (source.LocalTee x) = LocalTee x
  instruction_of (source.GlobalGet x) = GlobalGet x
  instruction_of (source.GlobalSet x) = GlobalSet x
  instruction_of (source.Load op align offset) = Load op align offset
  instruction_of (source.Store op align offset) = Store op align offset
  instruction_of (source.Block' ty n body) = Block ty (sequence_in body)
  instruction_of (source.Loop' ty n body) = Loop ty (sequence_in body)
  instruction_of (source.If' ty n first other) = if_in ty (sequence_in first) other
  instruction_of (source.Br l) = Br l
  instruction_of (source.BrIf l) = BrIf l
  instruction_of (source.BrTable ls l) = BrTable ls l
  instruction_of (source.Call f) = Call f
  instruction_of (source.CallIndirect t) = CallIndirect t

  -- The tree of a list of instructions that is kept in an instruction.
  pub sequence_in : {n : _} → source.Row_of-Instr n → Sequence
  sequence_in source.end_of-Instr = Empty
  sequence_in (source.more_of-Instr i is) = Then (instruction_of i) (sequence_in is)

  -- The tree of an `if`, by its second side where it has one.
  pub if_in : Option ValType → Sequence → source.Held-Instr-If-2 → Instruction
  if_in ty first source.None' = If ty first
  if_in ty first (source.Some' n other) = IfElse ty first (sequence_in other)

-- The tree of a list of instructions of the program.
abbrev pub sequence_of : List source.Instr → Sequence
sequence_of [] = Empty
sequence_of (i ∷ is) = Then (instruction_of i) (sequence_of is)

abbrev mutual
  -- The instruction that has this tree.
  pub instr_from : Instruction → source.Instr
  instr_from (Plain op) = instr.Plain op
  instr_from (Num op) = instr.Num op
  instr_from (Const value) = instr.Const value
  instr_from (LocalGet x) = instr.LocalGet x
  instr_from (LocalSet x) = instr.LocalSet x
  instr_from (LocalTee x) = instr.LocalTee x
  instr_from (GlobalGet x) = instr.GlobalGet x
  instr_from (GlobalSet x) = instr.GlobalSet x
  instr_from (Load op align offset) = instr.Load op align offset
  instr_from (Store op align offset) = instr.Store op align offset
  instr_from (Block ty body) = instr.Block ty (instrs_from body)
  instr_from (Loop ty body) = instr.Loop ty (instrs_from body)
  instr_from (If ty first) = instr.If ty (instrs_from first) None
  instr_from (IfElse ty first second) = instr.If ty (instrs_from first) (Some (instrs_from second))
  instr_from (Br l) = instr.Br l
  instr_from (BrIf l) = instr.BrIf l
  instr_from (BrTable ls l) = instr.BrTable ls l
  instr_from (Call f) = instr.Call f
  instr_from (CallIndirect t) = instr.CallIndirect t

  -- The list of instructions that has this tree.
  pub instrs_from : Sequence → List source.Instr
  instrs_from Empty = []
  instrs_from (Then i is) = instr_from i ∷ instrs_from is

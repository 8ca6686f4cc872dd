-- The typing of instructions and their sequences (Core Specification, sections 3.1 and 3.3). Types of operands stand with
-- the topmost first.
use Rattle.std.specs.Prelude.{◌≡◌, ◌==◌, ◌^◌, ◌<◌, ◌≤◌, if◌then◌else◌, List, [], ◌∷◌, ◌++◌, length, reverse, slice_get, Option, Some, None, All, true}
use Rattle.wasm_values.specs.declared.number.NumOp.{NumOp}
use Rattle.wasm_values.specs.declared.number.ValType.{ValType}
use Rattle.wasm_values.specs.declared.number.ValType.TheVariants.{I32}
use Rattle.wasm_values.specs.Operators.{type_of, num_operands, operand_type, result_type}
use Rattle.wasm_syntax.specs.declared.instr.Plain.{Plain}
use Rattle.wasm_syntax.specs.declared.instr.Plain.TheVariants.{Unreachable, Nop, Return, Drop, Select, MemorySize, MemoryGrow}
use Rattle.wasm_syntax.specs.Accesses.{bytes_loaded, bytes_stored, loaded_type, stored_type}
use Rattle.wasm_syntax.specs.declared.module.FuncType.{FuncType}
use Rattle.wasm_syntax.specs.declared.module.GlobalType.{GlobalType}
use Rattle.wasm_syntax.specs.declared.module.Limits.{Limits}
use Rattle.wasm_syntax.specs.Trees as tree
use Rattle.wasm_syntax.specs.Trees.{Instruction, Sequence, Empty, Then, IfElse}

-- Types of operands, the topmost first.
abbrev pub Types : Type 0
Types = List ValType

-- What code may name, and the results that it owes: types, functions, tables, memories and globals by their numbers,
-- imports first, and the locals, parameters first (section 3.1.1). The results stand with the topmost first. The types of
-- labels, the innermost first, stand beside this, since they alone change within a body.
pub record Context : Type 0 where
  pub types : List FuncType
  pub funcs : List FuncType
  pub tables : List Limits
  pub memories : List Limits
  pub globals : List GlobalType
  pub locals : List ValType
  pub results : Types

-- The types of a block's results (section 2.3.2, result types; at most one in version 1.0).
abbrev pub types_of : Option ValType → Types
types_of None = []
types_of (Some t) = t ∷ []

-- The types of a numeric instruction's operands (section 3.3.1).
abbrev pub num_takes : NumOp → Types
num_takes op = if num_operands op == 1 then operand_type op ∷ [] else (operand_type op ∷ operand_type op ∷ [])

-- Operands of the types `takes` become operands of the types `gives`, over any operands below (section 3.3.6, the rule
-- for the last instruction of a sequence).
abbrev pub Turns : (takes gives ins outs : Types) → Type 0
Turns takes gives ins outs = (below : Types) × (ins ≡ takes ++ below) × (outs ≡ gives ++ below)

-- Operands of the types `takes` are on top, over any operands below.
abbrev pub Takes : (takes ins : Types) → Type 0
Takes takes ins = (below : Types) × (ins ≡ takes ++ below)

-- An instruction without immediates that is no numeric operator takes operands of the types `ins` and leaves operands of
-- the types `outs` (sections 3.3.2, 3.3.4 and 3.3.5). What follows `unreachable` and `return` may find any operands.
abbrev pub PlainTyped : Context → Plain → (ins outs : Types) → Type 0
PlainTyped c Unreachable ins outs = Unit {0}
PlainTyped c Nop ins outs = Turns [] [] ins outs
PlainTyped c Return ins outs = Takes c.results ins
PlainTyped c Drop ins outs = (t : ValType) × Turns (t ∷ []) [] ins outs
PlainTyped c Select ins outs = (t : ValType) × Turns (I32 ∷ t ∷ t ∷ []) (t ∷ []) ins outs
PlainTyped c MemorySize ins outs = (0 < length c.memories) × Turns [] (I32 ∷ []) ins outs
PlainTyped c MemoryGrow ins outs = (0 < length c.memories) × Turns (I32 ∷ []) (I32 ∷ []) ins outs

abbrev mutual
  -- An instruction is valid under labels of these types, the innermost first, and takes operands of the types `ins` and
  -- leaves operands of the types `outs`: all operands, also those below that it leaves alone (sections 3.3.1 to 3.3.5).
  -- What follows `br` and `br_table` may find any operands.
  pub InstructionTyped : Context → (labels : List Types) → Instruction → (ins outs : Types) → Type 0
  InstructionTyped c labels (tree.Plain op) ins outs = PlainTyped c op ins outs
  InstructionTyped c labels (tree.Num op) ins outs = Turns (num_takes op) (result_type op ∷ []) ins outs
  InstructionTyped c labels (tree.Const value) ins outs = Turns [] (type_of value ∷ []) ins outs
  InstructionTyped c labels (tree.LocalGet x) ins outs =
      (t : ValType) × (slice_get c.locals x ≡ Some t) × Turns [] (t ∷ []) ins outs
  InstructionTyped c labels (tree.LocalSet x) ins outs =
      (t : ValType) × (slice_get c.locals x ≡ Some t) × Turns (t ∷ []) [] ins outs
  InstructionTyped c labels (tree.LocalTee x) ins outs =
      (t : ValType) × (slice_get c.locals x ≡ Some t) × Turns (t ∷ []) (t ∷ []) ins outs
  InstructionTyped c labels (tree.GlobalGet x) ins outs =
      (g : GlobalType) × (slice_get c.globals x ≡ Some g) × Turns [] (g.value ∷ []) ins outs
  InstructionTyped c labels (tree.GlobalSet x) ins outs =
      (g : GlobalType) × (slice_get c.globals x ≡ Some g) × (g.mutable ≡ true) × Turns (g.value ∷ []) [] ins outs
  InstructionTyped c labels (tree.Load op align offset) ins outs =
      (0 < length c.memories) × (2 ^ align ≤ bytes_loaded op) × Turns (I32 ∷ []) (loaded_type op ∷ []) ins outs
  InstructionTyped c labels (tree.Store op align offset) ins outs =
      (0 < length c.memories) × (2 ^ align ≤ bytes_stored op) × Turns (stored_type op ∷ I32 ∷ []) [] ins outs
  InstructionTyped c labels (tree.Block ty body) ins outs =
      SequenceTyped c (types_of ty ∷ labels) body [] (types_of ty) × Turns [] (types_of ty) ins outs
  InstructionTyped c labels (tree.Loop ty body) ins outs =
      SequenceTyped c ([] ∷ labels) body [] (types_of ty) × Turns [] (types_of ty) ins outs
  InstructionTyped c labels (tree.If ty first) ins outs =
      SequenceTyped c (types_of ty ∷ labels) first [] (types_of ty) × ([] ≡ types_of ty) × Turns (I32 ∷ []) (types_of ty) ins outs
  InstructionTyped c labels (IfElse ty first second) ins outs =
      SequenceTyped c (types_of ty ∷ labels) first [] (types_of ty)
      × SequenceTyped c (types_of ty ∷ labels) second [] (types_of ty)
      × Turns (I32 ∷ []) (types_of ty) ins outs
  InstructionTyped c labels (tree.Br l) ins outs = (ts : Types) × (slice_get labels l ≡ Some ts) × Takes ts ins
  InstructionTyped c labels (tree.BrIf l) ins outs =
      (ts : Types) × (slice_get labels l ≡ Some ts) × Turns (I32 ∷ ts) ts ins outs
  InstructionTyped c labels (tree.BrTable ls l) ins outs =
      (ts : Types) × (slice_get labels l ≡ Some ts) × All (λ k. slice_get labels k ≡ Some ts) ls × Takes (I32 ∷ ts) ins
  InstructionTyped c labels (tree.Call f) ins outs =
      (ty : FuncType) × (slice_get c.funcs f ≡ Some ty) × Turns (reverse ty.params) (reverse ty.results) ins outs
  InstructionTyped c labels (tree.CallIndirect t) ins outs =
      (0 < length c.tables)
      × ((ty : FuncType) × (slice_get c.types t ≡ Some ty) × Turns (I32 ∷ reverse ty.params) (reverse ty.results) ins outs)

  -- A sequence is valid likewise: each instruction takes what those before it leave (section 3.3.6).
  pub SequenceTyped : Context → (labels : List Types) → Sequence → (ins outs : Types) → Type 0
  SequenceTyped c labels Empty ins outs = ins ≡ outs
  SequenceTyped c labels (Then i s) ins outs =
      (mid : Types) × InstructionTyped c labels i ins mid × SequenceTyped c labels s mid outs

-- A body is valid: from no operands it leaves the results, which are also what a branch to its outermost label takes
-- (section 3.4.1).
abbrev pub BodyTyped : Context → Sequence → Type 0
BodyTyped c body = SequenceTyped c (c.results ∷ []) body [] c.results

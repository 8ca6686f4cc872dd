-- How instructions, expressions and bodies are spelled (Core Specification, 5.4 and 5.5.13).
use Rattle.std.specs.Prelude.{◌≡◌, ℕ, ◌+◌, ◌-◌, ◌<◌, List, [], ◌∷◌, ◌++◌, length, ℤ}
use Rattle.std.specs.Int.{w32, w64, cast_unsigned}
use Rattle.wasm_values.specs.declared.number.ValType.{ValType}
use Rattle.wasm_values.specs.declared.number.Val.TheVariants as val
use Rattle.wasm_syntax.specs.declared.instr.Instr.{Instr}
use Rattle.wasm_syntax.specs.declared.instr.Instr.TheVariants as instr
use Rattle.wasm_syntax.specs.declared.instr.Plain.TheVariants as plain
use Rattle.wasm_syntax.specs.declared.flat.Flat.{Flat}
use Rattle.wasm_syntax.specs.declared.flat.Flat.TheVariants as item
use Rattle.wasm_syntax.specs.declared.kind.Opcode.{Opcode}
use Rattle.wasm_syntax.specs.declared.kind.Opcode.TheVariants.{Unreachable, Nop, Block, Loop, If, Else, End, Br, BrIf, BrTable, Return, Call, CallIndirect, Drop, Select, LocalGet, LocalSet, LocalTee, GlobalGet, GlobalSet, Load, Store, MemorySize, MemoryGrow, I32Const, I64Const, Num}
use Rattle.wasm_syntax.specs.Opcodes.{code_of}
use Rattle.wasm_syntax.specs.FlatForm.{flat, flat_body}
use Rattle.binary_grammar.specs.declared.section.Body.{Body}
use Rattle.binary_grammar.specs.Bounds.{copies}
use Rattle.binary_grammar.specs.Numbers.{SpellsS32, SpellsS64}
use Rattle.binary_grammar.specs.Grammar.{Spelling, Then, Done, Tagged, TheByte, SpellsNumber, Each, SpellsList, SpellsValueType, SpellsBlockType}

-- A constant of 32 bits: the number that an s32 stands for (5.2.2).
unfoldable pub SpellsWord32 : Spelling ℕ
SpellsWord32 at text n = (z : ℤ) × SpellsS32 text z × (n ≡ cast_unsigned w32 z)

-- A constant of 64 bits: the number that an s64 stands for (5.2.2).
unfoldable pub SpellsWord64 : Spelling ℕ
SpellsWord64 at text n = (z : ℤ) × SpellsS64 text z × (n ≡ cast_unsigned w64 z)

-- An instruction with one number: an index (5.4.1 and 5.4.3).
abbrev pub WithIndex : (ℕ → Instr) → Spelling Instr
WithIndex f = Then SpellsNumber (λ n. Done (f n))

-- An instruction with two numbers: alignment and offset (5.4.4).
abbrev pub WithTwo : (ℕ → ℕ → Instr) → Spelling Instr
WithTwo f = Then SpellsNumber (λ a. Then SpellsNumber (λ b. Done (f a b)))

-- An instruction with a byte 0, as `memory.size` and `memory.grow` have (5.4.4).
abbrev pub WithZero : Instr → Spelling Instr
WithZero i = Then (TheByte 0) (λ z. Done i)

-- No text spells it.
abbrev pub Never : {A : Type 0} → Spelling A
Never at text x = ⊥

-- What follows an opcode that begins no block and no end of one (5.4).
unfoldable pub InstrOf : Opcode → Spelling Instr
InstrOf Unreachable = Done (instr.Plain plain.Unreachable)
InstrOf Nop = Done (instr.Plain plain.Nop)
InstrOf Return = Done (instr.Plain plain.Return)
InstrOf Drop = Done (instr.Plain plain.Drop)
InstrOf Select = Done (instr.Plain plain.Select)
InstrOf (Num op) = Done (instr.Num op)
InstrOf MemorySize = WithZero (instr.Plain plain.MemorySize)
InstrOf MemoryGrow = WithZero (instr.Plain plain.MemoryGrow)
InstrOf I32Const = Then SpellsWord32 (λ n. Done (instr.Const (val.I32 n)))
InstrOf I64Const = Then SpellsWord64 (λ n. Done (instr.Const (val.I64 n)))
InstrOf Br = WithIndex instr.Br
InstrOf BrIf = WithIndex instr.BrIf
InstrOf BrTable = Then (SpellsList SpellsNumber) (λ labels. Then SpellsNumber (λ last. Done (instr.BrTable labels last)))
InstrOf Call = WithIndex instr.Call
InstrOf CallIndirect = Then SpellsNumber (λ n. Then (TheByte 0) (λ z. Done (instr.CallIndirect n)))
InstrOf LocalGet = WithIndex instr.LocalGet
InstrOf LocalSet = WithIndex instr.LocalSet
InstrOf LocalTee = WithIndex instr.LocalTee
InstrOf GlobalGet = WithIndex instr.GlobalGet
InstrOf GlobalSet = WithIndex instr.GlobalSet
InstrOf (Load op) = WithTwo (instr.Load op)
InstrOf (Store op) = WithTwo (instr.Store op)
InstrOf Block = Never
InstrOf Loop = Never
InstrOf If = Never
InstrOf Else = Never
InstrOf End = Never

-- What follows an opcode, as an item of flat code: a block, loop or if has its block type (5.4.1).
unfoldable pub ItemOf : Opcode → Spelling Flat
ItemOf Block = Then SpellsBlockType (λ t. Done (item.Block t))
ItemOf Loop = Then SpellsBlockType (λ t. Done (item.Loop t))
ItemOf If = Then SpellsBlockType (λ t. Done (item.If t))
ItemOf Else = Done item.Else
ItemOf End = Done item.End
ItemOf op = Then (InstrOf op) (λ i. Done (item.One i))

-- An item of flat code: the byte of its opcode, and what follows it.
unfoldable pub SpellsItem : Spelling Flat
SpellsItem = Tagged (λ b at text i. (op : Opcode) × (b ≡ code_of op) × ItemOf op at text i)

-- An expression: its items one after another, with its last end, and the place of each (5.4.6).
unfoldable pub SpellsExpression : Spelling (List Instr × List ℕ)
SpellsExpression at text x = Each SpellsItem at text (flat_body x.0, x.1)

-- An expression whose places do not matter.
unfoldable pub SpellsInstrs : Spelling (List Instr)
SpellsInstrs = Then SpellsExpression (λ x. Done x.0)

-- A run of equal locals: how many, and their type (5.5.13).
unfoldable pub SpellsRun : Spelling (ℕ × ValType)
SpellsRun = Then SpellsNumber (λ n. Then SpellsValueType (λ t. Done (n, t)))

-- The locals of runs.
abbrev pub locals_of : List (ℕ × ValType) → List ValType
locals_of [] = []
locals_of (r ∷ rs) = copies r.0 r.1 ++ locals_of rs

-- So many runs of locals.
unfoldable pub Runs : ℕ → Spelling (List ValType)
Runs n at text ls = (runs : List (ℕ × ValType)) × (places : List ℕ) × (length runs ≡ n) × Each SpellsRun at text (runs, places) × (ls ≡ locals_of runs)

-- Locals: a vector of runs (5.5.13).
unfoldable pub SpellsLocals : Spelling (List ValType)
SpellsLocals = Then SpellsNumber Runs

-- A text of this length.
unfoldable pub OfLength : {A : Type 0} → ℕ → Spelling A → Spelling A
OfLength n P at text x = (length text ≡ n) × P at text x

-- A size, and contents of that size.
unfoldable pub Sized : {A : Type 0} → Spelling A → Spelling A
Sized P = Then SpellsNumber (λ n. OfLength n P)

-- A function's locals and code (5.5.13).
unfoldable pub SpellsBodyContents : Spelling Body
SpellsBodyContents = Then SpellsLocals (λ ls. Then SpellsExpression (λ code. Done (record { locals = ls; code = code.0; places = code.1 })))

-- A size, and a function's locals and code of that size (5.5.13).
unfoldable pub SpellsBody : Spelling Body
SpellsBody = Sized SpellsBodyContents

-- How many blocks are open behind an item.
abbrev pub opened : ℕ → Flat → ℕ
opened now (item.Block t) = now + 1
opened now (item.Loop t) = now + 1
opened now (item.If t) = now + 1
opened now item.End = now - 1
opened now _ = now

-- An item that begins a block comes only where fewer than so many blocks are open.
abbrev pub MayOpen : ℕ → ℕ → Flat → Type 0
MayOpen most now (item.Block t) = now < most
MayOpen most now (item.Loop t) = now < most
MayOpen most now (item.If t) = now < most
MayOpen most now _ = Unit {0}

-- At each item at most so many blocks are open, where some are open before.
abbrev pub OpenAtMost : ℕ → ℕ → List Flat → Type 0
OpenAtMost most now [] = Unit {0}
OpenAtMost most now (i ∷ is) = MayOpen most now i × OpenAtMost most (opened now i) is

-- Of these instructions at most so many blocks are open at once.
abbrev pub NestsAtMost : ℕ → List Instr → Type 0
NestsAtMost most instrs = OpenAtMost most 0 (flat instrs)

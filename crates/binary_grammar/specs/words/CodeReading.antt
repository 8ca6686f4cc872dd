-- Reading instructions, expressions and bodies (Core Specification, 5.4 and 5.5.13).
use Rattle.std.specs.Prelude.{ℕ, zero, suc, ◌+◌, nat_lt, nat_le, if◌then◌else◌, Bool, true, false, List, [], ◌∷◌, ◌++◌, length, Option, Ok, Err, IsTrue}
use Rattle.std.specs.Int.{w32, w64, cast_unsigned}
use Rattle.wasm_values.specs.declared.number.ValType.{ValType}
use Rattle.wasm_values.specs.declared.number.Val.TheVariants as val
use Rattle.wasm_syntax.specs.declared.instr.Instr.{Instr}
use Rattle.wasm_syntax.specs.declared.instr.Instr.TheVariants as instr
use Rattle.wasm_syntax.specs.declared.instr.Plain.TheVariants as plain
use Rattle.wasm_syntax.specs.declared.flat.Flat.{Flat}
use Rattle.wasm_syntax.specs.declared.flat.Flat.TheVariants as item
use Rattle.wasm_syntax.specs.declared.kind.Opcode.{Opcode}
use Rattle.wasm_syntax.specs.declared.kind.Opcode.TheVariants.{Unreachable, Nop, Block, Loop, If, Else, End, Br, BrIf, BrTable, Return, Call, CallIndirect, Drop, Select, LocalGet, LocalSet, LocalTee, GlobalGet, GlobalSet, Load, Store, MemorySize, MemoryGrow, I32Const, I64Const, Num}
use Rattle.wasm_syntax.specs.declared.kind.Kind.{Kind}
use Rattle.wasm_syntax.specs.declared.kind.Kind.TheVariants as kind
use Rattle.wasm_syntax.specs.FlatForm.{is_simple}
use Rattle.wasm_syntax.specs.Opcodes.{kind_of}
use Rattle.wasm_syntax.specs.Parts.{Part, own, may_turn, then_item}
use Rattle.binary_grammar.specs.declared.fault.DecodeFault.TheVariants.{Malformed, Limit}
use Rattle.binary_grammar.specs.declared.fault.DecodeWord.TheVariants as word
use Rattle.wasm_values.specs.declared.limit.LimitWord.TheVariants.{Nesting, Locals}
use Rattle.binary_grammar.specs.declared.section.Body.{Body}
use Rattle.binary_grammar.specs.words.NumberReading.{s32_at, s64_at}
use Rattle.binary_grammar.specs.words.Reading.{◌>>=◌, Reader, place, then_at, done_at, tagged_at, of_number, number_at, list_at, sized_at}
use Rattle.binary_grammar.specs.Bounds.{copies}
use Rattle.binary_grammar.specs.words.TypeReading.{tag_at, value_type_at, block_type_at}

-- A constant of 32 bits: the number that an s32 stands for (5.2.2).
unfoldable pub word32_at : Reader ℕ
word32_at end bytes = of_number end (place end bytes) (s32_at bytes) >>= λ x. Ok (cast_unsigned w32 x.0, x.1)

-- A constant of 64 bits: the number that an s64 stands for (5.2.2).
unfoldable pub word64_at : Reader ℕ
word64_at end bytes = of_number end (place end bytes) (s64_at bytes) >>= λ x. Ok (cast_unsigned w64 x.0, x.1)

-- an instruction without immediates
abbrev pub without : Instr → Reader Instr
without i = done_at i

-- an instruction with one number
abbrev pub with_index : (ℕ → Instr) → Reader Instr
with_index f = then_at number_at (λ n. done_at (f n))

-- an instruction with two numbers
abbrev pub with_two : (ℕ → ℕ → Instr) → Reader Instr
with_two f = then_at number_at (λ a. then_at number_at (λ b. done_at (f a b)))

-- an instruction with a byte 0
abbrev pub with_zero : Instr → Reader Instr
with_zero i = then_at (tag_at 0) (λ z. done_at i)

-- The immediate of an instruction with one number, whose opcode stands at a place.
unfoldable pub index_at : ℕ → Opcode → Reader Instr
index_at at Br end bytes = with_index instr.Br end bytes
index_at at BrIf end bytes = with_index instr.BrIf end bytes
index_at at Call end bytes = with_index instr.Call end bytes
index_at at LocalGet end bytes = with_index instr.LocalGet end bytes
index_at at LocalSet end bytes = with_index instr.LocalSet end bytes
index_at at LocalTee end bytes = with_index instr.LocalTee end bytes
index_at at GlobalGet end bytes = with_index instr.GlobalGet end bytes
index_at at GlobalSet end bytes = with_index instr.GlobalSet end bytes
index_at at _ end bytes = Err (Malformed at word.Byte)

-- The immediates of an instruction with numbers.
unfoldable pub indexed_at : ℕ → Opcode → Reader Instr
indexed_at at BrTable end bytes = then_at (list_at number_at) (λ labels. then_at number_at (λ last. done_at (instr.BrTable labels last))) end bytes
indexed_at at CallIndirect end bytes = then_at number_at (λ n. then_at (tag_at 0) (λ z. done_at (instr.CallIndirect n))) end bytes
indexed_at at (Load op) end bytes = with_two (instr.Load op) end bytes
indexed_at at (Store op) end bytes = with_two (instr.Store op) end bytes
indexed_at at op end bytes = index_at at op end bytes

-- The immediates of an instruction that is no block, loop, if, else or end.
unfoldable pub simple_at : ℕ → Opcode → Reader Instr
simple_at at Unreachable end bytes = without (instr.Plain plain.Unreachable) end bytes
simple_at at Nop end bytes = without (instr.Plain plain.Nop) end bytes
simple_at at Return end bytes = without (instr.Plain plain.Return) end bytes
simple_at at Drop end bytes = without (instr.Plain plain.Drop) end bytes
simple_at at Select end bytes = without (instr.Plain plain.Select) end bytes
simple_at at (Num op) end bytes = without (instr.Num op) end bytes
simple_at at MemorySize end bytes = with_zero (instr.Plain plain.MemorySize) end bytes
simple_at at MemoryGrow end bytes = with_zero (instr.Plain plain.MemoryGrow) end bytes
simple_at at I32Const end bytes = then_at word32_at (λ n. done_at (instr.Const (val.I32 n))) end bytes
simple_at at I64Const end bytes = then_at word64_at (λ n. done_at (instr.Const (val.I64 n))) end bytes
simple_at at op end bytes = indexed_at at op end bytes

-- The item of an instruction that is read.
abbrev pub as_items : Reader Instr → Reader Flat
as_items r = then_at r (λ i. done_at (item.One i))

-- The block type of a block, loop or if, unless too many blocks are open.
unfoldable pub head_at : Bool → ℕ → Reader (Option ValType)
head_at true at end bytes = Err (Limit at Nesting)
head_at false at end bytes = block_type_at end bytes

-- The rest of an item behind its opcode. `turn` says whether an `else` may come, `full` whether no block may.
unfoldable pub op_at : Bool → Bool → ℕ → Opcode → Reader Flat
op_at turn full at Block end bytes = then_at (head_at full at) (λ t. done_at (item.Block t)) end bytes
op_at turn full at Loop end bytes = then_at (head_at full at) (λ t. done_at (item.Loop t)) end bytes
op_at turn full at If end bytes = then_at (head_at full at) (λ t. done_at (item.If t)) end bytes
op_at true full at Else end bytes = Ok (item.Else, bytes)
op_at false full at Else end bytes = Err (Malformed at word.Byte)
op_at turn full at End end bytes = Ok (item.End, bytes)
op_at turn full at op end bytes = as_items (simple_at at op) end bytes

-- The rest of an item, by what its first byte means. A byte of floating-point instructions is a fault, and so is one of
-- none.
unfoldable pub kind_at : Bool → Bool → ℕ → Kind → Reader Flat
kind_at turn full at (kind.Op op) end bytes = op_at turn full at op end bytes
kind_at turn full at kind.Float end bytes = Err (Malformed at word.Float)
kind_at turn full at kind.Unused end bytes = Err (Malformed at word.Byte)

-- An item of flat code: the byte of its opcode, and what follows it (5.4).
unfoldable pub item_at : Bool → Bool → Reader Flat
item_at turn full = tagged_at (λ at b. kind_at turn full at (kind_of b))

-- Whether an item fits an expression: one instruction is no block, and an `else` may come.
abbrev pub FitsIn : Bool → Flat → Type 0
FitsIn turn (item.One i) = IsTrue (is_simple i)
FitsIn turn item.Else = IsTrue turn
FitsIn turn _ = Unit {0}

-- Whether an item is the last of an expression with so many open parts, its own among them.
abbrev pub is_last : ℕ → Flat → Bool
is_last parts item.End = nat_le parts 1
is_last parts _ = false

-- the instructions of an expression of which no part but its own is open
abbrev pub own_instrs : List Part → List Instr
own_instrs [] = []
own_instrs (p ∷ ps) = p.instrs

-- The rest of an expression with these open parts, with the place of each item; at most so many items.
unfoldable pub rest_at : ℕ → ℕ → List Part → Reader (List Instr × List ℕ)
rest_at most zero ps end bytes = Err (Malformed end word.End)
rest_at most (suc n) ps end bytes = do
  i ← item_at (may_turn ps) (nat_lt most (length ps)) end bytes
  if is_last (length ps) i.0 then Ok ((own_instrs ps, place end bytes ∷ []), i.1) else
      (rest_at most n (then_item ps i.0) end i.1 >>= λ x. Ok ((x.0.0, place end bytes ∷ x.0.1), x.1))

-- An expression, with the place of each item. At most so many blocks are open at once.
unfoldable pub expression_at : ℕ → Reader (List Instr × List ℕ)
expression_at most end bytes = rest_at most (length bytes) (own [] ∷ []) end bytes

-- An expression whose places do not matter.
unfoldable pub instrs_at : ℕ → Reader (List Instr)
instrs_at most = then_at (expression_at most) (λ x. done_at x.0)

-- A run of equal locals, behind a number of locals: how many, and their type.
unfoldable pub run_of_locals_at : ℕ → ℕ → Reader (ℕ × ValType)
run_of_locals_at most sum end bytes = do
  count ← number_at end bytes
  if nat_lt most (sum + count.0) then Err (Limit (place end bytes) Locals)
      else (value_type_at end count.1 >>= λ t. Ok ((count.0, t.0), t.1))

-- Runs of equal locals, behind a number of locals. At most so many locals are declared.
unfoldable pub runs_at : ℕ → ℕ → ℕ → Reader (List ValType)
runs_at most sum zero end bytes = Ok ([], bytes)
runs_at most sum (suc n) end bytes = do
  run ← run_of_locals_at most sum end bytes
  more ← runs_at most (sum + run.0.0) n end run.1
  Ok (copies run.0.0 run.0.1 ++ more.0, more.1)

-- A function's locals: a vector of runs (5.5.13). At most so many locals are declared.
unfoldable pub locals_at : ℕ → Reader (List ValType)
locals_at most = then_at number_at (λ n. runs_at most 0 n)

-- A function's locals and code.
unfoldable pub body_contents_at : ℕ → ℕ → Reader Body
body_contents_at locals nesting =
    then_at (locals_at locals) (λ ls. then_at (expression_at nesting) (λ code. done_at (record { locals = ls; code = code.0; places = code.1 })))

-- The same in a region of its own.
unfoldable pub body_at : ℕ → ℕ → Reader Body
body_at locals nesting = sized_at (body_contents_at locals nesting)

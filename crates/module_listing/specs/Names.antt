-- The names of instructions in the text format (Core Specification, sections 6.5.2 to 6.5.6).
use Rattle.std.specs.Prelude.{ℕ, List, codes}
use Rattle.wasm_values.specs.declared.number.Val.{Val}
use Rattle.wasm_values.specs.declared.number.Val.TheVariants as val
use Rattle.wasm_values.specs.Names.{num_name}
use Rattle.wasm_syntax.specs.declared.instr.Plain as plain_type
use Rattle.wasm_syntax.specs.declared.instr.Plain.TheVariants as plain
use Rattle.wasm_syntax.specs.declared.instr.LoadOp.{LoadOp}
use Rattle.wasm_syntax.specs.declared.instr.LoadOp.TheVariants as load
use Rattle.wasm_syntax.specs.declared.instr.StoreOp.{StoreOp}
use Rattle.wasm_syntax.specs.declared.instr.StoreOp.TheVariants as store
use Rattle.wasm_syntax.specs.declared.instr.Instr.{Instr, Plain, Num, Const, LocalGet, LocalSet, LocalTee, GlobalGet, GlobalSet, Load, Store, Block', Loop', If', Br, BrIf, BrTable, Call, CallIndirect}

-- Instructions without immediates that are no numeric operators, and those on the size of the memory (6.5.2 to 6.5.5).
abbrev pub plain_name : plain_type.Plain → List ℕ
plain_name plain.Unreachable = codes "unreachable"
plain_name plain.Nop = codes "nop"
plain_name plain.Return = codes "return"
plain_name plain.Drop = codes "drop"
plain_name plain.Select = codes "select"
plain_name plain.MemorySize = codes "memory.size"
plain_name plain.MemoryGrow = codes "memory.grow"

-- A constant (6.5.6).
abbrev pub const_name : Val → List ℕ
const_name (val.I32 n) = codes "i32.const"
const_name (val.I64 n) = codes "i64.const"

-- A load (6.5.5).
abbrev pub load_name : LoadOp → List ℕ
load_name load.I32Load = codes "i32.load"
load_name load.I64Load = codes "i64.load"
load_name load.I32Load8S = codes "i32.load8_s"
load_name load.I32Load8U = codes "i32.load8_u"
load_name load.I32Load16S = codes "i32.load16_s"
load_name load.I32Load16U = codes "i32.load16_u"
load_name load.I64Load8S = codes "i64.load8_s"
load_name load.I64Load8U = codes "i64.load8_u"
load_name load.I64Load16S = codes "i64.load16_s"
load_name load.I64Load16U = codes "i64.load16_u"
load_name load.I64Load32S = codes "i64.load32_s"
load_name load.I64Load32U = codes "i64.load32_u"

-- A store (6.5.5).
abbrev pub store_name : StoreOp → List ℕ
store_name store.I32Store = codes "i32.store"
store_name store.I64Store = codes "i64.store"
store_name store.I32Store8 = codes "i32.store8"
store_name store.I32Store16 = codes "i32.store16"
store_name store.I64Store8 = codes "i64.store8"
store_name store.I64Store16 = codes "i64.store16"
store_name store.I64Store32 = codes "i64.store32"

-- The name of an instruction (6.5.2 to 6.5.6).
abbrev pub instr_name : Instr → List ℕ
instr_name (Plain op) = plain_name op
instr_name (Num op) = num_name op
instr_name (Const value) = const_name value
instr_name (LocalGet x) = codes "local.get"
instr_name (LocalSet x) = codes "local.set"
instr_name (LocalTee x) = codes "local.tee"
instr_name (GlobalGet x) = codes "global.get"
instr_name (GlobalSet x) = codes "global.set"
instr_name (Load op align offset) = load_name op
instr_name (Store op align offset) = store_name op
instr_name (Block' ty n body) = codes "block"
instr_name (Loop' ty n body) = codes "loop"
instr_name (If' ty n first other) = codes "if"
instr_name (Br l) = codes "br"
instr_name (BrIf l) = codes "br_if"
instr_name (BrTable ls l) = codes "br_table"
instr_name (Call f) = codes "call"
instr_name (CallIndirect t) = codes "call_indirect"

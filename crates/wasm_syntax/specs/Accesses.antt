-- What loads and stores access (Core Specification, section 2.4.4).
use Rattle.std.specs.Prelude.{ℕ}
use Rattle.wasm_values.specs.declared.number.ValType.{ValType}
use Rattle.wasm_values.specs.declared.number.ValType.TheVariants.{I32, I64}
use Rattle.wasm_syntax.specs.declared.instr.LoadOp.{LoadOp}
use Rattle.wasm_syntax.specs.declared.instr.LoadOp.TheVariants as load
use Rattle.wasm_syntax.specs.declared.instr.StoreOp.{StoreOp}
use Rattle.wasm_syntax.specs.declared.instr.StoreOp.TheVariants as store

-- The type of what a load gives.
abbrev pub loaded_type : LoadOp → ValType
loaded_type load.I32Load = I32
loaded_type load.I32Load8S = I32
loaded_type load.I32Load8U = I32
loaded_type load.I32Load16S = I32
loaded_type load.I32Load16U = I32
loaded_type _ = I64

-- How many bytes a load reads.
abbrev pub bytes_loaded : LoadOp → ℕ
bytes_loaded load.I32Load = 4
bytes_loaded load.I64Load = 8
bytes_loaded load.I32Load8S = 1
bytes_loaded load.I32Load8U = 1
bytes_loaded load.I32Load16S = 2
bytes_loaded load.I32Load16U = 2
bytes_loaded load.I64Load8S = 1
bytes_loaded load.I64Load8U = 1
bytes_loaded load.I64Load16S = 2
bytes_loaded load.I64Load16U = 2
bytes_loaded load.I64Load32S = 4
bytes_loaded load.I64Load32U = 4

-- The type of what a store writes.
abbrev pub stored_type : StoreOp → ValType
stored_type store.I32Store = I32
stored_type store.I32Store8 = I32
stored_type store.I32Store16 = I32
stored_type _ = I64

-- How many bytes a store writes.
abbrev pub bytes_stored : StoreOp → ℕ
bytes_stored store.I32Store = 4
bytes_stored store.I64Store = 8
bytes_stored store.I32Store8 = 1
bytes_stored store.I32Store16 = 2
bytes_stored store.I64Store8 = 1
bytes_stored store.I64Store16 = 2
bytes_stored store.I64Store32 = 4

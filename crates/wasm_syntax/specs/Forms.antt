-- How items are stored (Core Specification, section 5.4).
use Rattle.wasm_values.specs.declared.number.Val.TheVariants.{I32, I64}
use Rattle.wasm_syntax.specs.declared.instr.Instr.TheVariants as instr
use Rattle.wasm_syntax.specs.declared.flat.Flat.{Flat}
use Rattle.wasm_syntax.specs.declared.flat.Flat.TheVariants as flat
use Rattle.wasm_syntax.specs.declared.item.Form.{Form}
use Rattle.wasm_syntax.specs.declared.item.Form.TheVariants as form

-- The item that is stored so.
abbrev pub item_of_form : Form → Flat
item_of_form (form.Plain op) = flat.One (instr.Plain op)
item_of_form (form.Num op) = flat.One (instr.Num op)
item_of_form (form.Const32 n) = flat.One (instr.Const (I32 n))
item_of_form (form.Const64 n) = flat.One (instr.Const (I64 n))
item_of_form (form.LocalGet x) = flat.One (instr.LocalGet x)
item_of_form (form.LocalSet x) = flat.One (instr.LocalSet x)
item_of_form (form.LocalTee x) = flat.One (instr.LocalTee x)
item_of_form (form.GlobalGet x) = flat.One (instr.GlobalGet x)
item_of_form (form.GlobalSet x) = flat.One (instr.GlobalSet x)
item_of_form (form.Load op align offset) = flat.One (instr.Load op align offset)
item_of_form (form.Store op align offset) = flat.One (instr.Store op align offset)
item_of_form (form.Br l) = flat.One (instr.Br l)
item_of_form (form.BrIf l) = flat.One (instr.BrIf l)
item_of_form (form.BrTable targets) = flat.One (instr.BrTable targets.value.labels targets.value.last)
item_of_form (form.Call f) = flat.One (instr.Call f)
item_of_form (form.CallIndirect t) = flat.One (instr.CallIndirect t)
item_of_form (form.Block ty) = flat.Block ty
item_of_form (form.Loop ty) = flat.Loop ty
item_of_form (form.If ty) = flat.If ty
item_of_form form.Else = flat.Else
item_of_form form.End = flat.End

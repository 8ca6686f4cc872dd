-- Instructions and items as code lends them (Core Specification, sections 2.4 and 5.4).
use Rattle.wasm_syntax.specs.declared.instr.Instr.{Instr}
use Rattle.wasm_syntax.specs.declared.instr.Instr.TheVariants as instr
use Rattle.wasm_syntax.specs.declared.flat.Flat.{Flat}
use Rattle.wasm_syntax.specs.declared.flat.Flat.TheVariants as flat
use Rattle.wasm_syntax.specs.declared.seen.Simple.{Simple}
use Rattle.wasm_syntax.specs.declared.seen.Simple.TheVariants as simple
use Rattle.wasm_syntax.specs.declared.seen.Seen.{Seen}
use Rattle.wasm_syntax.specs.declared.seen.Seen.TheVariants as seen

-- The instruction that is lent (section 2.4).
abbrev pub instr_seen : Simple → Instr
instr_seen (simple.Plain op) = instr.Plain op
instr_seen (simple.Num op) = instr.Num op
instr_seen (simple.Const value) = instr.Const value
instr_seen (simple.LocalGet x) = instr.LocalGet x
instr_seen (simple.LocalSet x) = instr.LocalSet x
instr_seen (simple.LocalTee x) = instr.LocalTee x
instr_seen (simple.GlobalGet x) = instr.GlobalGet x
instr_seen (simple.GlobalSet x) = instr.GlobalSet x
instr_seen (simple.Load op align offset) = instr.Load op align offset
instr_seen (simple.Store op align offset) = instr.Store op align offset
instr_seen (simple.Br l) = instr.Br l
instr_seen (simple.BrIf l) = instr.BrIf l
instr_seen (simple.BrTable ls l) = instr.BrTable ls.now l
instr_seen (simple.Call f) = instr.Call f
instr_seen (simple.CallIndirect t) = instr.CallIndirect t

-- The item that is lent (section 5.4).
abbrev pub item_seen : Seen → Flat
item_seen (seen.One i) = flat.One (instr_seen i)
item_seen (seen.Block ty) = flat.Block ty
item_seen (seen.Loop ty) = flat.Loop ty
item_seen (seen.If ty) = flat.If ty
item_seen seen.Else = flat.Else
item_seen seen.End = flat.End

-- Parts of the state at a function's entry, and of the initial state.
use Rattle.std.specs.Prelude.{ℕ, nat_lt, Bool, true, false, if◌then◌else◌, [], length, Option, Some, None, unwrap_or, Ok}
use Rattle.wasm_values.specs.declared.number.ValType.{ValType}
use Rattle.wasm_values.specs.Operators.{number_of}
use Rattle.wasm_syntax.specs.declared.instr.Instr.{Instr, Const, GlobalGet}
use Rattle.wasm_syntax.specs.declared.module.GlobalType.{GlobalType}
use Rattle.wasm_typing.specs.Valid.{globals_of, imported_globals_of}
use Rattle.term_trees.specs.declared.term.Term.{Term}
use Rattle.escape_analysis.specs.Exposure.{stability}
use Rattle.notes.specs.declared.assertion.Contract.{Contract}
use Rattle.outline_rules.specs.Refusals.{Ruling, ◌>>=◌}
use Rattle.outline_rules.specs.Settings.{Setting, func_type, contract_of, precondition_by}
use Rattle.outline_rules.specs.States.{State, number, settled}
use Rattle.outline_rules.specs.Instructions.{global_of}
use Rattle.outline_rules.specs.Renewal.{assumed}
use Rattle.outline_rules.specs.Entry.{with_new_local, with_args, params_entered, locals_entered, declared_locals, global_unknown, global_known, global_begun, globals_begun, pages_entered, pages_begun, precondition_known}

-- one more local, which is 0
abbrev pub local_entered : ValType → State → Ruling State
local_entered ty s = settled [] (with_new_local ty (number 0) s)

-- the value of a constant instruction
abbrev pub instruction_term : State → Instr → Term
instruction_term s (Const value) = number (number_of value)
instruction_term s (GlobalGet x) = unwrap_or (global_of s x) (number 0)
instruction_term s _ = number 0

-- an immutable global: a typed variable, where it is imported, and its value otherwise
abbrev pub immutable_begun : Setting → ℕ → ValType → State → Ruling State
immutable_begun c k ty s =
    if nat_lt k (length (imported_globals_of c.code)) then global_unknown ty s else global_known c k s

-- a private global: a typed variable at a function's entry, and its value initially
abbrev pub private_begun : Setting → (at_entry : Bool) → ℕ → ValType → State → Ruling State
private_begun c at_entry k ty s = if at_entry then global_unknown ty s else global_known c k s

-- the global with a number, where there is one
abbrev pub global_at : Setting → (at_entry : Bool) → ℕ → Option GlobalType → State → Ruling State
global_at c at_entry k None s = Ok s
global_at c at_entry k (Some g) s = global_begun c at_entry k g.value (stability c.code k g) s

-- a precondition is known
abbrev pub precondition_assumed : Setting → Option Contract → State → Ruling State
precondition_assumed c contract s = assumed (precondition_by c contract) [] s.args None s

-- what is entered after the globals, after the locals and after the parameters, and all that is entered
abbrev pub after_globals : Setting → (func : ℕ) → State → Ruling State
after_globals c f s = pages_entered c s >>= precondition_known c (contract_of c f)

abbrev pub after_locals : Setting → (func : ℕ) → State → Ruling State
after_locals c f s = globals_begun c true 0 (globals_of c.code) s >>= after_globals c f

abbrev pub after_params : Setting → (func : ℕ) → State → Ruling State
after_params c f s = locals_entered (declared_locals c f) (with_args s) >>= after_locals c f

abbrev pub entered : Setting → (func : ℕ) → State → Ruling State
entered c f s = params_entered (func_type c f).params s >>= after_params c f

-- all that begins with an instance
abbrev pub begun : Setting → State → Ruling State
begun c s = globals_begun c false 0 (globals_of c.code) s >>= pages_begun c

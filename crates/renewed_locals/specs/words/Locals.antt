-- Locals that are renewed one by one.
use Rattle.std.specs.Prelude.{ℕ, Bool, if◌then◌else◌, List, [], map, Option, Some, None, Ok}
use Rattle.wasm_values.specs.declared.number.ValType.{ValType}
use Rattle.outline_rules.specs.Refusals.{Ruling, ◌>>=◌}
use Rattle.outline_rules.specs.States.{State, with_chunks}
use Rattle.outline_rules.specs.Blocks.{local_renewed, locals_renewed}

-- a local is a typed variable again, where it takes part
abbrev pub local_taken : (takes_part : Bool) → ℕ → ValType → State → Ruling State
local_taken part k ty s = if part then local_renewed k ty s else Ok s

-- the same where there may be none
abbrev pub local_changed : (takes_part : Bool) → ℕ → Option ValType → State → Ruling State
local_changed part k None s = Ok s
local_changed part k (Some ty) s = local_taken part k ty s

-- the types of the locals
abbrev pub types_of : State → List ValType
types_of s = map (λ e. e.0) s.locals

-- the locals that take part are typed variables again, and no chunk is left
abbrev pub locals_left : (takes_part : ℕ → Bool) → State → Ruling State
locals_left part s = locals_renewed part 0 s.locals s >>= λ t. Ok (with_chunks [] t)

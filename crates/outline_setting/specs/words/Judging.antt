-- Candidates of a call through a table, one after another.
use Rattle.std.specs.Prelude.{ℕ, if◌then◌else◌, List, [], ◌∷◌, Option, Some, None, Ok}
use Rattle.wasm_syntax.specs.declared.module.FuncType.{FuncType}
use Rattle.wasm_store.specs.Control.{is_same_func_type}
use Rattle.notes.specs.declared.reason.Reason.TheVariants as reason
use Rattle.notes.specs.declared.assertion.Contract.{Contract}
use Rattle.outline_rules.specs.Refusals.{Ruling, refused, ◌>>=◌}
use Rattle.outline_rules.specs.Settings.{Setting, func_type, contract_of}
use Rattle.outline_rules.specs.Calls.{same_contract}

-- one more candidate, after the first, where there was one
abbrev pub judged_next : Setting → Option ℕ → ℕ → Ruling (Option ℕ)
judged_next c None g = Ok (Some g)
judged_next c (Some f) g = if same_contract (contract_of c g) (contract_of c f) then Ok (Some f) else refused reason.Target

-- one more function, which is a candidate where its type is the wanted one
abbrev pub judged_step : Setting → FuncType → Option ℕ → ℕ → Ruling (Option ℕ)
judged_step c ty first g = if is_same_func_type (func_type c g) ty then judged_next c first g else Ok first

-- more functions, one after another
abbrev pub judged_walk : Setting → FuncType → Option ℕ → List ℕ → Ruling (Option ℕ)
judged_walk c ty first [] = Ok first
judged_walk c ty first (g ∷ gs) = judged_step c ty first g >>= λ next. judged_walk c ty next gs

-- what all candidates are judged by, from the first
abbrev pub judged_end : Setting → Option ℕ → Ruling (Option Contract)
judged_end c None = refused reason.Target
judged_end c (Some f) = Ok (contract_of c f)

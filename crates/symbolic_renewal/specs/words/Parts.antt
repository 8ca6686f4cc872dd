-- Parts of a renewal.
use Rattle.std.specs.Prelude.{ℕ, Bool, true, List, Option}
use Rattle.wasm_values.specs.declared.number.ValType.{ValType}
use Rattle.term_trees.specs.declared.term.Term.{Term}
use Rattle.outline_rules.specs.Refusals.{Ruling, ◌>>=◌}
use Rattle.outline_rules.specs.States.{State}
use Rattle.outline_rules.specs.Renewal.{globals_renewed, pages_renewed, result_renewed}

-- globals, all of which take part, and the page count where it does
abbrev pub places_renewed : List (ℕ × ValType) → Bool → State → Ruling State
places_renewed gs pages s = globals_renewed (λ k. true) gs s >>= λ t. pages_renewed pages t

-- all that is renewed before the assertion is known
abbrev pub slots_renewed : List (ℕ × ValType) → Bool → Option ValType → State → Ruling (Option Term × State)
slots_renewed gs pages result s = places_renewed gs pages s >>= λ t. result_renewed result t

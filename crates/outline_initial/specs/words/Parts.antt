-- Parts of what is said initially.
use Rattle.std.specs.Prelude.{ℕ, List, [], is_none, Ok}
use Rattle.notes.specs.declared.reason.Reason.TheVariants as reason
use Rattle.notes.specs.declared.chunk.Chunk.{Chunk}
use Rattle.notes.specs.declared.assertion.Assertion.{Assertion}
use Rattle.notes.specs.declared.assertion.Contract.{Contract}
use Rattle.notes.specs.declared.uses.With.{With}
use Rattle.notes.specs.declared.uses.Take.{Take}
use Rattle.notes.specs.declared.outline.Initial.{Initial}
use Rattle.outline_rules.specs.Refusals.{Ruling, wanted, found, ◌>>=◌, ◌>>◌}
use Rattle.outline_rules.specs.Settings.{Setting, func_type}
use Rattle.outline_rules.specs.States.{State}
use Rattle.outline_rules.specs.Entailment.{Entailed, plainly, entailed}
use Rattle.outline_rules.specs.Moves.{moved}
use Rattle.outline_rules.specs.Calls.{comes_back}
use Rattle.outline_rules.specs.Initial.{are_chunks_right, chunks_added, settled_after, started}

-- chunks have to keep the rules
abbrev pub chunks_wanted : Setting → List Chunk → Ruling (Unit {0})
chunks_wanted c chunks = wanted reason.Initial (are_chunks_right c chunks)

-- chunks are added, if they keep the rules
abbrev pub chunks_checked : Setting → List Chunk → State → Ruling State
chunks_checked c chunks s = wanted reason.Initial (are_chunks_right c chunks) >> chunks_added chunks s

-- an assertion alone is entailed
abbrev pub entailed_plainly : Assertion → With → State → Ruling (Unit {0})
entailed_plainly a w s = entailed s (plainly a) w >> Ok tt

-- how an assertion alone is entailed
abbrev pub terms_entailed : Assertion → With → State → Ruling Entailed
terms_entailed a w s = entailed s (plainly a) w

-- the part `after` is wanted
abbrev pub after_wanted : Initial → Ruling Take
after_wanted initial = found reason.Use initial.after

-- there must be no part `after`
abbrev pub no_after : Initial → Ruling (Unit {0})
no_after initial = wanted reason.Use (is_none initial.after)

-- a start function with this contract, whose precondition was entailed so, comes back, and this `after` leads to the invariant
abbrev pub resumed_with : Setting → (func : ℕ) → Contract → Take → State → Entailed → Ruling (Unit {0})
resumed_with c f contract t s e = comes_back c contract (func_type c f) [] s e >>= settled_after c t

-- the same, for the `after` that there has to be
abbrev pub resumed : Setting → (func : ℕ) → Contract → Initial → State → Entailed → Ruling (Unit {0})
resumed c f contract initial s e = found reason.Use initial.after >>= λ t. resumed_with c f contract t s e

-- the moves of the initial part, and the start
abbrev pub moved_and_started : Setting → Initial → State → Ruling (Unit {0})
moved_and_started c initial s = moved c initial.moves s >>= started c c.code.start initial

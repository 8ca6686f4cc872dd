-- A renewal in which only part of the globals takes part.
use Rattle.std.proofs.Common.{◌≡◌, ℕ, Bool, true, false, List, [], ◌∷◌, refl, ap}
use Rattle.std.specs.Prelude.{filter, cond, if◌then◌else◌, Ok}
use Rattle.wasm_values.specs.declared.number.ValType.{ValType}
use Rattle.notes.specs.declared.assertion.Assertion.{Assertion}
use Rattle.outline_rules.specs.Refusals.{◌>>=◌}
use Rattle.outline_rules.specs.States.{State}
use Rattle.outline_rules.specs.Renewal.{Renewing, global_renewed, globals_renewed, pages_renewed, result_renewed, assumed, renewed}

-- the globals that take part
abbrev pub taking_part : (ℕ → Bool) → List (ℕ × ValType) → List (ℕ × ValType)
taking_part part gs = filter (λ g. part g.0) gs

pub globals-of-part : (part : ℕ → Bool) (gs : List (ℕ × ValType)) (s : State) → globals_renewed (λ k. true) (taking_part part gs) s ≡ globals_renewed part gs s
globals-of-part part [] s = refl
globals-of-part part (g ∷ gs) s = by_part (part g.0) (globals-of-part part gs)
  where
    by_part : (b : Bool) → ((t : State) → globals_renewed (λ k. true) (taking_part part gs) t ≡ globals_renewed part gs t)
        → globals_renewed (λ k. true) (cond b (g ∷ taking_part part gs) (taking_part part gs)) s ≡ ((if b then global_renewed g.0 g.1 s else Ok s) >>= globals_renewed part gs)
    by_part true rest = λ j. global_renewed g.0 g.1 s >>= λ t. rest t j
    by_part false rest = rest s

-- The renewal by the globals that take part alone is that by all globals, of which those take part.
pub renewed-of-part : (part : ℕ → Bool) (r : Renewing) (a : Assertion) (s : State)
    → renewed (record r { globals = taking_part part r.globals; changes = λ k. true }) a s ≡ renewed (record r { changes = part }) a s
renewed-of-part part r a s =
    ap (λ start. start >>= λ t. pages_renewed r.pages t >>= λ u. result_renewed r.result u >>= λ v. assumed a r.fixed r.args v.0 v.1)
    (globals-of-part part r.globals s)

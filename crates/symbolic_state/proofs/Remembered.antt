-- The terms of entries over a table.
use Rattle.std.proofs.Common.{◌≡◌, ℕ, ◌<◌, List, [], ◌∷◌, All, length, map, refl, ap}
use Rattle.std.proofs.lemmas.List.Elements.{All-map}
use Rattle.wasm_values.specs.declared.number.ValType.{ValType}
use Rattle.term_trees.specs.declared.term.Term.{Term}
use Rattle.term_logic.specs.Table.{tree_at}
use Rattle.symbolic_state.specs.declared.tracked.TrackedState.TheInside.{Inside}
use Rattle.symbolic_state.specs.States.{entry_at}
use Rattle.symbolic_state.specs.Tracking.{IsTracked}

pub terms-seen : (ts : List Term) (es : List (ValType × ℕ)) → map (tree_at ts) (map (λ e. e.1) es) ≡ map (λ e. e.1) (map (entry_at ts) es)
terms-seen ts [] = refl
terms-seen ts (e ∷ es) = ap (λ r. tree_at ts e.1 ∷ r) (terms-seen ts es)

pub terms-low : (n : ℕ) (es : List (ValType × ℕ)) → All (λ e. e.1 < n) es → All (λ id. id < n) (map (λ e. e.1) es)
terms-low n es h = All-map (λ id. id < n) (λ e. e.1) es h

module _ (t : Inside) (is : IsTracked t) (ids : List ℕ) (low : All (λ id. id < length t.table) ids) where
  -- a tracked state with other terms of the parameters, or of the precondition's own variables
  pub args-changed : IsTracked (record t { state = record t.state { args = ids } })
  args-changed = record {
    within = record { heap = is.within.heap; locals = is.within.locals; stack = is.within.stack; globals = is.within.globals; pages = is.within.pages; args = low; given = is.within.given };
    widths = is.widths;
    limits = record { variables = is.limits.variables; facts = is.limits.facts; chunks = is.limits.chunks; nodes = is.limits.nodes };
    nodes = is.nodes;
  }

  pub given-changed : IsTracked (record t { state = record t.state { given = ids } })
  given-changed = record {
    within = record { heap = is.within.heap; locals = is.within.locals; stack = is.within.stack; globals = is.within.globals; pages = is.within.pages; args = is.within.args; given = low };
    widths = is.widths;
    limits = record { variables = is.limits.variables; facts = is.limits.facts; chunks = is.limits.chunks; nodes = is.limits.nodes };
    nodes = is.nodes;
  }

pub ruleset terms = (terms-seen, terms-low)

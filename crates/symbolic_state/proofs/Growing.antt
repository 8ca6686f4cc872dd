-- What a state says stays while its table grows.
use Rattle.std.proofs.Common.{◌≡◌, ℕ, ◌<◌, ◌≤◌, List, [], ◌∷◌, length, map, reverse, Option, Some, None, IfSome, refl, sym, ap, subst, ◌∙◌, arith}
use Rattle.std.specs.Prelude.{option_map}
use Rattle.std.specs.List.{All}
use Rattle.std.proofs.lemmas.List.Elements.{All-head, All-tail}
use Rattle.symbolic_state.proofs.Lists.{All-reverse}
use Rattle.wasm_values.specs.declared.number.ValType.{ValType}
use Rattle.term_trees.specs.declared.term.Term.{Term}
use Rattle.term_logic.specs.Table.{tree_at}
use Rattle.term_logic.specs.Extends.{Extends}
use Rattle.heap_logic.proofs.Growing.{chunks_of-kept, heap-more}
use Rattle.outline_rules.specs.States.{nodes_of}
use Rattle.symbolic_state.specs.declared.state.SymState.{SymState}
use Rattle.symbolic_state.specs.declared.tracked.TrackedState.TheInside.{Inside}
use Rattle.symbolic_state.specs.States.{entry_at, state_of, StateWithin, WithinLimits}
use Rattle.symbolic_state.specs.Tracking.{IsTracked}

module _ (old new : List Term) (more : Extends old new) where
  pub entries-kept : (es : List (ValType × ℕ)) → All (λ e. e.1 < length old) es → map (entry_at new) es ≡ map (entry_at old) es
  entries-kept [] all = refl
  entries-kept (e ∷ es) all = λ j.
      (e.0, more.kept e.1 (All-head (λ d. d.1 < length old) e es all) j) ∷ entries-kept es (All-tail (λ d. d.1 < length old) e es all) j

  pub option-kept : (o : Option ℕ) → IfSome o (λ id. id < length old) → option_map (tree_at new) o ≡ option_map (tree_at old) o
  option-kept None h = refl
  option-kept (Some id) h = λ j. Some (more.kept id h j)

  pub options-kept : (os : List (Option ℕ)) → All (λ o. IfSome o (λ id. id < length old)) os → map (option_map (tree_at new)) os ≡ map (option_map (tree_at old)) os
  options-kept [] all = refl
  options-kept (o ∷ os) all = λ j.
      option-kept o (All-head (λ p. IfSome p (λ id. id < length old)) o os all) j
      ∷ options-kept os (All-tail (λ p. IfSome p (λ id. id < length old)) o os all) j

  pub state-kept : (s : SymState) → StateWithin (length old) s → state_of new s ≡ state_of old s
  state-kept s w = λ j. record {
    vars = s.heap.vars;
    facts = more.formulas s.heap.facts w.heap.facts j;
    chunks = chunks_of-kept old new more s.heap.chunks w.heap.chunks j;
    locals = entries-kept s.locals w.locals j;
    operands = entries-kept (reverse s.stack) (All-reverse (λ e. e.1 < length old) s.stack w.stack) j;
    globals = options-kept s.globals w.globals j;
    pages = option-kept s.pages w.pages j;
    args = more.trees s.args w.args j;
    given = more.trees s.given w.given j;
  }

pub option-more : (m n : ℕ) → m ≤ n → (o : Option ℕ) → IfSome o (λ id. id < m) → IfSome o (λ id. id < n)
option-more m n low None h = tt
option-more m n low (Some id) h = omega arith

pub state-more : (m n : ℕ) → m ≤ n → (s : SymState) → StateWithin m s → StateWithin n s
state-more m n low s w = record {
  heap = heap-more m n low s.heap w.heap;
  locals = λ k d h. let at = w.locals k d h in omega arith;
  stack = λ k d h. let at = w.stack k d h in omega arith;
  globals = λ k d h. option-more m n low _ (w.globals k d h);
  pages = option-more m n low s.pages w.pages;
  args = λ k d h. let at = w.args k d h in omega arith;
  given = λ k d h. let at = w.given k d h in omega arith;
}

-- a tracked state over a longer table
pub tracked-more : (t : Inside) (new : List Term) → IsTracked t → Extends t.table new → IsTracked (record t { table = new })
tracked-more t new is more = record {
  within = state-more (length t.table) (length new) more.longer t.state is.within;
  widths = is.widths;
  limits = subst WithinLimits (sym (state-kept t.table new more t.state is.within)) is.limits;
  nodes = is.nodes ∙ ap nodes_of (sym (state-kept t.table new more t.state is.within));
}

pub ruleset growing = (tracked-more, state-kept)

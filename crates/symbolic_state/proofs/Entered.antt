-- States with more locals, globals and variables.
use Rattle.std.proofs.Common.{◌≡◌, ℕ, ◌+◌, ◌≤◌, ◌<◌, true, IfSome, All, subst, List, [], ◌∷◌, ◌++◌, length, map, sum_by, filter_map, refl, sym, ap, ◌∙◌, arith}
use Rattle.std.specs.Prelude.{Ok, Option, Some, None, option_map}
use Rattle.std.proofs.lemmas.List.{length-append, map-append}
use Rattle.std.proofs.lemmas.List.Elements.{filter_map-append, All-push}
use Rattle.std.proofs.lemmas.List.Sums.{sum_by-append}
use Rattle.wasm_values.specs.declared.number.ValType.{ValType}
use Rattle.term_trees.specs.declared.term.Term.{Term}
use Rattle.term_trees.specs.Terms.{node_count}
use Rattle.outline_rules.specs.Refusals.{◌>>◌}
use Rattle.outline_rules.specs.States.{State, nodes_of, settled, fresh, greatest_of, from_zero_to, with_typed}
use Rattle.outline_rules.specs.Entry.{with_new_local, with_new_global, global_unknown}
use Rattle.term_logic.specs.Table.{tree_at}
use Rattle.symbolic_state.specs.declared.tracked.TrackedState.TheInside.{Inside}
use Rattle.symbolic_state.specs.States.{state_of}
use Rattle.symbolic_state.specs.Tracking.{IsTracked}
use Rattle.symbolic_state.specs.words.Limits.{limits}
use Rattle.symbolic_state.proofs.Facts.{nodes-variable}
use Rattle.symbolic_state.proofs.Counting.{globals_nodes, option_nodes, nodes-parts, nodes-typed}
use Rattle.symbolic_state.proofs.Settling.{settled-is}

nodes-new-local : (ty : ValType) (t : Term) (s : State) → nodes_of (with_new_local ty t s) ≡ nodes_of s + node_count t
nodes-new-local ty t s =
    let terms : map (λ e. e.1) (s.locals ++ (ty, t) ∷ []) ≡ map (λ e. e.1) s.locals ++ t ∷ [] = map-append (λ e. e.1) s.locals ((ty, t) ∷ []) in
    let count = ap (sum_by node_count) terms in
    omega (arith, nodes-parts s, nodes-parts (with_new_local ty t s), count, sum_by-append node_count (map (λ e. e.1) s.locals) (t ∷ []))

nodes-new-global : (t : Term) (s : State) → nodes_of (with_new_global (Some t) s) ≡ nodes_of s + node_count t
nodes-new-global t s =
    let terms : filter_map (λ o. o) (s.globals ++ Some t ∷ []) ≡ filter_map (λ o. o) s.globals ++ t ∷ [] = filter_map-append (λ o. o) s.globals (Some t ∷ []) in
    let count = ap (sum_by node_count) terms in
    omega (arith, nodes-parts s, nodes-parts (with_new_global (Some t) s), count, sum_by-append node_count (filter_map (λ o. o) s.globals) (t ∷ []))

-- a tracked state with one more global
module _ (t : Inside) (is : IsTracked t) (gs : List (Option ℕ)) (nodes : ℕ) (small : nodes ≤ 1000000) where
  global-grown : (o : Option ℕ) → gs ≡ t.state.globals ++ o ∷ [] → IfSome o (λ id. id < length t.table) → nodes ≡ t.nodes + option_nodes (option_map (tree_at t.table) o)
      → IsTracked (record t { state = record t.state { globals = gs }; nodes = nodes })
  global-grown o at low count =
      let olds : List (Option Term) = map (option_map (tree_at t.table)) t.state.globals in
      let new : Option Term = option_map (tree_at t.table) o in
      let seen : map (option_map (tree_at t.table)) gs ≡ olds ++ new ∷ [] = ap (map (option_map (tree_at t.table))) at ∙ map-append (option_map (tree_at t.table)) t.state.globals (o ∷ []) in
      let more : globals_nodes (map (option_map (tree_at t.table)) gs) ≡ globals_nodes olds + globals_nodes (new ∷ []) =
      ap globals_nodes seen ∙ ap (sum_by node_count) (filter_map-append (λ p. p) olds (new ∷ [])) ∙ sum_by-append node_count (filter_map (λ p. p) olds) (filter_map (λ p. p) (new ∷ [])) in
      let counted : nodes ≡ nodes_of (state_of t.table (record t.state { globals = gs })) =
      omega (arith, count, is.nodes, more, one new, nodes-parts (state_of t.table t.state), nodes-parts (state_of t.table (record t.state { globals = gs }))) in
      record {
        within = record {
          heap = is.within.heap;
          locals = is.within.locals;
          stack = is.within.stack;
          globals = subst (All (λ p. IfSome p (λ id. id < length t.table))) (sym at) (All-push (λ p. IfSome p (λ id. id < length t.table)) t.state.globals o is.within.globals low);
          pages = is.within.pages;
          args = is.within.args;
          given = is.within.given;
        };
        widths = is.widths;
        limits = record { variables = is.limits.variables; facts = is.limits.facts; chunks = is.limits.chunks; nodes = omega (arith, counted, small) };
        nodes = counted;
      }
    where
      one : (p : Option Term) → globals_nodes (p ∷ []) ≡ option_nodes p
      one None = refl
      one (Some u) = refl

  pub unstable-grown : gs ≡ t.state.globals ++ None ∷ [] → nodes ≡ t.nodes → IsTracked (record t { state = record t.state { globals = gs }; nodes = nodes })
  unstable-grown at count = global-grown None at tt (omega (arith, count))

  pub stable-grown : (id : ℕ) → gs ≡ t.state.globals ++ Some id ∷ [] → id < length t.table → nodes ≡ t.nodes + node_count (tree_at t.table id)
      → IsTracked (record t { state = record t.state { globals = gs }; nodes = nodes })
  stable-grown id at low count = global-grown (Some id) at low (omega (arith, count))

pub add-local-is : (ty : ValType) (t : Term) (s : State)
    → settled [] (with_new_local ty t s) ≡ (limits true (s.vars + 0) (length s.facts + 0) (length s.chunks + 0) (nodes_of s + node_count t) >> Ok (with_new_local ty t s))
add-local-is ty t s =
    settled-is [] (with_new_local ty t s) true (s.vars + 0) (length s.facts + 0) (length s.chunks + 0) (nodes_of s + node_count t) refl (omega arith) (omega arith) (omega arith) (nodes-new-local ty t s)

pub add-typed-local-is : (ty : ValType) (s : State)
    → settled [] (with_new_local ty (fresh s) (with_typed ty s)) ≡ (limits true (s.vars + 1) (length s.facts + 2) (length s.chunks + 0) (nodes_of s + 7) >> Ok (with_new_local ty (fresh s) (with_typed ty s)))
add-typed-local-is ty s =
    settled-is [] (with_new_local ty (fresh s) (with_typed ty s)) true (s.vars + 1) (length s.facts + 2) (length s.chunks + 0) (nodes_of s + 7) refl refl
    (length-append s.facts (from_zero_to (greatest_of ty) (fresh s))) (omega arith) (omega (arith, nodes-new-local ty (fresh s) (with_typed ty s), nodes-typed ty s, nodes-variable s.vars))

pub add-global-is : (t : Term) (s : State)
    → settled [] (with_new_global (Some t) s) ≡ (limits true (s.vars + 0) (length s.facts + 0) (length s.chunks + 0) (nodes_of s + node_count t) >> Ok (with_new_global (Some t) s))
add-global-is t s =
    settled-is [] (with_new_global (Some t) s) true (s.vars + 0) (length s.facts + 0) (length s.chunks + 0) (nodes_of s + node_count t) refl (omega arith) (omega arith) (omega arith) (nodes-new-global t s)

pub add-typed-global-is : (ty : ValType) (s : State)
    → global_unknown ty s ≡ (limits true (s.vars + 1) (length s.facts + 2) (length s.chunks + 0) (nodes_of s + 7) >> Ok (with_new_global (Some (fresh s)) (with_typed ty s)))
add-typed-global-is ty s =
    settled-is [] (with_new_global (Some (fresh s)) (with_typed ty s)) true (s.vars + 1) (length s.facts + 2) (length s.chunks + 0) (nodes_of s + 7) refl refl
    (length-append s.facts (from_zero_to (greatest_of ty) (fresh s))) (omega arith) (omega (arith, nodes-new-global (fresh s) (with_typed ty s), nodes-typed ty s, nodes-variable s.vars))

pub add-own-is : (n : ℕ) (s : State)
    → settled [] (record s { vars = s.vars + n }) ≡ (limits true (s.vars + n) (length s.facts + 0) (length s.chunks + 0) (nodes_of s) >> Ok (record s { vars = s.vars + n }))
add-own-is n s = settled-is [] (record s { vars = s.vars + n }) true (s.vars + n) (length s.facts + 0) (length s.chunks + 0) (nodes_of s) refl refl (omega arith) (omega arith) refl

pub ruleset entries = (add-local-is, add-typed-local-is, add-global-is, add-typed-global-is, add-own-is)

-- A tracked state with another term in a slot.
use Rattle.std.proofs.Common.{◌≡◌, ℕ, ◌+◌, ◌-◌, ◌<◌, ◌≤◌, List, [], ◌∷◌, ◌++◌, All, length, map, take, drop, reverse, Option, Some, IfSome, slice_set, sym, ap, subst, ◌∙◌, arith}
use Rattle.std.specs.Prelude.{option_map}
use Rattle.std.proofs.lemmas.Grind.{common_steps}
use Rattle.std.proofs.lemmas.List.{drop-drop, map-set, length-set, length-map}
use Rattle.heap_logic.specs.declared.heap.IdChunk.{IdChunk}
use Rattle.heap_logic.specs.Heaps.{chunk_of, ChunkWithin, HasWidth}
use Rattle.std.proofs.lemmas.List.Elements.{All-set, All-take}
use Rattle.wasm_values.specs.declared.number.ValType.{ValType}
use Rattle.term_trees.specs.Terms.{node_count}
use Rattle.term_logic.specs.Table.{tree_at}
use Rattle.outline_rules.specs.States.{State, nodes_of, with_local, with_operand, with_global, with_chunk, popped}
use Rattle.symbolic_state.specs.declared.tracked.TrackedState.TheInside.{Inside}
use Rattle.symbolic_state.specs.States.{entry_at, state_of}
use Rattle.symbolic_state.specs.Tracking.{IsTracked}
use Rattle.symbolic_state.specs.words.Entries.{with_id}
use Rattle.symbolic_state.proofs.Counting.{nodes-first}
use Rattle.symbolic_state.proofs.Lists.{reverse-push, with_id-trees, with_id-within, last-within}

module _ (t : Inside) (is : IsTracked t) (k id nodes : ℕ) (low : id < length t.table) (small : nodes ≤ 1000000) where
  local-state : (es : List (ValType × ℕ)) → es ≡ with_id t.state.locals k id
      → state_of t.table (record t.state { locals = es }) ≡ with_local k (tree_at t.table id) (state_of t.table t.state)
  local-state es at = λ j. record (state_of t.table t.state) { locals = (ap (map (entry_at t.table)) at ∙ with_id-trees t.table t.state.locals k id) j }

  pub local-replaced : (es : List (ValType × ℕ)) → es ≡ with_id t.state.locals k id → nodes ≡ nodes_of (with_local k (tree_at t.table id) (state_of t.table t.state))
      → IsTracked (record t { state = record t.state { locals = es }; nodes = nodes })
  local-replaced es at count =
      let counted : nodes ≡ nodes_of (state_of t.table (record t.state { locals = es })) = count ∙ sym (ap nodes_of (local-state es at)) in
      record {
        within = record { heap = is.within.heap; locals = subst (All (λ e. e.1 < length t.table)) (sym at) (with_id-within (length t.table) t.state.locals k id low is.within.locals); stack = is.within.stack; globals = is.within.globals; pages = is.within.pages; args = is.within.args; given = is.within.given };
        widths = is.widths;
        limits = record { variables = is.limits.variables; facts = is.limits.facts; chunks = is.limits.chunks; nodes = omega (arith, counted, small) };
        nodes = counted;
      }

  operand-state : (es : List (ValType × ℕ)) → reverse es ≡ with_id (reverse t.state.stack) k id
      → state_of t.table (record t.state { stack = es }) ≡ with_operand k (tree_at t.table id) (state_of t.table t.state)
  operand-state es at = λ j. record (state_of t.table t.state) { operands = (ap (map (entry_at t.table)) at ∙ with_id-trees t.table (reverse t.state.stack) k id) j }

  pub operand-replaced : (es : List (ValType × ℕ)) → reverse es ≡ with_id (reverse t.state.stack) k id → nodes ≡ nodes_of (with_operand k (tree_at t.table id) (state_of t.table t.state))
      → IsTracked (record t { state = record t.state { stack = es }; nodes = nodes })
  operand-replaced es at count =
      let counted : nodes ≡ nodes_of (state_of t.table (record t.state { stack = es })) = count ∙ sym (ap nodes_of (operand-state es at)) in
      record {
        within = record { heap = is.within.heap; locals = is.within.locals; stack = last-within (length t.table) t.state.stack es k id at low is.within.stack; globals = is.within.globals; pages = is.within.pages; args = is.within.args; given = is.within.given };
        widths = is.widths;
        limits = record { variables = is.limits.variables; facts = is.limits.facts; chunks = is.limits.chunks; nodes = omega (arith, counted, small) };
        nodes = counted;
      }

  global-state : (gs : List (Option ℕ)) → gs ≡ slice_set t.state.globals k (Some id)
      → state_of t.table (record t.state { globals = gs }) ≡ with_global k (tree_at t.table id) (state_of t.table t.state)
  global-state gs at = λ j. record (state_of t.table t.state) {
    globals = (ap (map (option_map (tree_at t.table))) at ∙ map-set (option_map (tree_at t.table)) t.state.globals k (Some id)) j;
  }

  pub global-replaced : (gs : List (Option ℕ)) → gs ≡ slice_set t.state.globals k (Some id) → nodes ≡ nodes_of (with_global k (tree_at t.table id) (state_of t.table t.state))
      → IsTracked (record t { state = record t.state { globals = gs }; nodes = nodes })
  global-replaced gs at count =
      let counted : nodes ≡ nodes_of (state_of t.table (record t.state { globals = gs })) = count ∙ sym (ap nodes_of (global-state gs at)) in
      record {
        within = record { heap = is.within.heap; locals = is.within.locals; stack = is.within.stack; globals = subst (All (λ o. IfSome o (λ i. i < length t.table))) (sym at) (All-set (λ o. IfSome o (λ i. i < length t.table)) t.state.globals k (Some id) low is.within.globals); pages = is.within.pages; args = is.within.args; given = is.within.given };
        widths = is.widths;
        limits = record { variables = is.limits.variables; facts = is.limits.facts; chunks = is.limits.chunks; nodes = omega (arith, counted, small) };
        nodes = counted;
      }

module _ (t : Inside) (is : IsTracked t) where
  pub operand-popped : (es : List (ValType × ℕ)) (id nodes : ℕ) (ty : ValType) → t.state.stack ≡ es ++ (ty, id) ∷ [] → nodes ≡ t.nodes - node_count (tree_at t.table id)
      → IsTracked (record t { state = record t.state { stack = es }; nodes = nodes })
  operand-popped es id nodes ty at count =
      let old = state_of t.table t.state in
      let tops : old.operands ≡ (ty, tree_at t.table id) ∷ map (entry_at t.table) (reverse es) = ap (λ xs. map (entry_at t.table) (reverse xs)) at ∙ ap (map (entry_at t.table)) (reverse-push es (ty, id)) in
      let left : state_of t.table (record t.state { stack = es }) ≡ popped 1 old = λ j. record old { operands = ap (drop 1) (sym tops) j } in
      let fewer : nodes_of (state_of t.table (record t.state { stack = es })) ≡ nodes_of (popped 1 old) = ap nodes_of left in
      let first = nodes-first (tree_at t.table id) ty (map (entry_at t.table) (reverse es)) old tops in
      let counted : nodes ≡ nodes_of (state_of t.table (record t.state { stack = es })) = omega (arith, count, is.nodes, fewer, first) in
      record {
        within = record {
          heap = is.within.heap;
          locals = is.within.locals;
          stack = subst (All (λ e. e.1 < length t.table)) (ap (take (length es)) at ∙ grind (arith, common_steps)) (All-take (λ e. e.1 < length t.table) (length es) t.state.stack is.within.stack);
          globals = is.within.globals;
          pages = is.within.pages;
          args = is.within.args;
          given = is.within.given;
        };
        widths = is.widths;
        limits = record { variables = is.limits.variables; facts = is.limits.facts; chunks = is.limits.chunks; nodes = let all = is.limits.nodes in omega (arith, counted, fewer, first, all) };
        nodes = counted;
      }

pub popped-more : (k : ℕ) (s : State) → popped 1 (popped k s) ≡ popped (k + 1) s
popped-more k s = λ j. record s { operands = drop-drop 1 k s.operands j }

module _ (t : Inside) (is : IsTracked t) (k nodes : ℕ) (small : nodes ≤ 1000000) (chunk : IdChunk) (low : ChunkWithin (length t.table) chunk) (wide : HasWidth chunk) where
  pub chunk-state : (cs : List IdChunk) → cs ≡ slice_set t.state.heap.chunks k chunk
      → state_of t.table (record t.state { heap = record t.state.heap { chunks = cs } }) ≡ with_chunk k (chunk_of t.table chunk) (state_of t.table t.state)
  chunk-state cs at = λ j. record (state_of t.table t.state) { chunks = (ap (map (chunk_of t.table)) at ∙ map-set (chunk_of t.table) t.state.heap.chunks k chunk) j }

  pub chunk-replaced : (cs : List IdChunk) → cs ≡ slice_set t.state.heap.chunks k chunk → nodes ≡ nodes_of (with_chunk k (chunk_of t.table chunk) (state_of t.table t.state))
      → IsTracked (record t { state = record t.state { heap = record t.state.heap { chunks = cs } }; nodes = nodes })
  chunk-replaced cs at count =
      let state = chunk-state cs at in
      let counted : nodes ≡ nodes_of (state_of t.table (record t.state { heap = record t.state.heap { chunks = cs } })) = count ∙ sym (ap nodes_of state) in
      let many : length cs ≡ length t.state.heap.chunks = ap length at ∙ length-set t.state.heap.chunks k chunk in
      let chunks = is.limits.chunks in
      record {
        within = record {
          heap = record { facts = is.within.heap.facts; chunks = subst (All (λ c. ChunkWithin (length t.table) c)) (sym at) (All-set (λ c. ChunkWithin (length t.table) c) t.state.heap.chunks k chunk low is.within.heap.chunks) };
          locals = is.within.locals;
          stack = is.within.stack;
          globals = is.within.globals;
          pages = is.within.pages;
          args = is.within.args;
          given = is.within.given;
        };
        widths = subst (All HasWidth) (sym at) (All-set HasWidth t.state.heap.chunks k chunk wide is.widths);
        limits = record {
          variables = is.limits.variables;
          facts = is.limits.facts;
          chunks = omega (arith, many, chunks, length-map cs (chunk_of t.table), length-map t.state.heap.chunks (chunk_of t.table));
          nodes = omega (arith, counted, small);
        };
        nodes = counted;
      }

-- The nodes of a state by its parts, and of changed states.
use Rattle.std.proofs.Common.{◌≡◌, ℕ, zero, suc, ◌+◌, List, [], ◌∷◌, ◌++◌, map, drop, sum_by, filter_map, refl, sym, ap, ◌∙◌, arith}
use Rattle.std.specs.Prelude.{Option, Some, None, option_map, option_to_list, slice_get, slice_set}
use Rattle.std.specs.Option.{option_map_or}
use Rattle.std.proofs.lemmas.List.Sums.{sum_by-append, sum_by-cons}
use Rattle.wasm_values.specs.declared.number.ValType.{ValType}
use Rattle.term_trees.specs.declared.term.Term.{Term}
use Rattle.term_trees.specs.declared.term.Formula.{Formula}
use Rattle.term_trees.specs.declared.term.Term.TheVariants as term
use Rattle.term_trees.specs.Terms.{node_count}
use Rattle.term_trees.specs.Formulas.{formula_nodes}
use Rattle.outline_rules.specs.Chunks.{chunk_nodes}
use Rattle.outline_rules.specs.States.{State, nodes_of, number, fresh, greatest_of, from_zero_to, with_facts, with_top, with_typed, with_term, with_local, with_operand, with_global, with_pages, popped}
use Rattle.symbolic_state.proofs.Facts.{nodes-number, nodes-variable, nodes-le}

-- the nodes of entries, of globals and of a page count
abbrev pub entries_nodes : List (ValType × Term) → ℕ
entries_nodes es = sum_by node_count (map (λ e. e.1) es)

abbrev pub globals_nodes : List (Option Term) → ℕ
globals_nodes gs = sum_by node_count (filter_map (λ t. t) gs)

abbrev pub option_nodes : Option Term → ℕ
option_nodes o = sum_by node_count (option_to_list o)

pub nodes-parts : (s : State) → nodes_of s ≡ sum_by formula_nodes s.facts + sum_by chunk_nodes s.chunks + (entries_nodes s.locals + entries_nodes s.operands + globals_nodes s.globals + option_nodes s.pages)
nodes-parts s =
    let locals : List Term = map (λ e. e.1) s.locals in
    let operands : List Term = map (λ e. e.1) s.operands in
    let globals : List Term = filter_map (λ t. t) s.globals in
    let pages : List Term = option_to_list s.pages in
    omega (arith, sum_by-append node_count (locals ++ operands ++ globals) pages, sum_by-append node_count (locals ++ operands) globals, sum_by-append node_count locals operands)

pub nodes-facts : (fs : List Formula) (s : State) → nodes_of (with_facts fs s) ≡ nodes_of s + sum_by formula_nodes fs
nodes-facts fs s = omega (arith, nodes-parts s, nodes-parts (with_facts fs s), sum_by-append formula_nodes s.facts fs)

pub nodes-top : (ty : ValType) (t : Term) (s : State) → nodes_of (with_top ty t s) ≡ nodes_of s + node_count t
nodes-top ty t s = omega (arith, nodes-parts s, nodes-parts (with_top ty t s), sum_by-cons node_count t (map (λ e. e.1) s.operands))

pub nodes-range : (n : ℕ) (k : ℕ) → sum_by formula_nodes (from_zero_to n (term.Var k)) ≡ 6
nodes-range n k =
    omega (arith, nodes-le (number 0) (term.Var k), nodes-le (term.Var k) (number n), nodes-number 0, nodes-number n, nodes-variable k)

pub nodes-typed : (ty : ValType) (s : State) → nodes_of (with_typed ty s) ≡ nodes_of s + 6
nodes-typed ty s = omega (arith, nodes-facts (from_zero_to (greatest_of ty) (fresh s)) s, nodes-range (greatest_of ty) s.vars)

-- ---- another term in a slot

with_term-nodes : (es : List (ValType × Term)) (k : ℕ) (t u : Term) → option_map (λ e. e.1) (slice_get es k) ≡ Some u → entries_nodes (with_term es k t) + node_count u ≡ entries_nodes es + node_count t
with_term-nodes [] k t u is = cc
with_term-nodes (d ∷ es) zero t u is =
    let same : node_count d.1 ≡ node_count u = ap (λ (o : Option Term). option_map_or node_count o 0) is in
    omega (arith, same, sum_by-cons node_count t (map (λ x. x.1) es), sum_by-cons node_count d.1 (map (λ x. x.1) es))
with_term-nodes (d ∷ es) (suc k) t u is =
    omega (arith, with_term-nodes es k t u is, sum_by-cons node_count d.1 (map (λ x. x.1) es), sum_by-cons node_count d.1 (map (λ x. x.1) (with_term es k t)))

with_term-past : (es : List (ValType × Term)) (k : ℕ) (t : Term) → option_map (λ e. e.1) (slice_get es k) ≡ None → with_term es k t ≡ es
with_term-past [] k t is = refl
with_term-past (d ∷ es) zero t is = cc
with_term-past (d ∷ es) (suc k) t is = ap (λ r. d ∷ r) (with_term-past es k t is)

set-nodes : (gs : List (Option Term)) (k : ℕ) (t : Term) (o : Option Term) → slice_get gs k ≡ Some o → globals_nodes (slice_set gs k (Some t)) + option_nodes o ≡ globals_nodes gs + node_count t
set-nodes [] k t o is = cc
set-nodes (None ∷ gs) zero t o is =
    let same : 0 ≡ option_nodes o = ap (λ (p : Option (Option Term)). option_map_or option_nodes p 0) is in
    omega (arith, same, sum_by-cons node_count t (filter_map (λ x. x) gs))
set-nodes (Some u ∷ gs) zero t o is =
    let same : option_nodes (Some u) ≡ option_nodes o = ap (λ (p : Option (Option Term)). option_map_or option_nodes p 0) is in
    omega (arith, same, sum_by-cons node_count t (filter_map (λ x. x) gs), sum_by-cons node_count u (filter_map (λ x. x) gs))
set-nodes (None ∷ gs) (suc k) t o is = set-nodes gs k t o is
set-nodes (Some u ∷ gs) (suc k) t o is =
    omega (arith, set-nodes gs k t o is, sum_by-cons node_count u (filter_map (λ x. x) gs), sum_by-cons node_count u (filter_map (λ x. x) (slice_set gs k (Some t))))

set-past : (gs : List (Option Term)) (k : ℕ) (t : Term) → slice_get gs k ≡ None → slice_set gs k (Some t) ≡ gs
set-past [] k t is = refl
set-past (g ∷ gs) zero t is = cc
set-past (g ∷ gs) (suc k) t is = ap (λ r. g ∷ r) (set-past gs k t is)

module _ (s : State) (k : ℕ) (t : Term) where
  pub nodes-local : (u : Term) → Some u ≡ option_map (λ e. e.1) (slice_get s.locals k) → nodes_of (with_local k t s) + node_count u ≡ nodes_of s + node_count t
  nodes-local u is = omega (arith, nodes-parts s, nodes-parts (with_local k t s), with_term-nodes s.locals k t u (sym is))

  pub nodes-local-past : None ≡ option_map (λ e. e.1) (slice_get s.locals k) → nodes_of (with_local k t s) ≡ nodes_of s
  nodes-local-past is = ap (λ es. nodes_of (record s { locals = es })) (with_term-past s.locals k t (sym is))

  pub nodes-operand : (u : Term) → Some u ≡ option_map (λ e. e.1) (slice_get s.operands k) → nodes_of (with_operand k t s) + node_count u ≡ nodes_of s + node_count t
  nodes-operand u is = omega (arith, nodes-parts s, nodes-parts (with_operand k t s), with_term-nodes s.operands k t u (sym is))

  pub nodes-operand-past : None ≡ option_map (λ e. e.1) (slice_get s.operands k) → nodes_of (with_operand k t s) ≡ nodes_of s
  nodes-operand-past is = ap (λ es. nodes_of (record s { operands = es })) (with_term-past s.operands k t (sym is))

  pub nodes-global : (u : Term) → Some (Some u) ≡ slice_get s.globals k → nodes_of (with_global k t s) + node_count u ≡ nodes_of s + node_count t
  nodes-global u is = omega (arith, nodes-parts s, nodes-parts (with_global k t s), set-nodes s.globals k t (Some u) (sym is))

  pub nodes-global-new : Some None ≡ slice_get s.globals k → nodes_of (with_global k t s) ≡ nodes_of s + node_count t
  nodes-global-new is = omega (arith, nodes-parts s, nodes-parts (with_global k t s), set-nodes s.globals k t None (sym is))

  pub nodes-global-past : None ≡ slice_get s.globals k → nodes_of (with_global k t s) ≡ nodes_of s
  nodes-global-past is = ap (λ gs. nodes_of (record s { globals = gs })) (set-past s.globals k t (sym is))

module _ (s : State) (t : Term) where
  pub nodes-pages : (u : Term) → s.pages ≡ Some u → nodes_of (with_pages t s) + node_count u ≡ nodes_of s + node_count t
  nodes-pages u is = let same : option_nodes s.pages ≡ option_nodes (Some u) = ap option_nodes is in omega (arith, same, nodes-parts s, nodes-parts (with_pages t s))

  pub nodes-pages-new : s.pages ≡ None → nodes_of (with_pages t s) ≡ nodes_of s + node_count t
  nodes-pages-new is = let same : option_nodes s.pages ≡ 0 = ap option_nodes is in omega (arith, same, nodes-parts s, nodes-parts (with_pages t s))

pub ruleset slot_nodes = (nodes-local, nodes-local-past, nodes-operand, nodes-operand-past, nodes-global, nodes-global-new, nodes-global-past, nodes-pages, nodes-pages-new)

-- ---- operands that are popped

pub nodes-first : (t : Term) (ty : ValType) (rest : List (ValType × Term)) (s : State) → s.operands ≡ (ty, t) ∷ rest → nodes_of (popped 1 s) + node_count t ≡ nodes_of s
nodes-first t ty rest s is =
    let first : entries_nodes s.operands ≡ node_count t + entries_nodes rest = ap entries_nodes is ∙ sum_by-cons node_count t (map (λ e. e.1) rest) in
    let others : entries_nodes (drop 1 s.operands) ≡ entries_nodes rest = ap (λ es. entries_nodes (drop 1 es)) is in
    omega (arith, nodes-parts s, nodes-parts (popped 1 s), first, others)

pub ruleset popping = (nodes-first)

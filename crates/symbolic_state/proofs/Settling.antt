-- What settling a changed state comes to: the limits of its numbers.
use Rattle.std.proofs.Common.{◌≡◌, ℕ, ◌+◌, ◌≤◌, ◌<◌, min, Bool, ◌&&◌, true, false, List, [], ◌∷◌, ◌++◌, map, length, refl, sym, ap, ◌∙◌, arith}
use Rattle.std.specs.Prelude.{nat_le, Ok, Some}
use Rattle.std.specs.List.{list_all}
use Rattle.std.proofs.lemmas.List.{length-append}
use Rattle.wasm_values.specs.declared.number.ValType.{ValType}
use Rattle.term_trees.specs.declared.term.Term.{Term}
use Rattle.term_trees.specs.declared.term.Formula.{Formula}
use Rattle.term_trees.specs.declared.term.Formula.TheVariants as formula
use Rattle.term_trees.specs.Terms.{node_count}
use Rattle.term_trees.specs.Formulas.{formula_nodes}
use Rattle.std.proofs.lemmas.Bool.{le-leb, lt-leb, leb-false, leb-true}
use Rattle.wasm_values.specs.declared.limit.LimitWord.TheVariants as limit
use Rattle.outline_rules.specs.Refusals.{limited, ◌>>◌}
use Rattle.outline_rules.specs.States.{State, nodes_of, settled, greatest_of, from_zero_to, fresh, with_top, number, page_facts, pages_added, with_typed, with_facts, with_local, with_operand, with_global, with_pages, fact_added, pushed, typed_pushed}
use Rattle.outline_rules.specs.Renewal.{global_renewed}
use Rattle.outline_rules.specs.Blocks.{local_renewed}
use Rattle.symbolic_state.specs.States.{WithinLimits}
use Rattle.symbolic_state.specs.words.Limits.{limits}
use Rattle.symbolic_state.proofs.Facts.{nodes-variable, nodes-number, nodes-le}
use Rattle.symbolic_state.proofs.Counting.{nodes-facts, nodes-top, nodes-typed}

pub settled-is : (made : List ℕ) (t : State) (b : Bool) (v f c n : ℕ) → list_all (λ k. nat_le k 4096) made ≡ b → t.vars ≡ v → length t.facts ≡ f → length t.chunks ≡ c → nodes_of t ≡ n
    → settled made t ≡ (limits b v f c n >> Ok t)
unfolding settled
settled-is made t b v f c n e ev ef ec en = λ j. limits (e j) (ev j) (ef j) (ec j) (en j) >> Ok t

pub typed-pushed-is : (ty : ValType) (s : State) → typed_pushed ty s ≡ (limits true (s.vars + 1) (length s.facts + 2) (length s.chunks + 0) (nodes_of s + 7) >> Ok (with_top ty (fresh s) (with_typed ty s)))
typed-pushed-is ty s = settled-is [] (with_top ty (fresh s) (with_typed ty s)) true _ _ _ _ refl refl (length-append s.facts (from_zero_to (greatest_of ty) (fresh s))) (omega arith) (omega (arith, nodes-top ty (fresh s) (with_typed ty s), nodes-typed ty s, nodes-variable s.vars))

pub pushed-is : (ty : ValType) (t : Term) (s : State) → pushed ty t s ≡ (limits true (s.vars + 0) (length s.facts + 0) (length s.chunks + 0) (nodes_of s + node_count t) >> Ok (with_top ty t s))
pushed-is ty t s = settled-is [] (with_top ty t s) true (s.vars + 0) (length s.facts + 0) (length s.chunks + 0) (nodes_of s + node_count t) refl (omega arith) (omega arith) (omega arith) (nodes-top ty t s)

-- the same test of two numbers
pub same-test : (m n k : ℕ) → (m ≤ k → n ≤ k) → (n ≤ k → m ≤ k) → nat_le m k ≡ nat_le n k
same-test m n k there back = by_both (nat_le m k) (nat_le n k) refl refl
  where
    by_both : (b d : Bool) → nat_le m k ≡ b → nat_le n k ≡ d → nat_le m k ≡ nat_le n k
    by_both true true e f = e ∙ sym f
    by_both false false e f = e ∙ sym f
    by_both true false e f =
        let low : n ≤ k = there (leb-true m k e) in
        let high : k < n = leb-false n k f in
        absurd (omega (arith, low, high))
    by_both false true e f =
        let low : m ≤ k = back (leb-true n k f) in
        let high : k < m = leb-false m k e in
        absurd (omega (arith, low, high))

and-true : (b : Bool) → (b && true) ≡ b
and-true true = refl
and-true false = refl

-- a test of one made formula comes first
made-first : (b : Bool) (v f c n : ℕ) (t : State) → (limits (b && true) v f c n >> Ok t) ≡ (limited limit.Nodes b >> (limits true v f c n >> Ok t))
made-first true v f c n t = refl
made-first false v f c n t = refl

pub fact-added-is : (f : Formula) (s : State) → fact_added f s ≡ (limited limit.Nodes (nat_le (formula_nodes f) 4096) >> (limits true (s.vars + 0) (length s.facts + 1) (length s.chunks + 0) (nodes_of s + formula_nodes f) >> Ok (with_facts (f ∷ []) s)))
fact-added-is f s =
    settled-is (formula_nodes f ∷ []) (with_facts (f ∷ []) s) (nat_le (formula_nodes f) 4096 && true) (s.vars + 0) (length s.facts + 1) (length s.chunks + 0) (nodes_of s + formula_nodes f)
    refl (omega arith) (length-append s.facts (f ∷ [])) (omega arith) (omega (arith, nodes-facts (f ∷ []) s))
    ∙ made-first (nat_le (formula_nodes f) 4096) (s.vars + 0) (length s.facts + 1) (length s.chunks + 0) (nodes_of s + formula_nodes f) (with_facts (f ∷ []) s)

pub within-is : (s : State) → WithinLimits s → settled [] s ≡ Ok s
within-is s w =
    settled-is [] s true _ _ _ _ refl refl refl refl refl
    ∙ λ j. (limited limit.Variables (le-leb s.vars 1000000 w.variables j) >> limited limit.Facts (le-leb (length s.facts) 4096 w.facts j)
    >> limited limit.Chunks (le-leb (length s.chunks) 1024 w.chunks j) >> limited limit.State (le-leb (nodes_of s) 1000000 w.nodes j) >> Ok s)

-- a state that differs in slots alone
module _ (s t : State) (vars : t.vars ≡ s.vars) (facts : t.facts ≡ s.facts) (chunks : t.chunks ≡ s.chunks) where
  slots-settled : settled [] t ≡ (limits true (s.vars + 0) (length s.facts + 0) (length s.chunks + 0) (nodes_of t) >> Ok t)
  slots-settled = settled-is [] t true (s.vars + 0) (length s.facts + 0) (length s.chunks + 0) (nodes_of t) refl
      (omega (arith, vars)) (let same = ap length facts in omega (arith, same)) (let same = ap length chunks in omega (arith, same)) refl

  -- and has a typed variable more
  typed-settled : (ty : ValType) → settled [] (with_typed ty t) ≡ (limits true (s.vars + 1) (length s.facts + 2) (length s.chunks + 0) (nodes_of t + 6) >> Ok (with_typed ty t))
  typed-settled ty = settled-is [] (with_typed ty t) true (s.vars + 1) (length s.facts + 2) (length s.chunks + 0) (nodes_of t + 6) refl
      (omega (arith, vars)) (let same = ap length facts in omega (arith, same, length-append t.facts (from_zero_to (greatest_of ty) (fresh t))))
      (let same = ap length chunks in omega (arith, same)) (nodes-typed ty t)

module _ (k : ℕ) (t : Term) (s : State) where
  pub set-local-is : settled [] (with_local k t s) ≡ (limits true (s.vars + 0) (length s.facts + 0) (length s.chunks + 0) (nodes_of (with_local k t s)) >> Ok (with_local k t s))
  set-local-is = slots-settled s (with_local k t s) refl refl refl

  pub set-operand-is : settled [] (with_operand k t s) ≡ (limits true (s.vars + 0) (length s.facts + 0) (length s.chunks + 0) (nodes_of (with_operand k t s)) >> Ok (with_operand k t s))
  set-operand-is = slots-settled s (with_operand k t s) refl refl refl

  pub set-global-is : settled [] (with_global k t s) ≡ (limits true (s.vars + 0) (length s.facts + 0) (length s.chunks + 0) (nodes_of (with_global k t s)) >> Ok (with_global k t s))
  set-global-is = slots-settled s (with_global k t s) refl refl refl

pub set-pages-is : (t : Term) (s : State) → settled [] (with_pages t s) ≡ (limits true (s.vars + 0) (length s.facts + 0) (length s.chunks + 0) (nodes_of (with_pages t s)) >> Ok (with_pages t s))
set-pages-is t s = slots-settled s (with_pages t s) refl refl refl

pub renew-local-is : (k : ℕ) (ty : ValType) (s : State)
    → local_renewed k ty s ≡ (limits true (s.vars + 1) (length s.facts + 2) (length s.chunks + 0) (nodes_of (with_local k (fresh s) s) + 6) >> Ok (with_typed ty (with_local k (fresh s) s)))
renew-local-is k ty s = typed-settled s (with_local k (fresh s) s) refl refl refl ty

pub renew-global-is : (k : ℕ) (ty : ValType) (s : State)
    → global_renewed k ty s ≡ (limits true (s.vars + 1) (length s.facts + 2) (length s.chunks + 0) (nodes_of (with_global k (fresh s) s) + 6) >> Ok (with_typed ty (with_global k (fresh s) s)))
renew-global-is k ty s = typed-settled s (with_global k (fresh s) s) refl refl refl ty

abbrev paged : Term → State → State
paged p s = record s { vars = s.vars + 1; facts = s.facts ++ page_facts p (fresh s); pages = Some (fresh s) }

pub pages-added-is : (p : Term) (s : State)
    → pages_added p s ≡ (limits (nat_le (2 + node_count p) 4096) (s.vars + 1) (length s.facts + 2) (length s.chunks + 0) (nodes_of (with_pages (fresh s) s) + (2 + node_count p) + 3)
    >> Ok (record s { vars = s.vars + 1; facts = s.facts ++ page_facts p (fresh s); pages = Some (fresh s) }))
pages-added-is p s =
    let first : formula_nodes (formula.Le p (fresh s)) ≡ 2 + node_count p = omega (arith, nodes-le p (fresh s), nodes-variable s.vars) in
    let second : formula_nodes (formula.Le (fresh s) (number 65536)) ≡ 3 = omega (arith, nodes-le (fresh s) (number 65536), nodes-variable s.vars, nodes-number 65536) in
    settled-is (map formula_nodes (page_facts p (fresh s))) (paged p s) (nat_le (2 + node_count p) 4096) (s.vars + 1) (length s.facts + 2) (length s.chunks + 0)
    (nodes_of (with_pages (fresh s) s) + (2 + node_count p) + 3)
    ((λ j. nat_le (first j) 4096 && (nat_le (second j) 4096 && true)) ∙ and-true (nat_le (2 + node_count p) 4096))
    refl (length-append s.facts (page_facts p (fresh s))) (omega arith)
    (let parts = nodes-facts (page_facts p (fresh s)) (record (with_pages (fresh s) s) { vars = s.vars + 1 }) in omega (arith, parts, first, second))

pub ruleset settlings = (typed-pushed-is, pushed-is, fact-added-is, within-is)

pub ruleset slot_settlings = (set-local-is, set-operand-is, set-global-is, set-pages-is)

pub ruleset renewals = (renew-local-is, renew-global-is, pages-added-is)

pub ruleset counts = (le-leb, lt-leb)

-- What taking a term or a formula comes to.
use Rattle.std.proofs.Common.{◌≡◌, ℕ, ◌+◌, ◌≤◌, ◌<◌, Bool, true, false, refl, sym, ap, subst, ◌∙◌, arith}
use Rattle.std.specs.Prelude.{nat_le, Result, Ok, Err, min, pos, IfOk}
use Rattle.std.proofs.lemmas.Bool.{lt-leb, leb-false, leb-true, le-leb}
use Rattle.wasm_values.specs.declared.limit.LimitWord.TheVariants as limit
use Rattle.term_trees.specs.declared.term.Place.{Place}
use Rattle.term_trees.specs.declared.term.Term.{Term, fold-roll-Term}
use Rattle.term_trees.specs.declared.term.Term.TheOpen as layer
use Rattle.term_trees.specs.declared.term.Term.TheVariants as term
use Rattle.term_trees.specs.declared.term.Formula.{Formula}
use Rattle.term_trees.specs.Terms.{nodes_here, node_count}
use Rattle.term_trees.specs.Formulas.{formula_nodes}
use Rattle.term_trees.specs.Leaves.{Leaves, replaced, replaced_formula}
use Rattle.notes.specs.declared.reason.Reason.TheVariants as reason
use Rattle.outline_rules.specs.Refusals.{Ruling, Refusal, wanted, limited, refused, PastLimit, ◌>>=◌, ◌>>◌}
use Rattle.outline_rules.specs.States.{number}
use Rattle.heap_logic.specs.words.Making.{made}
use Rattle.heap_logic.specs.declared.fault.MoveFault.{MoveFault}
use Rattle.heap_logic.specs.Faults.{refusal_of}
use Rattle.wasm_values.specs.Answers.{Gives}
use Rattle.outline_rules.specs.Leaves.{has_leaves, formula_has_leaves, taken, taken_formula}

abbrev gone : {A : Type 0} → Bool → Bool → A → Ruling A
gone there small a = wanted reason.Scope there >> limited limit.Nodes small >> Ok a

module _ (l : Leaves) (t : Term) where
  pub not-there : has_leaves l t ≡ false → taken l t ≡ refused reason.Scope
  not-there e = ap (λ b. gone b (nat_le (node_count (replaced l t)) 4096) (replaced l t)) e

  pub too-large : has_leaves l t ≡ true → nat_le (node_count (replaced l t)) 4096 ≡ false → taken l t ≡ Err (PastLimit limit.Nodes)
  too-large e f = λ j. gone (e j) (f j) (replaced l t)

  pub there : has_leaves l t ≡ true → nat_le (node_count (replaced l t)) 4096 ≡ true → taken l t ≡ Ok (replaced l t)
  there e f = λ j. gone (e j) (f j) (replaced l t)

module _ (l : Leaves) (f : Formula) where
  pub formula-not-there : formula_has_leaves l f ≡ false → taken_formula l f ≡ refused reason.Scope
  formula-not-there e = ap (λ b. gone b (nat_le (formula_nodes (replaced_formula l f)) 4096) (replaced_formula l f)) e

  pub formula-too-large : formula_has_leaves l f ≡ true → nat_le (formula_nodes (replaced_formula l f)) 4096 ≡ false → taken_formula l f ≡ Err (PastLimit limit.Nodes)
  formula-too-large e h = λ j. gone (e j) (h j) (replaced_formula l f)

  pub formula-there : formula_has_leaves l f ≡ true → nat_le (formula_nodes (replaced_formula l f)) 4096 ≡ true → taken_formula l f ≡ Ok (replaced_formula l f)
  formula-there e h = λ j. gone (e j) (h j) (replaced_formula l f)

-- ---- what is made

module _ (t : Term) where
  pub made-large : nat_le (node_count t) 4096 ≡ false → made t ≡ Err (PastLimit limit.Nodes)
  made-large e = ap (λ b. limited limit.Nodes b >> Ok t) e

  pub made-small : nat_le (node_count t) 4096 ≡ true → made t ≡ Ok t
  made-small e = ap (λ b. limited limit.Nodes b >> Ok t) e

pub nodes-number : (n : ℕ) → node_count (number n) ≡ 1
nodes-number n = ap node_count (sym (term.rolls-Num (pos n))) ∙ fold-roll-Term ℕ nodes_here (layer.Num (pos n))

-- a number is within the limit
pub made-number : (n : ℕ) → made (number n) ≡ Ok (number n)
made-number n = made-small (number n) (ap (λ k. nat_le k 4096) (nodes-number n))

pub nodes-mul : (a b : Term) → node_count (term.Mul a b) ≡ 1 + node_count a + node_count b
nodes-mul a b = ap node_count (sym (term.rolls-Mul a b)) ∙ fold-roll-Term ℕ nodes_here (layer.Mul a b)

pub nodes-add : (a b : Term) → node_count (term.Add a b) ≡ 1 + node_count a + node_count b
nodes-add a b = ap node_count (sym (term.rolls-Add a b)) ∙ fold-roll-Term ℕ nodes_here (layer.Add a b)

-- a part of a sum is within the limit where the sum is
pub made-part : (u t : Term) → (made t >>= λ x. made (term.Add u x)) ≡ made (term.Add u t)
made-part u t = part_by (nat_le (node_count t) 4096) refl
  where
    part_by : (b : Bool) → nat_le (node_count t) 4096 ≡ b → (made t >>= λ x. made (term.Add u x)) ≡ made (term.Add u t)
    part_by true e = ap (λ r. r >>= λ x. made (term.Add u x)) (made-small t e)
    part_by false e =
        ap (λ r. r >>= λ x. made (term.Add u x)) (made-large t e)
        ∙ sym (made-large (term.Add u t) (lt-leb (node_count (term.Add u t)) 4096 (let h = leb-false (node_count t) 4096 e in omega (arith, nodes-add u t, h))))

pub ruleset makings = (made-number, made-part)

pub nodes-place : (p : Place) → node_count (term.At p) ≡ 1
nodes-place p = ap node_count (sym (term.rolls-At p)) ∙ fold-roll-Term ℕ nodes_here (layer.At p)

-- a test of a number that ends at a greatest one
pub capped-test : (x cap most : ℕ) → most < cap → nat_le (min x cap) most ≡ nat_le x most
capped-test x cap most low = by_test (nat_le x most) refl
  where
    by_test : (b : Bool) → nat_le x most ≡ b → nat_le (min x cap) most ≡ nat_le x most
    by_test true e = let h = leb-true x most e in le-leb (min x cap) most (omega (arith, h)) ∙ sym e
    by_test false e = let h = leb-false x most e in lt-leb (min x cap) most (omega (arith, h, low)) ∙ sym e

pub ruleset capped_tests = (capped-test)

no_ruling : {A : Type 0} {e : Refusal} {a : A} → Err e ≡ Ok a → ⊥
no_ruling is = subst (λ r. on_refusal r) is tt
  where
    on_refusal : {A : Type 0} → Ruling A → Type 0
    on_refusal (Ok a) = ⊥
    on_refusal (Err e) = Unit {0}

-- what is made is within the limit
pub made-within : (t u : Term) → made t ≡ Ok u → node_count t ≤ 4096
made-within t u is = by_size (nat_le (node_count t) 4096) refl
  where
    by_size : (b : Bool) → nat_le (node_count t) 4096 ≡ b → node_count t ≤ 4096
    by_size true e = leb-true (node_count t) 4096 e
    by_size false e = absurd (no_ruling (sym (made-large t e) ∙ is))

-- the term of a ruling, or another
abbrev term_or : Term → Ruling Term → Term
term_or t (Ok u) = u
term_or t (Err e) = t

-- what is made is the term
pub made-is : (t u : Term) → made t ≡ Ok u → t ≡ u
made-is t u is = by_size (nat_le (node_count t) 4096) refl
  where
    by_size : (b : Bool) → nat_le (node_count t) 4096 ≡ b → t ≡ u
    by_size true e = ap (term_or t) (sym (made-small t e) ∙ is)
    by_size false e = absurd (no_ruling (sym (made-large t e) ∙ is))

-- an index has few nodes where the address behind so many cells is made
pub address-small : {X : Type 0} (view : X → Term) (w : ℕ) (a i d : Term) (r : Result X MoveFault) → made (term.Mul (number w) i) ≡ Ok d → Gives refusal_of view r (made (term.Add a d))
    → IfOk r (λ x. node_count i + 2 ≤ 4096)
address-small view w a i d (Ok x) first gives =
    let small = made-within (term.Add a d) (view x) gives in
    omega (arith, small, nodes-add a d, ap node_count (made-is (term.Mul (number w) i) d first), nodes-mul (number w) i, nodes-number w)
address-small view w a i d (Err e) first gives = tt

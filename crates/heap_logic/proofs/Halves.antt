-- The nodes of the fact that joins two halves.
use Rattle.std.proofs.Common.{◌≡◌, ℕ, ◌+◌, ◌^◌, sym, ap, ◌∙◌, arith}
use Rattle.std.specs.Prelude.{nat_le, Ok}
use Rattle.term_trees.specs.declared.term.Term.{Term, fold-roll-Term}
use Rattle.term_trees.specs.declared.term.Term.TheOpen as layer
use Rattle.term_trees.specs.declared.term.Term.TheVariants as term
use Rattle.term_trees.specs.declared.term.Formula.{fold-roll-Formula}
use Rattle.term_trees.specs.declared.term.Formula.TheOpen as form_layer
use Rattle.term_trees.specs.declared.term.Formula.TheVariants as formula
use Rattle.term_trees.specs.Terms.{nodes_here, node_count}
use Rattle.term_trees.specs.Formulas.{formula_nodes_here, formula_nodes}
use Rattle.outline_rules.specs.States.{number}
use Rattle.outline_rules.specs.HeapMoves.{joined_value}
use Rattle.heap_logic.specs.words.Plans.{joined_made}
use Rattle.heap_logic.proofs.Takings.{made-part, made-small, nodes-mul, nodes-add, nodes-number}

nodes-variable : (k : ℕ) → node_count (term.Var k) ≡ 1
nodes-variable k = ap node_count (sym (term.rolls-Var k)) ∙ fold-roll-Term ℕ nodes_here (layer.Var k)

nodes-eq : (a b : Term) → formula_nodes (formula.Eq a b) ≡ 1 + node_count a + node_count b
nodes-eq a b = ap formula_nodes (sym (formula.rolls-Eq a b)) ∙ fold-roll-Formula ℕ formula_nodes_here (form_layer.Eq a b)

pub nodes-halves : (h k m : ℕ) (t : Term) → formula_nodes (formula.Eq t (joined_value h (term.Var k) (term.Var m))) ≡ node_count t + 6
nodes-halves h k m t =
    let u = term.Var k in
    let v = term.Var m in
    omega (arith, nodes-eq t (joined_value h u v), nodes-add u (term.Mul (number (256 ^ h)) v), nodes-mul (number (256 ^ h)) v, nodes-number (256 ^ h), nodes-variable k, nodes-variable m)

nodes-joined : (h k m : ℕ) → node_count (joined_value h (term.Var k) (term.Var m)) ≡ 5
nodes-joined h k m =
    let u = term.Var k in
    let v = term.Var m in
    omega (arith, nodes-add u (term.Mul (number (256 ^ h)) v), nodes-mul (number (256 ^ h)) v, nodes-number (256 ^ h), nodes-variable k, nodes-variable m)

-- two variables join within the limit
pub halves-fit : (h k m : ℕ) → joined_made h (term.Var k) (term.Var m) ≡ Ok (joined_value h (term.Var k) (term.Var m))
halves-fit h k m =
    let u = term.Var k in
    let v = term.Var m in
    made-part u (term.Mul (number (256 ^ h)) v) ∙ made-small (joined_value h u v) (ap (λ n. nat_le n 4096) (nodes-joined h k m))

pub ruleset halves_fit = (halves-fit)

pub ruleset halves_nodes = (nodes-halves, nodes-number)

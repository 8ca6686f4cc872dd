-- What a tracked state keeps: nothing lost by doing nothing, and step by step.
use Rattle.std.proofs.Common.{◌≡◌, ℕ, ◌<◌, ◌≤◌, List, ◌++◌, length, take, refl, sym, ap, ◌∙◌, arith}
use Rattle.std.proofs.lemmas.Grind.{common_steps}
use Rattle.std.proofs.lemmas.List.{take-take, length-take}
use Rattle.term_trees.specs.declared.term.Formula.{Formula}
use Rattle.term_logic.specs.declared.formula.IdFormula.{IdFormula}
use Rattle.term_logic.specs.Table.{tree_at}
use Rattle.term_logic.specs.Formulas.{formula_bound, formula_of}
use Rattle.term_logic.specs.Extends.{Extends}
use Rattle.heap_logic.proofs.Growing.{extends-same, extends-then}
use Rattle.symbolic_state.specs.States.{Tracked}
use Rattle.symbolic_state.specs.Growth.{Grown}

module _ (a b : Tracked) where
  -- facts are added at the end
  pub grown-by : (fs : List Formula) → Extends a.terms b.terms → b.state.facts ≡ a.state.facts ++ fs → a.state.vars ≤ b.state.vars → b.state.args ≡ a.state.args → b.state.given ≡ a.state.given → Grown a b
  grown-by fs terms facts vars args given = record {
    terms = terms;
    facts = ap (take (length a.state.facts)) facts ∙ grind (arith, common_steps);
    vars = vars;
    args = args;
    given = given;
  }

pub grown-same : (a : Tracked) → Grown a a
grown-same a = record {
  terms = extends-same a.terms;
  facts = grind (arith, common_steps);
  vars = omega arith;
  args = refl;
  given = refl;
}

-- the same state over a longer table
pub grown-table : (a b : Tracked) → Extends a.terms b.terms → b.state ≡ a.state → Grown a b
grown-table a b terms is = record {
  terms = terms;
  facts = ap (λ s. take (length a.state.facts) s.facts) is ∙ (grown-same a).facts;
  vars = let same = ap (λ s. s.vars) is in omega (arith, same);
  args = ap (λ s. s.args) is;
  given = ap (λ s. s.given) is;
}

pub grown-then : (a b c : Tracked) → Grown a b → Grown b c → Grown a c
grown-then a b c first second = record {
  terms = extends-then a.terms b.terms c.terms first.terms second.terms;
  facts = taken a.state.facts b.state.facts c.state.facts first.facts second.facts;
  vars = omega (arith, first.vars, second.vars);
  args = second.args ∙ first.args;
  given = second.given ∙ first.given;
}
  where
    taken : (xs ys zs : List Formula) → take (length xs) ys ≡ xs → take (length ys) zs ≡ ys → take (length xs) zs ≡ xs
    taken xs ys zs first second =
        let same = ap length first in
        let short : length xs ≤ length ys = omega (arith, same, length-take (length xs) ys) in
        sym (take-take (length xs) (length ys) zs short) ∙ ap (take (length xs)) second ∙ first

-- a position of the table before is one after, for the same tree
module _ (a b : Tracked) (more : Grown a b) where
  pub id-kept : (id : ℕ) → id < length a.terms → tree_at b.terms id ≡ tree_at a.terms id
  id-kept id low = more.terms.kept id low

  pub id-within : (id : ℕ) → id < length a.terms → id < length b.terms
  id-within id low = omega (arith, more.terms.longer)

  pub formula-kept : (f : IdFormula) → formula_bound f ≤ length a.terms → formula_of b.terms f ≡ formula_of a.terms f
  formula-kept f low = more.terms.formula f low

  pub formula-within : (f : IdFormula) → formula_bound f ≤ length a.terms → formula_bound f ≤ length b.terms
  formula-within f low = omega (arith, more.terms.longer)

pub ruleset grown = (grown-then)

pub ruleset grown_over = (grown-table)

pub ruleset longer = (extends-same, extends-then)

pub ruleset grown_ids = (id-kept, id-within, formula-kept, formula-within)

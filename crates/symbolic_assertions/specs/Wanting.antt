-- What is to be entailed, with trees in place of positions.
use Rattle.std.specs.Prelude.{ℕ, ◌<◌, List, map, option_map, IfSome, Ok}
use Rattle.std.specs.List.{All}
use Rattle.term_trees.specs.declared.term.Term.{Term}
use Rattle.term_logic.specs.Table.{tree_at}
use Rattle.notes.specs.declared.uses.With.{With}
use Rattle.outline_rules.specs.Refusals.{Ruling, ◌>>◌}
use Rattle.outline_rules.specs.States.{State}
use Rattle.outline_rules.specs.Entailment as entailment
use Rattle.outline_rules.specs.Entailment.{entailed}
use Rattle.symbolic_assertions.specs.declared.wanting.Wanted.{Wanted}

-- What is wanted, as the definitions speak of it: an assertion, and the trees of the terms.
abbrev pub wanted_of : List Term → Wanted → entailment.Wanted
wanted_of ts w = record {
  assertion = w.assertion.now;
  args = map (tree_at ts) w.args.now;
  result = option_map (tree_at ts) w.result;
  fixed = map (tree_at ts) w.fixed.now;
}

-- All positions are below n.
pub record WantedWithin (n : ℕ) (w : Wanted) : Type 0 where
  pub args : All (λ id. id < n) w.args.now
  pub result : IfSome w.result (λ id. id < n)
  pub fixed : All (λ id. id < n) w.fixed.now

-- The state has to entail what is wanted; what that leaves isn't told.
abbrev pub entails : State → entailment.Wanted → With → Ruling (Unit {0})
entails s want w = entailed s want w >> Ok tt

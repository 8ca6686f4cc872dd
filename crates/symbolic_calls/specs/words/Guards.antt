-- What keeps an operator defined.
use Rattle.std.specs.Prelude.{List, [], ◌∷◌}
use Rattle.wasm_values.specs.Operators.{width_of}
use Rattle.term_trees.specs.declared.term.Term.{Term}
use Rattle.term_trees.specs.declared.term.Formula.{Formula}
use Rattle.term_trees.specs.declared.term.Formula.TheVariants as formula
use Rattle.outline_rules.specs.States.{number}
use Rattle.outline_rules.specs.Instructions.{quotient_facts}
use Rattle.symbolic_calls.specs.declared.guards.Guard.{Guard}
use Rattle.symbolic_calls.specs.declared.guards.Guard.TheVariants as guard

-- the facts that a guard wants of two operands
abbrev pub guard_facts : Guard → (a b : Term) → List Formula
guard_facts guard.Nothing a b = []
guard_facts guard.Divisor a b = formula.Le (number 1) b ∷ []
guard_facts (guard.Quotient ty) a b = quotient_facts (width_of ty) a b

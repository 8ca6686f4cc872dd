-- The shape of a step without its limits, which doesn't depend on the sub-derivations around it.
use Rattle.std.specs.Prelude.{true, List, [], ◌∷◌, ◌++◌, map}
use Rattle.bitvector_rules.specs.declared.step.Step.{Step, Step-F, fold-Step}
use Rattle.notes_grammar.specs.Shapes.{Shape, word, listed, formula, reference, whole}
use Rattle.notes_grammar.specs.Words.{rule_name}

-- the parts of a step before its sub-derivations
abbrev pub step_front : {X : Type 0} → Step-F X → List Shape
step_front s = formula true s.formula ∷ listed (map reference s.refs) ∷ listed (map whole s.numbers) ∷ []

-- a step, one layer from its parts
abbrev pub plain_here : Step-F Shape → Shape
plain_here s = listed (word (rule_name s.rule) ∷ (step_front s ++ map listed s.subs))

-- a step
unfoldable pub plain_step : Step → Shape
plain_step s = fold-Step Shape plain_here s

-- a sub-derivation
abbrev pub plain_sub : List Step → Shape
plain_sub ss = listed (map plain_step ss)

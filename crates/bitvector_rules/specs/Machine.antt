-- The rules of machine integers in steps: all references name premises, and these and the conclusion fit the rule.
use Rattle.std.specs.Prelude.{Bool, List, Option, Some, None}
use Rattle.term_trees.specs.declared.term.Formula.{Formula}
use Rattle.term_trees.specs.Same.{passes}
use Rattle.integer_rules.specs.declared.rule.IntegerRule.{IntegerRule}
use Rattle.integer_rules.specs.declared.rule.IntegerRule.TheVariants as machine
use Rattle.integer_rules.specs.Fits.{fits}
use Rattle.bitvector_rules.specs.declared.step.Rule.{Rule}
use Rattle.bitvector_rules.specs.declared.step.Rule.TheVariants as rule
use Rattle.bitvector_rules.specs.declared.step.Ref.{Ref}
use Rattle.bitvector_rules.specs.Facts.{premises}

-- The rule of machine integers that a rule is, where it is one.
abbrev pub machine_rule : Rule → Option IntegerRule
machine_rule rule.Range = Some machine.Range
machine_rule rule.Add = Some machine.Add
machine_rule rule.Addwrap = Some machine.Addwrap
machine_rule rule.Sub = Some machine.Sub
machine_rule rule.Subwrap = Some machine.Subwrap
machine_rule rule.Mul = Some machine.Mul
machine_rule rule.Divu = Some machine.Divu
machine_rule rule.Divs = Some machine.Divs
machine_rule rule.Test = Some machine.Test
machine_rule rule.Tests = Some machine.Tests
machine_rule rule.Sgn = Some machine.Sgn
machine_rule rule.Shift = Some machine.Shift
machine_rule rule.Mask = Some machine.Mask
machine_rule rule.Widen = Some machine.Widen
machine_rule _ = None

-- Whether the premises and the conclusion fit the rule.
abbrev pub fits_machine : List Formula → List Formula → List Ref → Formula → IntegerRule → Bool
fits_machine hyps earlier refs c r = passes (premises hyps earlier refs) (λ fs. fits r fs c)

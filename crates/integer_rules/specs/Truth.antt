-- What the rules keep.
use Rattle.std.specs.Prelude.{List, IsTrue}
use Rattle.std.specs.List.{All}
use Rattle.term_trees.specs.declared.term.Formula.{Formula}
use Rattle.term_trees.specs.Meaning.{Numbers, holds}
use Rattle.integer_rules.specs.declared.rule.IntegerRule.{IntegerRule}
use Rattle.integer_rules.specs.Rows.{Row}
use Rattle.integer_rules.specs.Fits.{fits}

-- Under any numbers under which the premises are true, so is the conclusion.
abbrev pub KeepsTruth : IntegerRule → Type 0
KeepsTruth r = (n : Numbers) (premises : List Formula) (c : Formula) → IsTrue (fits r premises c) → All (λ f. IsTrue (holds n f)) premises → IsTrue (holds n c)

-- The row is an instance of the rule.
abbrev pub Takes : IntegerRule → Row → Type 0
Takes rule r = IsTrue (fits rule r.premises r.conclusion)

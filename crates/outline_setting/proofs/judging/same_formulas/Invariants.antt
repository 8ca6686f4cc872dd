use Rattle.std.proofs.Common.{◌≡◌, drop}
use Rattle.std.specs.Cmp.Lexicographic.{pointwise}
use Rattle.term_trees.specs.Same.{same_formula}
use Rattle.outline_setting.proofs.judging.same_formulas.Given as goal

abbrev pub invariant-loop-first : goal.invariant-loop-first
invariant-loop-first l = pointwise same_formula l.a l.b ≡ pointwise same_formula (drop l.first-index l.a) l.rest

use Rattle.std.proofs.Common.{◌≡◌, ◌++◌, drop}
use Rattle.term_trees.specs.Normal.{nonzero}
use Rattle.term_trees.specs.Linear.{shown_lent}
use Rattle.term_trees.proofs.normalize.nonzero.Given as goal

abbrev pub invariant-loop-atom : goal.invariant-loop-atom
invariant-loop-atom l = l.kept ++ nonzero (shown_lent (drop l.atom-index l.parts)) ≡ nonzero (shown_lent l.parts)

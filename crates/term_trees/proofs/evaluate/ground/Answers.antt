use Rattle.std.proofs.Common.{ap, ◌∙◌}
use Rattle.term_trees.specs.Ground.{ground_truth}
use Rattle.term_trees.specs.words.Cells.{truth_at}
use Rattle.term_trees.proofs.CellTruths.{leaves-none}
use Rattle.term_trees.proofs.NoLeaves.{formula_kept}
use Rattle.term_trees.proofs.evaluate.ground.Goals as goal

pub returns : goal.returns
unfolding truth_at
returns c = c.ground_truth.ensures ∙ ap ground_truth (formula_kept _ leaves-none c.args.f.now)

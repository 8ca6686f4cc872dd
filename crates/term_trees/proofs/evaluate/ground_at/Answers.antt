use Rattle.std.proofs.Common.{rules, ap, ◌∙◌}
use Rattle.std.proofs.lemmas.Int.{to_z-of_z}
use mir.Syntax.{w128}
use Rattle.term_trees.specs.Ground.{ground_truth}
use Rattle.term_trees.specs.Leaves.{replaced_formula}
use Rattle.term_trees.specs.words.Cells.{truth_at}
use Rattle.term_trees.proofs.CellTruths.{leaves-numbers}
use Rattle.term_trees.proofs.evaluate.ground_at.Goals as goal

pub returns : goal.returns
unfolding truth_at
returns c =
    (rw (to_z-of_z w128 c.args.index (search rules), to_z-of_z w128 c.args.item (search rules)) at c.ground_truth.ensures)
    ∙ ap (λ l. ground_truth (replaced_formula l c.args.f.now)) (leaves-numbers c.args.index c.args.item)

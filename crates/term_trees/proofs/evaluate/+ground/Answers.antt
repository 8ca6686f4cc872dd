use Rattle.std.proofs.Common.{rules}
use Rattle.std.proofs.lemmas.Int.{to_z-of_z}
use mir.Syntax.{w128}
use Rattle.term_trees.proofs.Grounded.{stored}
use Rattle.term_trees.proofs.CellTruths.{cell-sgn_at, cell-two_at}
use Rattle.term_trees.proofs.evaluate.+ground.Goals as goal

pub ground_value-returns-in-Some-two_values-clause-value : goal.ground_value-returns-in-Some-two_values-clause-value
ground_value-returns-in-Some-two_values-clause-value t c =
    cell-two_at c.args.cell.now _ _ _ _ _ _ _ _ _ _ c.in-Two.is c.get-in-Two.ensures c.get-in-Two-2.ensures c.in-Some-two_values.ensures.value
    (rw (stored c.in-Some-two_values.a c.in-Some-two_values.ensures.small.0, stored c.in-Some-two_values.b c.in-Some-two_values.ensures.small.1) at c.two_value.ensures)
    (rw (to_z-of_z w128 c.two_value.result (search rules)) at c.bounded-in-Some-two_values.ensures.value)

pub ground_value-returns-in-Some-ground_value-4-clause-value : goal.ground_value-returns-in-Some-ground_value-4-clause-value
ground_value-returns-in-Some-ground_value-4-clause-value t c =
    cell-sgn_at c.args.cell.now _ _ _ _ _ _ _ c.in-Sgn.is c.get-in-Sgn.ensures c.in-Some-ground_value-4.ensures.value
    (rw (stored c.in-Some-ground_value-4.a c.in-Some-ground_value-4.ensures.small) at c.sgn_value.ensures)
    (rw (to_z-of_z w128 c.sgn_value.result (search rules)) at c.bounded-in-Some-ground_value-4.ensures.value)

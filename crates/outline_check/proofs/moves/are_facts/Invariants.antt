use Rattle.std.proofs.Common.{◌≡◌, drop}
use Rattle.outline_check.specs.Outlines.{are_facts}
use Rattle.outline_check.proofs.moves.are_facts.Given as goal

abbrev pub invariant-loop-i : goal.invariant-loop-i
invariant-loop-i l = are_facts l.state (drop l.i l.numbers) (drop l.i l.formulas) ≡ are_facts l.state l.numbers l.formulas

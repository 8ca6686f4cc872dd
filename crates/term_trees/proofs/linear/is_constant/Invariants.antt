use Rattle.std.proofs.Common.{◌≡◌, drop}
use Rattle.term_trees.specs.Linear.{shown, is_constant_parts}
use Rattle.term_trees.proofs.linear.is_constant.Given as goal

abbrev pub invariant-loop-coefficient : goal.invariant-loop-coefficient
invariant-loop-coefficient g l =
    let tree = g.A.Atoms.tree l.atoms in
    is_constant_parts (shown tree (drop l.coefficient-index l.parts)) ≡ is_constant_parts (shown tree l.parts)

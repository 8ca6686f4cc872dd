use Rattle.std.proofs.Common.{◌≡◌, drop}
use Rattle.term_trees.specs.Linear.{shown, coefficient_in}
use Rattle.term_trees.proofs.linear.coefficient_in.Given as goal

abbrev pub invariant-loop-atom : goal.invariant-loop-atom
invariant-loop-atom g l =
    let tree = g.A.Atoms.tree l.atoms in
    coefficient_in (shown tree (drop l.atom-index l.parts)) (tree l.t) ≡ coefficient_in (shown tree l.parts) (tree l.t)

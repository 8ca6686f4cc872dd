use Rattle.std.proofs.Common.{rules, ◌≡◌, true, false}
use Rattle.term_trees.specs.Same.{same}
use Rattle.term_trees.proofs.LinearLists.{occurs_found, occurs_step, occurs_end}
use Rattle.term_trees.proofs.linear.occurs_in.Goals as goal

pub returns-then-same : goal.returns-then-same
returns-then-same g c =
    let tree = g.A.Atoms.tree c.args.atoms.now in
    let item = c.loop-atom-item.result in
    let found : same (tree item.0) (tree c.args.t) ≡ true = search rules in
    occurs_found tree (tree c.args.t) c.args.parts.now c.loop-atom.atom-index item _ c.loop-atom-test.true c.loop-atom-item.is found c.loop-atom.invariant

pub loop-atom-preserved : goal.loop-atom-preserved
loop-atom-preserved g c =
    let tree = g.A.Atoms.tree c.args.atoms.now in
    let item = c.loop-atom-item.result in
    let other : same (tree item.0) (tree c.args.t) ≡ false = search rules in
    occurs_step tree (tree c.args.t) c.args.parts.now c.loop-atom.atom-index item _ c.loop-atom-test.true c.loop-atom-item.is other c.loop-atom.invariant

pub returns : goal.returns
returns g c =
    let tree = g.A.Atoms.tree c.args.atoms.now in
    occurs_end tree (tree c.args.t) c.args.parts.now c.loop-atom.atom-index _ c.loop-atom-test.false c.loop-atom.invariant

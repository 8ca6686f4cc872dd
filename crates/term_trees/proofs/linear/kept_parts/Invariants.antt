use Rattle.std.proofs.Common.{◌≡◌, drop}
use Rattle.term_trees.specs.Linear.{shown, PartsWithin, limited_parts, kept_parts}
use Rattle.term_trees.proofs.LinearLists.{gathered}
use Rattle.term_trees.proofs.linear.kept_parts.Given as goal

abbrev pub invariant-loop-atom : goal.invariant-loop-atom
invariant-loop-atom g l =
    let tree = g.A.Atoms.tree l.atoms in
    record {
      gathered :
          gathered (shown tree l.parts.items) (kept_parts l.way (shown tree (drop l.atom-index l.first)) (shown tree l.second))
          ≡ limited_parts (kept_parts l.way (shown tree l.first) (shown tree l.second));
      within : PartsWithin (g.A.Atoms.Within l.atoms) l.parts.items;
    }

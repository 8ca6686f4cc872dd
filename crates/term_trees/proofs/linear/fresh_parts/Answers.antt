use Rattle.std.proofs.Common.{rules, ◌≡◌, pos, ◌∷◌, ◌++◌, [], Some, None, true, false, subst, sym}
use Rattle.term_trees.specs.Linear.{shown, occurs_in, applied, limited, PartsWithin}
use Rattle.term_trees.proofs.LinearLists.{fresh_step, fresh_end, fresh_skip, fresh_stop, within_step}
use Rattle.term_trees.proofs.linear.fresh_parts.Goals as goal

pub returns-in_default-clause-parts : goal.returns-in_default-clause-parts
returns-in_default-clause-parts g c =
    let tree = g.A.Atoms.tree c.args.atoms.now in
    let item = c.loop-atom-item.result in
    let high : None ≡ limited (applied c.args.way (pos 0) item.1) = search rules in
    let out : occurs_in (shown tree c.args.first.now) (tree item.0) ≡ false = search rules in
    fresh_stop tree c.args.way c.loop-atom.parts.items c.args.first.now c.args.second.now c.loop-atom.atom-index item _ c.loop-atom-test.true c.loop-atom-item.is out high c.loop-atom.invariant.gathered

pub loop-atom-preserved-then-occurs_in : goal.loop-atom-preserved-then-occurs_in
loop-atom-preserved-then-occurs_in g c =
    let tree = g.A.Atoms.tree c.args.atoms.now in
    let item = c.loop-atom-item.result in
    let known : occurs_in (shown tree c.args.first.now) (tree item.0) ≡ true = search rules in
    record {
      gathered =
          fresh_skip tree c.args.way c.loop-atom.parts.items c.args.first.now c.args.second.now c.loop-atom.atom-index item _ c.loop-atom-test.true c.loop-atom-item.is known
          c.loop-atom.invariant.gathered;
      within = c.loop-atom.invariant.within;
    }

pub loop-atom-preserved : goal.loop-atom-preserved
loop-atom-preserved g c =
    let tree = g.A.Atoms.tree c.args.atoms.now in
    let known = g.A.Atoms.Within c.args.atoms.now in
    let item = c.loop-atom-item.result in
    let low : Some c.in-Some.sum ≡ limited (applied c.args.way (pos 0) item.1) = search rules in
    let out : occurs_in (shown tree c.args.first.now) (tree item.0) ≡ false = search rules in
    let pushed : c.push.new.parts.items ≡ c.loop-atom.parts.items ++ ((item.0, c.in-Some.sum) ∷ []) = search rules in
    record {
      gathered =
          fresh_step tree c.args.way c.loop-atom.parts.items _ c.args.first.now c.args.second.now c.loop-atom.atom-index item c.in-Some.sum _
          c.loop-atom-test.true c.loop-atom-item.is out low pushed c.loop-atom.invariant.gathered;
      within =
          subst (PartsWithin known) (sym pushed)
          (within_step known c.loop-atom.parts.items c.args.second.now c.loop-atom.atom-index item c.in-Some.sum c.loop-atom-test.true c.loop-atom-item.is
          c.requires.second c.loop-atom.invariant.within);
    }

pub returns-clause-parts : goal.returns-clause-parts
returns-clause-parts g c =
    fresh_end (g.A.Atoms.tree c.args.atoms.now) c.args.way c.loop-atom.parts.items c.args.first.now c.args.second.now c.loop-atom.atom-index _ c.loop-atom-test.false c.loop-atom.invariant.gathered

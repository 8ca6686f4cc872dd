use Rattle.std.proofs.Common.{rules, ◌≡◌, Some, sym}
use Rattle.std.proofs.lemmas.Int.{to_z-of_z}
use mir.Syntax.{w128}
use Rattle.term_trees.specs.Normal.{nonzero}
use Rattle.term_trees.specs.Linear.{shown_lent, shown_tree, linear_parts}
use Rattle.term_trees.proofs.NormalForms.{normal-none, normal-some}
use Rattle.term_trees.proofs.NormalSound.{normal-sound}
use Rattle.term_trees.proofs.normalize.normal.Goals as goal

pub returns-in_default-clause-form : goal.returns-in_default-clause-form
returns-in_default-clause-form c = normal-none c.args.t.now (search rules)

pub returns-clause-form : goal.returns-clause-form
returns-clause-form c =
    let found : Some (shown_tree c.in-Some.form) ≡ linear_parts c.args.t.now = search rules in
    let kept : c.in_ok-parts.parts ≡ nonzero (shown_lent c.in-Some.form.parts.items) = search rules in
    rw (to_z-of_z w128 c.in-Some.form.constant (search rules)) (normal-some c.args.t.now c.in-Some.form.constant _ _ found kept)

pub returns-clause-well_formed : goal.returns-clause-well_formed
returns-clause-well_formed c = normal-sound c.args.t.now _ c.requires (sym (returns-clause-form c))

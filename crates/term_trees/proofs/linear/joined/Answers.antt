use Rattle.std.proofs.Common.{rules, ◌≡◌, ◌++◌, ◌∙◌, Some, None, sym, ap, subst}
use Rattle.std.proofs.lemmas.Int.{to_z-of_z}
use mir.Syntax.{w128}
use Rattle.term_trees.specs.Linear.{shown, shown_form, applied, limited, limited_parts, kept_parts, fresh_parts, PartsWithin}
use Rattle.term_trees.proofs.LinearLists.{joined-some, joined-high, joined-kept_high, joined-fresh_high, shown-append, within_append}
use Rattle.term_trees.proofs.linear.joined.Goals as goal

pub returns-in_default-clause-form : goal.returns-in_default-clause-form
returns-in_default-clause-form g c =
    let tree = g.A.Atoms.tree c.args.atoms.now in
    let first = c.args.first.now in
    let second = c.args.second.now in
    let at : None ≡ limited (applied c.args.way first.constant second.constant) = search rules in
    joined-high c.args.way (shown_form tree first) (shown_form tree second) at

pub returns-in_default-2-clause-form : goal.returns-in_default-2-clause-form
returns-in_default-2-clause-form g c =
    let tree = g.A.Atoms.tree c.args.atoms.now in
    let first = c.args.first.now in
    let second = c.args.second.now in
    let at : Some c.in-Some.constant ≡ limited (applied c.args.way first.constant second.constant) = search rules in
    let kept : None ≡ limited_parts (kept_parts c.args.way (shown tree first.parts.items) (shown tree second.parts.items)) = search rules in
    joined-kept_high c.args.way (shown_form tree first) (shown_form tree second) c.in-Some.constant at kept

pub returns-in_default-3-clause-form : goal.returns-in_default-3-clause-form
returns-in_default-3-clause-form g c =
    let tree = g.A.Atoms.tree c.args.atoms.now in
    let first = c.args.first.now in
    let second = c.args.second.now in
    let at : Some c.in-Some.constant ≡ limited (applied c.args.way first.constant second.constant) = search rules in
    let kept : Some (shown tree c.in-Some-2.parts.items) ≡ limited_parts (kept_parts c.args.way (shown tree first.parts.items) (shown tree second.parts.items)) = search rules in
    let fresh : None ≡ limited_parts (fresh_parts c.args.way (shown tree first.parts.items) (shown tree second.parts.items)) = search rules in
    joined-fresh_high c.args.way (shown_form tree first) (shown_form tree second) c.in-Some.constant (shown tree c.in-Some-2.parts.items) at kept fresh

pub returns-clause-form : goal.returns-clause-form
returns-clause-form g c =
    let tree = g.A.Atoms.tree c.args.atoms.now in
    let first = c.args.first.now in
    let second = c.args.second.now in
    let at : Some c.in-Some.constant ≡ limited (applied c.args.way first.constant second.constant) = search rules in
    let kept : Some (shown tree c.in-Some-2.parts.items) ≡ limited_parts (kept_parts c.args.way (shown tree first.parts.items) (shown tree second.parts.items)) = search rules in
    let fresh : Some (shown tree c.in-Some-3.fresh.items) ≡ limited_parts (fresh_parts c.args.way (shown tree first.parts.items) (shown tree second.parts.items)) = search rules in
    let is : c.in_ok-parts-2.parts.items ≡ c.in-Some-2.parts.items ++ c.in-Some-3.fresh.items = search rules in
    rw (to_z-of_z w128 c.in-Some.constant (search rules))
    (joined-some c.args.way (shown_form tree first) (shown_form tree second) _ _ _ _ at kept fresh
    (ap (shown tree) is ∙ shown-append tree c.in-Some-2.parts.items c.in-Some-3.fresh.items))

pub returns-clause-within : goal.returns-clause-within
returns-clause-within g c =
    let known = g.A.Atoms.Within c.args.atoms.now in
    let kept : PartsWithin known c.in-Some-2.parts.items = search rules in
    let fresh : PartsWithin known c.in-Some-3.fresh.items = search rules in
    let is : c.in_ok-parts-2.parts.items ≡ c.in-Some-2.parts.items ++ c.in-Some-3.fresh.items = search rules in
    subst (PartsWithin known) (sym is) (within_append known c.in-Some-2.parts.items c.in-Some-3.fresh.items kept fresh)

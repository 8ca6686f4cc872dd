use Rattle.std.proofs.Common.{rules, ◌≡◌, Some, IfOk, subst}
use Rattle.std.specs.Option.{option_map}
use Rattle.term_logic.specs.Table.{tree_at}
use Rattle.term_trees.specs.Linear.{shown_form, linear_parts}
use Rattle.equality_rules.proofs.LinearTerms.{difference_form}
use Rattle.equality_rules.proofs.linear.difference.Goals as goal

pub returns-clause-form : goal.returns-clause-form
returns-clause-form c =
    let read = shown_form (tree_at c.args.table.now) in
    let first : Some (read c.in-Some.first) ≡ linear_parts (tree_at c.args.table.now c.args.sides.1) = search rules in
    let second : Some (read c.in-Some-2.second) ≡ linear_parts (tree_at c.args.table.now c.args.sides.0) = search rules in
    subst (λ parts. IfOk c.joined_forms.result (λ o. option_map read o ≡ parts))
    (difference_form (tree_at c.args.table.now c.args.sides.1) (tree_at c.args.table.now c.args.sides.0) _ _ first second) c.joined_forms.ensures.form

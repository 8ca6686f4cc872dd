use Rattle.std.proofs.Common.{sym, ap, subst, ◌∙◌}
use Rattle.term_logic.specs.Leaves.{leaves_of, LeavesWithin}
use Rattle.symbolic_state.proofs.Leafing.{variables-leaves, variables-within}
use Rattle.symbolic_state.proofs.instances.in_place_of_variables.Goals as goal

pub returns-clause-trees : goal.returns-clause-trees
returns-clause-trees c ts =
    ap (leaves_of ts) c.with_variables.ensures
    ∙ variables-leaves c.none.result (record c.none.result { variables = c.args.terms }) ts (c.none.ensures.trees ts)

pub returns-clause-within : goal.returns-clause-within
returns-clause-within c n low =
    subst (LeavesWithin n) (sym c.with_variables.ensures)
    (variables-within c.none.result (record c.none.result { variables = c.args.terms }) n (c.none.ensures.within n) low)

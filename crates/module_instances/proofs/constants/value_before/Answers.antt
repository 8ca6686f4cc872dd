use Rattle.module_instances.proofs.BuildingLemmas.{new_value}
use Rattle.module_instances.proofs.constants.value_before.Goals as goal

pub returns-in-Some : goal.returns-in-Some
returns-in-Some c =
    let found = c.in-Some.ensures.lookup in
    λ within. new_value c.args.globals.now c.args.made.now c.args.imported.now c.args.index c.in-Some.global.now c.if-index-imported.false found.3.0 found.1

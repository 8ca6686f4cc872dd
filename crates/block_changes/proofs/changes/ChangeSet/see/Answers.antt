use Rattle.block_changes.proofs.Gathering.{sees_nothing}
use Rattle.block_changes.proofs.changes.ChangeSet.see.Goals as goal

pub returns-in-Nothing : goal.returns-in-Nothing
returns-in-Nothing c = sees_nothing c.args.self.now c.args.item.now c.in-Nothing.ensures

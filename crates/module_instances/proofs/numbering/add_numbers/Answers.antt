use Rattle.module_instances.proofs.BuildingLemmas.{numbers_more}
use Rattle.module_instances.proofs.numbering.add_numbers.Goals as goal

pub loop-k-preserved : goal.loop-k-preserved
loop-k-preserved c = numbers_more c.args.addresses.now c.loop-k.addresses c.push.new.self c.args.first c.loop-k.k c.loop-k.invariant c.in_ok-push.ensures.ok

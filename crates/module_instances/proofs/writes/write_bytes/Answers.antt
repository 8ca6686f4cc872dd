use Rattle.std.proofs.Common.{refl}
use Rattle.module_instances.proofs.WritingLemmas.{bytes_more}
use Rattle.module_instances.proofs.writes.write_bytes.Goals as goal

pub loop-k-preserved : goal.loop-k-preserved
loop-k-preserved c = bytes_more c.args.bytes.now c.loop-k.bytes c.set.new.self c.args.at c.loop-k.k c.args.others.now 0 _ c.requires c.loop-k-test.true c.loop-k.invariant c.set.ensures refl

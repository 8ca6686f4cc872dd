use Rattle.std.proofs.Common.{Some, ap}
use Rattle.std.specs.Prelude.{slice_index}
use Rattle.module_instances.proofs.WritingLemmas.{written_more}
use Rattle.module_instances.proofs.writes.write_entries.Goals as goal

pub loop-k-preserved : goal.loop-k-preserved
loop-k-preserved c =
    written_more (λ x. Some (slice_index c.args.funcs.now x)) c.args.entries.now c.loop-k.entries c.set.new.self c.args.at c.loop-k.k c.args.numbers.now 0 (Some c.address_of.result) c.requires c.loop-k-test.true c.loop-k.invariant c.set.ensures (ap (λ x. Some x) c.address_of.ensures)

use Rattle.std.proofs.Common.{refl}
use Rattle.std.proofs.lemmas.Option.{slice_get_read}
use Rattle.module_listing.proofs.Steps.{no_entries, next_entry}
use Rattle.module_listing.proofs.entry.write_entries.Goals as goal

pub loop-i-init : goal.loop-i-init
loop-i-init g c = no_entries c.args.word.now g.T.Entry.text c.args.first c.args.out.now

pub loop-i-preserved : goal.loop-i-preserved
loop-i-preserved g c =
    next_entry c.args.word.now g.T.Entry.text c.args.first c.args.out.now c.loop-i.out c.write_entry.new.out c.args.entries.now c.loop-i.i c.index-entries-i.result
    (slice_get_read c.args.entries.now _ c.loop-i.i c.index-entries-i.result refl c.loop-i-test.true c.index-entries-i.is)
    c.loop-i.invariant c.in_ok-write_entry.ensures

use Rattle.std.proofs.Common.{subst, sym}
use Rattle.wasm_syntax.specs.declared.module.Segment.{Segment}
use Rattle.module_instances.specs.words.Building.{HasConstOffset}
use Rattle.module_instances.proofs.WritingLemmas.{segments_more}
use Rattle.module_instances.proofs.writes.write_segments.Goals as goal

pub write_segment-requires-clause-constant : goal.write_segment-requires-clause-constant
write_segment-requires-clause-constant c =
    let P : Segment → Type 0 = λ e. HasConstOffset e.offset in
    subst P (sym c.segment-item.is) (c.requires.constant c.loop-segment.segment-index c.segment-item.result c.loop-segment-test.true)

pub loop-segment-preserved : goal.loop-segment-preserved
loop-segment-preserved c =
    let i = c.loop-segment.invariant in
    let more = segments_more c.args.instance.now c.args.globals.now c.args.memories.now c.loop-segment.memories c.write_segment.new.memories c.args.segments.now c.loop-segment.segment-index c.segment-item.result c.loop-segment-test.true c.segment-item.is i.written i.fits c.write_segment.ensures in
    record { written = more.0; fits = more.1 }

use Rattle.wasm_syntax.specs.Trees.{sequence_of}
use Rattle.wasm_typing.specs.Valid.{IsWord, SequenceInRange, BytesInRange, globals_of, SegmentValid}
use Rattle.wasm_values.specs.declared.number.ValType.TheVariants.{I32}
use Rattle.wasm_syntax.specs.declared.module.Segment.{Segment}
use Rattle.body_check.proofs.SectionLemmas.{each_more, each_all, of_item}
use Rattle.wasm_validate.proofs.ranges.read_segments.Goals as goal

pub loop-segment-preserved : goal.loop-segment-preserved
loop-segment-preserved c = each_more (λ (s : Segment). IsWord s.memory × SequenceInRange (sequence_of s.offset) × BytesInRange s.bytes) c.args.module.now.segments c.as_slice-segment-items.result.now c.loop-segment.segment-index c.segment-item.result c.loop-segment.invariant c.as_slice-segment-items.ensures c.loop-segment-test.true c.segment-item.is (c.read_one_segment.ensures (globals_of c.args.module.now) I32 (of_item (SegmentValid c.args.module.now) c.args.module.now.segments c.as_slice-segment-items.result.now c.loop-segment.segment-index c.segment-item.result c.requires c.as_slice-segment-items.ensures c.loop-segment-test.true c.segment-item.is).1)

pub returns : goal.returns
returns c = each_all (λ (s : Segment). IsWord s.memory × SequenceInRange (sequence_of s.offset) × BytesInRange s.bytes) c.args.module.now.segments c.as_slice-segment-items.result.now c.loop-segment.segment-index c.loop-segment.invariant c.as_slice-segment-items.ensures c.loop-segment-test.false

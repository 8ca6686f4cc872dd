use Rattle.std.proofs.Common.{take}
use Rattle.std.specs.List.{All}
use Rattle.wasm_syntax.specs.Trees.{sequence_of}
use Rattle.wasm_typing.specs.Valid.{IsWord, SequenceInRange, BytesInRange}
use Rattle.wasm_syntax.specs.declared.module.Segment.{Segment}
use Rattle.wasm_validate.proofs.ranges.read_segments.Given as goal

abbrev pub invariant-loop-segment : goal.invariant-loop-segment
invariant-loop-segment l = All (λ (s : Segment). IsWord s.memory × SequenceInRange (sequence_of s.offset) × BytesInRange s.bytes) (take l.segment-index l.«module».segments)

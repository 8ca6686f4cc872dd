use Rattle.std.proofs.Common.{◌≡◌, drop}
use Rattle.std.specs.Prelude.{is_none}
use Rattle.std.specs.List.{list_any}
use Rattle.wasm_syntax.specs.declared.module.Segment.{Segment}
use Rattle.outline_rules.specs.Initial.{offset_of, has_moved_segment}
use Rattle.initial_memory.proofs.bytes.has_moved_segment.Given as goal

abbrev pub invariant-loop-segment : goal.invariant-loop-segment
invariant-loop-segment l = has_moved_segment l.setting ≡ list_any (λ (s : Segment). is_none (offset_of s.offset)) (drop l.segment-index l.segment-items)

use Rattle.std.proofs.Common.{◌≡◌, drop}
use Rattle.initial_memory.specs.words.Windows.{window_after}
use Rattle.initial_memory.proofs.bytes.write_segments.Given as goal

abbrev pub invariant-loop-segment : goal.invariant-loop-segment
invariant-loop-segment l = window_after l.segments l.at l.initial.window ≡ window_after (drop l.segment-index l.segments) l.at l.window

use Rattle.std.proofs.Common.{length, ◌-◌, ◌≡◌, ◌≤◌, ◌<◌, is_some, take}
use Rattle.std.specs.Io.KnownBytes.{Appends}
use Rattle.rw_edge.specs.Count.{last_count}
use Rattle.rw_edge.proofs.writing.emit.Given as goal

abbrev pub invariant-loop-at : goal.invariant-loop-at
invariant-loop-at g l = record {
  in_text : l.at ≤ length l.text;
  told : is_some (g.K.Sink.written l.sink) ≡ is_some (g.K.Sink.written l.fn.sink);
  no_lower : g.K.Sink.faults l.fn.sink ≤ g.K.Sink.faults l.sink;
  within : 0 < l.at → g.K.Sink.faults l.sink ≤ last_count;
  appended : Appends (g.K.Sink.written l.fn.sink) (g.K.Sink.written l.sink) (take l.at l.text);
}

abbrev pub decreases-loop-at : goal.decreases-loop-at
decreases-loop-at g l = length l.text - l.at

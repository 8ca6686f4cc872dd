use Rattle.std.proofs.Common.{◌≡◌, take, true}
use Rattle.std.specs.Prelude.{fold}
use Rattle.std.specs.List.{list_all}
use Rattle.module_instances.specs.words.Building.{segment_fits_in, memories_written}
use Rattle.module_instances.proofs.writes.write_segments.Given as goal

abbrev pub invariant-loop-segment : goal.invariant-loop-segment
invariant-loop-segment l = record {
  written : l.memories ≡ fold (memories_written l.instance l.globals) l.initial.memories (take l.segment-index l.segments);
  fits : list_all (segment_fits_in l.memories l.globals l.instance.memories l.instance.globals) l.segments ≡ true;
}

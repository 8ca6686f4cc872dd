use Rattle.std.proofs.Common.{◌≡◌, true, take}
use Rattle.std.specs.List.{list_all}
use Rattle.module_instances.specs.words.Building.{segment_fits_before}
use Rattle.module_instances.proofs.segments.data_fits.Given as goal

abbrev pub invariant-loop-segment : goal.invariant-loop-segment
invariant-loop-segment l = list_all (segment_fits_before l.store l.«module» l.imported l.globals) (take l.segment-index l.«module».segments) ≡ true

use Rattle.std.proofs.Common.{◌≡◌, true, take}
use Rattle.std.specs.List.{list_all}
use Rattle.module_instances.specs.words.Building.{elem_fits_before}
use Rattle.module_instances.proofs.segments.elems_fit.Given as goal

abbrev pub invariant-loop-elem : goal.invariant-loop-elem
invariant-loop-elem l = list_all (elem_fits_before l.store l.«module» l.imported l.globals) (take l.elem-index l.«module».elems) ≡ true

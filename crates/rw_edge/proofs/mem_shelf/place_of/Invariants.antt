use Rattle.std.proofs.Common.{◌≡◌, drop}
use Rattle.rw_edge.specs.Files.{contents_of}
use Rattle.rw_edge.proofs.mem_shelf.place_of.Given as goal

abbrev pub invariant-loop-place : goal.invariant-loop-place
invariant-loop-place l = contents_of l.files l.name ≡ contents_of (drop l.place l.files) l.name

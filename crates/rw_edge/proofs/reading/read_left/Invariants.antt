use Rattle.std.proofs.Common.{◌-◌, ◌≡◌, ◌≤◌, vec_len}
use Rattle.std.specs.Io.KnownBytes.{Consumes}
use Rattle.rw_edge.proofs.reading.read_left.Given as goal

abbrev pub invariant-loop-bytes : goal.invariant-loop-bytes
invariant-loop-bytes g l = record {
  allowed : vec_len l.bytes ≤ l.limit;
  files : g.S.Shelf.files l.shelf ≡ g.S.Shelf.files l.fn.shelf;
  no_lower : g.S.Shelf.faults l.fn.shelf ≤ g.S.Shelf.faults l.shelf;
  consumed : Consumes (g.S.Shelf.left l.fn.shelf) (g.S.Shelf.left l.shelf) l.bytes.items;
}

abbrev pub decreases-loop-bytes : goal.decreases-loop-bytes
decreases-loop-bytes g l = l.limit - vec_len l.bytes

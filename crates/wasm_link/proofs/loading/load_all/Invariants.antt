use Rattle.std.proofs.Common.{◌≡◌, ◌≤◌, drop}
use Rattle.wasm_link.specs.words.Loads.{Continues}
use Rattle.wasm_link.proofs.loading.load_all.Given as goal

abbrev pub invariant-loop-load : goal.invariant-loop-load
invariant-loop-load g l = record {
  files : g.S.Shelf.files l.shelf ≡ g.S.Shelf.files l.initial.shelf;
  no_lower : g.S.Shelf.faults l.initial.shelf ≤ g.S.Shelf.faults l.shelf;
  goes : Continues (g.S.Shelf.files l.initial.shelf) l.loads l.loaded.names l.loaded.modules (drop l.load-index l.loads);
}

use Rattle.rw_edge.specs.Count.{Faulted}
use Rattle.wasm_link.proofs.Exact.{exactly}
use Rattle.wasm_link.proofs.running.run_script.Goals as goal

pub returns-clause-exact : goal.returns-clause-exact
returns-clause-exact g c =
    exactly (g.S.Shelf.files c.args.shelf.now) c.args.script.now (Faulted (g.S.Shelf.faults c.args.shelf.now) (g.S.Shelf.faults c.run_unseen.new.shelf)) c.run_unseen.result
    c.run_unseen.ensures.answers c.run_unseen.ensures.shelf

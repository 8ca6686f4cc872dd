use Rattle.wasm_link.specs.words.Loads.{modules_loaded}
use Rattle.wasm_link.proofs.Runs.{ran}
use Rattle.wasm_link.proofs.running.run_loaded.Goals as goal

pub returns-in-Ok : goal.returns-in-Ok
returns-in-Ok g c =
    ran g.O.Observer.eyes (modules_loaded c.args.loaded.now) c.args.steps c.args.actions.now c.args.observer.now c.act_all.new.observer c.started-run.result c.act_all.new.run c.in-Ok.turn c.ended.result
    c.started-run.ensures c.in-Ok.ensures c.ended.ensures

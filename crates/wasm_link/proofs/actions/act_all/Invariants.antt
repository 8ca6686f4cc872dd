use Rattle.std.proofs.Common.{None, drop}
use Rattle.wasm_sessions.specs.Instantiation.{IsAtRest}
use Rattle.wasm_link.specs.words.{Ready, Reaches, AreKnown, stage_of, watch_of}
use Rattle.wasm_link.specs.words.Loads.{modules_loaded}
use Rattle.wasm_link.proofs.actions.act_all.Given as goal

abbrev pub invariant-loop-action : goal.invariant-loop-action
invariant-loop-action g l = record {
  ready : Ready l.run;
  rest : IsAtRest l.run.config.outcome;
  known : AreKnown l.loaded.names l.run.names (drop l.action-index l.actions);
  reaches : Reaches g.O.Observer.eyes (modules_loaded l.loaded)
      (stage_of l.initial.run None l.actions) (watch_of l.initial.observer l.initial.run None None)
      (stage_of l.run None (drop l.action-index l.actions)) (watch_of l.observer l.run None None);
}

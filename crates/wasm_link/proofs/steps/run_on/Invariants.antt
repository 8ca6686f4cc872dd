use Rattle.std.proofs.Common.{List, Some, None}
use Rattle.script_text.specs.declared.script.Action.{Action}
use Rattle.wasm_link.specs.Lines.{Doing}
use Rattle.wasm_link.specs.Stages.{Modules}
use Rattle.wasm_link.specs.words.{Ready, Kept, Reaches, stage_of, watch_of}
use Rattle.wasm_link.proofs.steps.run_on.Given as goal

abbrev pub invariant-steps : goal.invariant-steps
invariant-steps g l = record {
  ready : Ready l.run;
  kept : Kept l.initial.run l.run;
  reaches : (ms : Modules) (doing : Doing) (rest : List Action) → Reaches g.O.Observer.eyes ms
      (stage_of l.initial.run (Some doing) rest) (watch_of l.initial.observer l.initial.run None None)
      (stage_of l.run (Some doing) rest) (watch_of l.observer l.run None None);
}

abbrev pub decreases-steps : goal.decreases-steps
decreases-steps g l = l.run.left

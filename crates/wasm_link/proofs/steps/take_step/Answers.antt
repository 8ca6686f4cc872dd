use Rattle.std.proofs.Common.{arith}
use Rattle.wasm_link.proofs.Readying.{step_ready, step_kept}
use Rattle.wasm_link.proofs.steps.take_step.Goals as goal

pub returns-in-Ok-clause-ready : goal.returns-in-Ok-clause-ready
returns-in-Ok-clause-ready c =
    step_ready c.args.run.now _ _ _ c.requires.ready c.step.ensures.typed c.in-Ok.ensures.step (omega (arith, c.requires.ready.few, c.requires.left))

pub returns-in-Ok-clause-kept : goal.returns-in-Ok-clause-kept
returns-in-Ok-clause-kept c = step_kept c.args.run.now _ _ _ c.in-Ok.ensures.step

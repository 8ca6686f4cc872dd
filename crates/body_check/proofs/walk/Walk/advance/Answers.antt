use Rattle.std.proofs.Common.{refl}
use Rattle.wasm_syntax.specs.Items.{instr_seen}
use Rattle.body_check.specs.declared.open.Labels.{Labels}
use Rattle.body_check.specs.declared.walk.Walk.{Walk}
use Rattle.body_check.specs.words.Steps.{context_in}
use Rattle.body_check.proofs.WalkSteps.{all_walked}
use Rattle.body_check.proofs.walk.Walk.advance.Goals as goal

pub returns-in-One : goal.returns-in-One
returns-in-One c =
    let after : Walk = record { operands = c.step.new.operands; opens = c.args.self.now.opens } in
    let labels : Labels = record { opens = c.as_slice.result; results = c.args.names.now.results } in
    all_walked c.step.result (context_in c.args.names.now) labels c.args.self.now after (instr_seen c.in-One.instr) c.args.item.now c.in-One.ensures c.step.ensures.below refl c.as_slice.ensures.value c.requires.names.results c.step.ensures.goes

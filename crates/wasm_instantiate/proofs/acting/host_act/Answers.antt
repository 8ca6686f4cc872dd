use Rattle.wasm_instantiate.proofs.ActLemmas.{answers_typed}
use Rattle.wasm_instantiate.proofs.acting.host_act.Goals as goal

pub returns-then-is_write-clause-typed : goal.returns-then-is_write-clause-typed
returns-then-is_write-clause-typed c =
    answers_typed c.args.policy.now c.args.config.now c.write_in.new.config c.args.act.now c.write_in.result c.requires.typed c.write_in.ensures

pub returns-else-is_write-clause-typed : goal.returns-else-is_write-clause-typed
returns-else-is_write-clause-typed c =
    answers_typed c.args.policy.now c.args.config.now c.act_on_frames.new.config c.args.act.now c.act_on_frames.result c.requires.typed c.act_on_frames.ensures

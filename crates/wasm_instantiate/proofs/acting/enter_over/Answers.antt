use Rattle.std.proofs.lemmas.Result.{on_ok_weaker}
use Rattle.wasm_instantiate.proofs.EnteringLemmas.{entered_over, enterable_here}
use Rattle.wasm_instantiate.proofs.acting.enter_over.Goals as goal

pub make_frame-requires : goal.make_frame-requires
make_frame-requires c = enterable_here c.config.inside c.args.config.now c.args.address c.config.view_is c.requires.typed c.requires.exists

pub returns-clause-ok : goal.returns-clause-ok
returns-clause-ok c =
    on_ok_weaker c.push.result (λ h. entered_over c.config.inside c.args.config.now c.args.address c.args.args c.in_ok-frame.frame c.push.new.self c.config.view_is c.requires.exists h c.in_ok-frame.ensures) c.push.ensures.ok

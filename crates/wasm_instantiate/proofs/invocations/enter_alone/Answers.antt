use Rattle.wasm_instantiate.proofs.EnteringLemmas.{entered_alone, enterable_here}
use Rattle.std.proofs.Common.{ap, ◌∙◌, ◌∷◌, ◌++◌, []}
use Rattle.wasm_instantiate.proofs.invocations.enter_alone.Goals as goal

pub returns-clause-ok : goal.returns-clause-ok
returns-clause-ok c =
    let frame = c.in_ok-frame.frame in
    entered_alone c.config.inside c.args.config.now c.args.address c.args.args frame c.push.new.self c.config.view_is c.requires.exists (c.in_ok-push.ensures.ok ∙ ap (λ fs. fs ++ frame ∷ []) c.new-frames.ensures) c.in_ok-frame.ensures

pub make_frame-requires : goal.make_frame-requires
make_frame-requires c = enterable_here c.config.inside c.args.config.now c.args.address c.config.view_is c.requires.typed c.requires.exists

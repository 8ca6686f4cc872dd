use Rattle.std.proofs.Common.{◌++◌, ◌∷◌, [], ap, ◌∙◌}
use Rattle.wasm_binary.proofs.CodeLoop.{copies-push}
use Rattle.wasm_binary.proofs.code.push_copies.Goals as goal

pub loop-preserved : goal.loop-preserved
loop-preserved c =
    c.in_ok-push.ensures.ok ∙ ap (λ ls. ls ++ c.args.ty ∷ []) c.loop.invariant ∙ copies-push c.args.locals.now c.loop.counter c.args.ty

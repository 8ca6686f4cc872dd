use Rattle.std.proofs.Common.{◌≡◌, map, subst, ap, ◌∙◌}
use Rattle.std.proofs.lemmas.Result.{IfOk-weaker}
use Rattle.wasm_syntax.specs.declared.module.Module.{Module}
use Rattle.step_bound.specs.Told.{AreBoundsOf}
use Rattle.step_bound.specs.words.Tables.{told_of}
use Rattle.step_bound.proofs.Tables.{told_right}
use Rattle.step_bound.proofs.bound.step_bounds.Goals as goal

pub returns : goal.returns
returns c =
    let s = c.in_ok-settle_all.ensures in
    IfOk-weaker c.told_all.result (λ told. told ≡ map told_of c.as_slice.result.now) (AreBoundsOf c.args.module.now)
    (λ told e. subst (λ (m : Module). AreBoundsOf m told) c.module-module.ensures.same
    (told_right c.module-module.result.now c.settle_all.new.known told s.right s.settled (e ∙ ap (map told_of) c.as_slice.ensures)))
    c.told_all.ensures

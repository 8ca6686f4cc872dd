use Rattle.std.proofs.Common.{◌≡◌, ℕ, ◌<◌, List, length, Option, IfSome, Some, ◌∷◌, ◌++◌, [], slice_get, ap, subst, ◌∙◌}
use Rattle.wasm_values.specs.declared.number.Val.{Val}
use Rattle.wasm_store.specs.declared.store.FuncInst.{FuncInst}
use Rattle.wasm_store.specs.Seen.{seen_frame}
use Rattle.wasm_store.specs.Control.{IsFrameOf}
use Rattle.module_instances.proofs.FuncLemmas.{enterable}
use Rattle.module_instances.proofs.StoringLemmas.{begins}
use Rattle.module_instances.proofs.storing.first_frames.Goals as goal

pub returns-in_ok-push-in-Some : goal.returns-in_ok-push-in-Some
returns-in_ok-push-in-Some c =
    let s = c.args.store.now in
    let frame = c.in_ok-frame-in-Some.frame in
    let P : List Val → Type 0 = λ v. (inst : FuncInst) → slice_get s.funcs c.in-Some.address ≡ Some inst → IsFrameOf s.instances c.in-Some.address v inst (seen_frame s.funcs s.instances frame) in
    begins s c.args.start c.in-Some.address frame c.push.new.self c.in-Some.is c.requires.exists (c.in_ok-push-in-Some.ensures.ok ∙ ap (λ fs. fs ++ frame ∷ []) c.new-frames.ensures) (subst P c.new-in-Some.ensures c.in_ok-frame-in-Some.ensures)

pub make_frame-requires : goal.make_frame-requires
make_frame-requires c =
    let P : Option ℕ → Type 0 = λ start. IfSome start (λ a. a < length c.args.store.now.funcs) in
    enterable c.args.store.now c.in-Some.address c.requires.typed (subst P c.in-Some.is c.requires.exists)

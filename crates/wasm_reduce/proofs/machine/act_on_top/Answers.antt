use Rattle.std.proofs.Common.{◌≡◌, ◌-◌, List, get_or, set, reverse, ap, subst, ◌∙◌}
use Rattle.std.proofs.lemmas.Result.{IfOk-weaker}
use Rattle.wasm_store.specs.declared.config.CodeFrame.{CodeFrame}
use Rattle.wasm_store.specs.declared.config.Frame.{Frame}
use Rattle.wasm_store.specs.declared.config.Frame.TheVariants.{Code}
use Rattle.wasm_reduce.specs.declared.effect.Effect.{Effect}
use Rattle.wasm_reduce.specs.words.Effects.{CameOf, moves_of}
use Rattle.wasm_reduce.specs.words.Layers.{HasTop}
use Rattle.wasm_reduce.proofs.Stacks.{last_is, reverse-set_last}
use Rattle.wasm_reduce.proofs.machine.act_on_top.Goals as goal

pub returns-clause-ok : goal.returns-clause-ok
returns-clause-ok c =
    let s = c.args.store.now in
    let a = c.act in
    let xs = c.args.frames.now.items in
    let len = c.len-last.ensures ∙ c.args.frames.now.ok.0 in
    let moves = moves_of c.args.policy.now s in
    IfOk-weaker a.result (λ (e : Effect). CameOf (moves c.in-Code.frame) s c.in-Code.frame a.new.store a.new.frame e)
    (λ e. (f : CodeFrame) (below : List Frame) → HasTop xs f below → (g : CodeFrame) × HasTop (set xs (c.len-last.result - 1) (Code a.new.frame)) g below × CameOf (moves f) s f a.new.store g e)
    (λ e h f below top.
    let here : c.index_mut.result.now ≡ Code f =
    c.index_mut.ensures.value ∙ ap (λ n. get_or xs (n - 1) c.index_mut.result.now) len ∙ last_is xs below (Code f) c.index_mut.result.now top
    in
    let same : c.in-Code.frame ≡ f = cc (here, c.in-Code.is) in (
      a.new.frame,
      ap (λ n. reverse (set xs (n - 1) (Code a.new.frame))) len ∙ reverse-set_last xs below (Code f) (Code a.new.frame) top,
      subst (λ (x : CodeFrame). CameOf (moves x) s x a.new.store a.new.frame e) same h,
    ))
    a.ensures.ok

use Rattle.std.proofs.Common.{◌≡◌, ◌<◌, ◌+◌, ◌++◌, ◌∷◌, [], length, ap, sym, ◌∙◌, arith}
use Rattle.std.proofs.lemmas.Iterator.Consumers.{YieldsList-turn}
use Rattle.std.proofs.lemmas.Iterator.Adapters.{YieldsList-from_vec}
use Rattle.std.proofs.lemmas.List.{length_push, map_push}
use Rattle.wasm_binary.proofs.SectionLoop.{more_funcs}
use Rattle.wasm_binary.proofs.decoder.join_funcs.Goals as goal

pub loop-body-preserved : goal.loop-body-preserved
loop-body-preserved c =
    let g = c.into_iter-body-iterator.ensures.into_iter_gives in
    let v = c.into_vec-body-items.result in
    let items : v.items ≡ c.args.bodies = c.into_vec-body-items.ensures in
    let len : v.len ≡ length c.args.bodies = omega (arith, v.ok.0, ap length items) in
    let t = YieldsList-turn (YieldsList-from_vec c.args.bodies (g.0 ∙ items) (g.1 ∙ len)) c.loop-body.yielded c.loop-body.body-iterator c.loop-body.yielded_by c.next.result c.next.new.self c.in-Some.body c.in-Some.is c.next.ensures.steps in
    let lt : length c.loop-body.yielded < length c.args.declared.now = omega (arith, t.0, c.requires) in
    let i : c.len.result ≡ length c.loop-body.yielded = c.len.ensures ∙ c.loop-body.invariant.2 in
    let k = c.in_ok-push.ensures.ok in (
      rw (k, i, c.loop-body.invariant.0) (sym (more_funcs c.args.declared.now c.loop-body.yielded c.in-Some.body 0 lt)),
      c.in_ok-push-2.ensures.ok ∙ ap (λ ps. ps ++ c.in-Some.body.places ∷ []) c.loop-body.invariant.1 ∙ sym (map_push _ c.loop-body.yielded c.in-Some.body),
      rw k (length_push c.loop-body.funcs _ ∙ ap (λ n. n + 1) c.loop-body.invariant.2 ∙ sym (length_push c.loop-body.yielded c.in-Some.body)),
    )

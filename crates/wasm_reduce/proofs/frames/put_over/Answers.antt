use Rattle.std.proofs.Common.{◌≡◌, ◌-◌, ◌∷◌, length, get_or, set, reverse, ap, ◌∙◌}
use Rattle.wasm_store.specs.declared.config.Frame.TheVariants.{Code}
use Rattle.wasm_store.specs.Configuration.{Layer}
use Rattle.wasm_store.specs.Seen.{seen_frame}
use Rattle.wasm_reduce.specs.words.Layers.{layers}
use Rattle.wasm_reduce.proofs.Stacks.{reverse-push, second_is, reverse-set_second}
use Rattle.wasm_reduce.proofs.frames.put_over.Goals as goal

pub returns-clause-ok : goal.returns-clause-ok
returns-clause-ok c = λ s f below h.
    let xs = c.push_frame.new.frames.items in
    let y = c.index_mut.result.now in
    let z = c.go_on.new.frame in
    let pushed : reverse xs ≡ c.args.layer ∷ Code f ∷ below =
    ap reverse c.in_ok-push_frame.ensures.ok ∙ reverse-push c.args.frames.now.items c.args.layer ∙ ap (λ r. c.args.layer ∷ r) h
    in
    let long : c.len-waiting.result ≡ length xs = c.len-waiting.ensures ∙ c.push_frame.new.frames.ok.0 in
    let here : y ≡ Code f =
    c.index_mut.ensures.value ∙ ap (λ n. get_or xs (n - 2) y) long ∙ second_is xs below c.args.layer (Code f) y pushed
    in
    let written : reverse (set xs (c.len-waiting.result - 2) z) ≡ c.args.layer ∷ z ∷ below =
    ap (λ n. reverse (set xs (n - 2) z)) long ∙ reverse-set_second xs below c.args.layer (Code f) z pushed
    in
    ap (layers s) written ∙ ap (λ (l : Layer). seen_frame s.funcs s.instances c.args.layer ∷ l ∷ layers s below) (c.go_on.ensures f here s)

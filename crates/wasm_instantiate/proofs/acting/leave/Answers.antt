use Rattle.std.proofs.Common.{◌≡◌, List, reverse, sym, ap, subst, ◌∙◌}
use Rattle.std.proofs.lemmas.Result.{on_ok_weaker}
use Rattle.wasm_store.specs.declared.config.Frame.{Frame}
use Rattle.wasm_store.specs.Configuration.{Configuration}
use Rattle.wasm_store.specs.Seen.{seen_frame}
use Rattle.wasm_store.specs.Control.{given_to}
use Rattle.wasm_reduce.specs.words.Layers.{layers}
use Rattle.wasm_sessions.specs.Hosts.{HasHostOnTop}
use Rattle.wasm_instantiate.proofs.ActLemmas.{some_frame, left_with}
use Rattle.wasm_instantiate.proofs.acting.leave.Goals as goal

pub pass_down-left-requires-clause-top : goal.pass_down-left-requires-clause-top
pass_down-left-requires-clause-top c =
    let i = c.config.inside in
    let H : Configuration → Type 0 = λ x. HasHostOnTop x.frames in
    let f = some_frame (seen_frame i.store.funcs i.store.instances) (reverse i.frames) (subst H (sym c.config.view_is) c.requires.host) in
    (f.0, f.1, ap reverse (c.into_vec-frames.ensures ∙ c.replace.ensures.value) ∙ f.2)

pub returns-clause-ok : goal.returns-clause-ok
returns-clause-ok c =
    let i = c.config.inside in
    let taken = c.into_vec-frames.ensures ∙ c.replace.ensures.value in
    on_ok_weaker c.pass_down-left.result (λ h. left_with i c.args.config.now c.from_vec.result c.pass_down-left.new.outcome c.args.values c.config.view_is (λ s top below e.
    let P : List Frame → Type 0 = λ fs. record { store = s; frames = layers s (reverse fs); outcome = c.pass_down-left.new.outcome } ≡ given_to s (reverse c.args.values) (layers s below) in
    subst P (sym c.from_vec.ensures) (h s top below (ap reverse taken ∙ e)))) c.pass_down-left.ensures.ok

use Rattle.std.proofs.Common.{◌≡◌, ◌∷◌, ◌≤◌, List, length, take, drop, reverse, sym, ap, subst, arith, ◌∙◌}
use Rattle.std.proofs.lemmas.List.{length-drop, length-reverse, reverse-reverse}
use Rattle.std.proofs.lemmas.Result.{on_ok_weaker}
use Rattle.wasm_values.specs.declared.number.Val.{Val}
use Rattle.wasm_store.specs.declared.config.Outcome.TheVariants.{Running}
use Rattle.wasm_store.specs.Configuration.{Layer, OfCode, Configuration}
use Rattle.wasm_store.specs.Seen.{seen_frame}
use Rattle.wasm_store.specs.Control.{type_of_inst, IsFrameOf}
use Rattle.wasm_reduce.specs.words.Effects.{moved_to, under}
use Rattle.wasm_reduce.specs.words.Layers.{layers, stands_for}
use Rattle.wasm_reduce.proofs.Entering.{args_within, enters_by}
use Rattle.wasm_reduce.proofs.machine.enter.Goals as goal

pub top_operands-requires : goal.top_operands-requires
top_operands-requires c =
    let r = c.requires in
    let s = c.args.store.now in
    let enters = r.4.2 in
    let ops = r.0.operands in
    let count = c.param_count-count.ensures enters.0 enters.1 in
    let within = args_within s (under (moved_to s r.0 c.args.on) c.args.above) r.4.0 r.4.1 c.args.func enters.0 enters.2 in
    (r.0, r.1, ap reverse c.deref.ensures.value ∙ r.2, omega (arith, count, within, r.3, length-drop c.args.above (reverse ops), length-reverse ops))

pub put_over-requires : goal.put_over-requires
put_over-requires c =
    let r = c.requires in
    let s = c.args.store.now in
    let enters = r.4.2 in
    let ops = r.0.operands in
    let count = c.param_count-count.ensures enters.0 enters.1 in
    let within = args_within s (under (moved_to s r.0 c.args.on) c.args.above) r.4.0 r.4.1 c.args.func enters.0 enters.2 in
    (r.0, r.1, r.2, omega (arith, count, within, r.3, length-drop c.args.above (reverse ops), length-reverse ops))

pub returns-clause-ok : goal.returns-clause-ok
returns-clause-ok c =
    let r = c.requires in
    let s = c.args.store.now in
    let a = c.args.func in
    let above = c.args.above in
    let enters = r.4.2 in
    let inst = enters.0 in
    let count = c.param_count-count.ensures inst enters.1 in
    on_ok_weaker c.put_over.result (λ h f below top.
    let same : r.0 ≡ f = cc (r.2, top) in
    let within = args_within s (under (moved_to s r.0 c.args.on) above) r.4.0 r.4.1 a inst enters.2 in
    let fits : length (type_of_inst inst).params ≤ length (drop above (reverse f.operands)) = rw (← same) within in
    let args = c.in_ok-args.ensures f below (ap reverse c.deref.ensures.value ∙ top) in
    let frame = c.in_ok-frame.ensures inst enters.1 in
    let made = subst (λ (vs : List Val). IsFrameOf s.instances a vs inst (seen_frame s.funcs s.instances c.in_ok-frame.frame)) (sym (reverse-reverse c.in_ok-args.args) ∙ ap reverse (args ∙ ap (λ n. take n (drop above (reverse f.operands))) count)) frame in
    let d : Configuration = stands_for s c.put_over.new.frames.items Running in
    let frames = h s f below top ∙ ap (λ n. seen_frame s.funcs s.instances c.in_ok-frame.frame ∷ OfCode (under (under (moved_to s f c.args.on) above) n) ∷ layers s below) count in (
      inst,
      enters.1,
      enters_by s (under (moved_to s f c.args.on) above) (layers s below) d a inst (seen_frame s.funcs s.instances c.in_ok-frame.frame) fits made (
          ap (λ (fs : List Layer). record { store = s; frames = fs; outcome = Running }) frames
          ),
    )) c.put_over.ensures.ok

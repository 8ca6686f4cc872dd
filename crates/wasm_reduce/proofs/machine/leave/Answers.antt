use Rattle.std.proofs.Common.{◌≡◌, ◌≤◌, length, take, drop, reverse, slice_get, Some, ap, ◌∙◌}
use Rattle.std.proofs.lemmas.Result.{on_ok_weaker}
use Rattle.wasm_store.specs.declared.config.Frame.TheVariants.{Code}
use Rattle.wasm_store.specs.Control.{type_of_inst, given_to}
use Rattle.wasm_reduce.specs.words.Layers.{layers}
use Rattle.wasm_reduce.proofs.machine.leave.Goals as goal

pub returns-clause-ok : goal.returns-clause-ok
returns-clause-ok c =
    let r = c.requires.can in
    let leaves = r.4.2 in
    let s = c.args.store.now in
    on_ok_weaker c.pass_down.result (λ h f below top.
    let same : r.0 ≡ f = cc (r.2, top) in
    let there : slice_get s.funcs f.func ≡ Some leaves.0 = rw (← same) leaves.1 in
    let within : length (type_of_inst leaves.0).results ≤ length (drop c.args.above (reverse f.operands)) =
    rw (← same) leaves.2
    in
    let count : c.result_count-count.result ≡ length (type_of_inst leaves.0).results =
    c.result_count-count.ensures leaves.0 (
    ap (slice_get s.funcs) (c.top_func.ensures f below (ap reverse c.deref.ensures.value ∙ top)) ∙ there
    )
    in
    let results = c.in_ok-results.ensures f below (ap reverse c.deref-2.ensures.value ∙ top) in (
      leaves.0,
      there,
      within,
      h s (Code f) below top
          ∙ ap (λ rs. given_to s rs (layers s below)) (
          results ∙ ap (λ n. take n (drop c.args.above (reverse f.operands))) count
          ),
    )) c.pass_down.ensures.ok

use Rattle.std.proofs.Common.{◌∷◌, ◌∙◌, None}
use Rattle.wasm_sessions.proofs.HostLaws.{pool_exists}
use Rattle.script_text.specs.declared.script.Action.TheVariants.{Call}
use Rattle.wasm_link.specs.words.{live_of, stage_of, watch_of}
use Rattle.wasm_link.proofs.Moments.{looked_up}
use Rattle.wasm_link.proofs.Turning.{left_here}
use Rattle.wasm_link.proofs.actions.call.Goals as goal

pub enter_with-requires-clause-exists : goal.enter_with-requires-clause-exists
enter_with-requires-clause-exists g c =
    let s = c.args.run.now.config.store in
    pool_exists s c.requires.ready.typed.store c.args.target (looked_up s (live_of c.args.run.now) c.args.instance.now c.args.export.now c.args.target c.requires.there)

pub returns-in-Ok : goal.returns-in-Ok
returns-in-Ok g c = λ ms rest at.
    c.enter_with.ensures ms rest c.args.instance.now c.args.export.now at (c.as_slice.ensures.value ∙ c.in-Ok.ensures) c.requires.there

pub returns-in-Err : goal.returns-in-Err
returns-in-Err g c = λ ms rest at.
    left_here g.O.Observer.eyes ms (stage_of c.args.run.now None (Call c.args.instance.now c.args.export.now at c.args.args.now ∷ rest)) (watch_of c.args.observer.now c.args.run.now None None)

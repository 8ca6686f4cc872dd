use Rattle.std.proofs.Common.{◌≡◌, rules, arith}
use Rattle.wasm_store.specs.declared.config.Outcome.TheVariants.{Running}
use Rattle.wasm_instantiate.specs.declared.sight.Sight.TheVariants.{GoOn, Stop}
use Rattle.wasm_link.specs.words.{Stepped}
use Rattle.wasm_link.proofs.Reaching.{reach_on, reach_step, taken_step}
use Rattle.wasm_link.proofs.Readying.{kept_on}
use Rattle.wasm_link.proofs.steps.run_on.Goals as goal

pub returns-in-Stop-clause-reaches : goal.returns-in-Stop-clause-reaches
returns-in-Stop-clause-reaches g c =
    let running : c.steps.run.config.outcome ≡ Running = first_of (search rules, grind arith) in
    let step : Stepped c.steps.run c.take_step.new.run = taken_step _ _ _ c.in_ok-taken.ensures.taken c.if-taken.true in
    λ ms doing rest. reach_on g.O.Observer.eyes ms _ _ _ _ _ _ (c.steps.invariant.reaches ms doing rest)
    (reach_step g.O.Observer.eyes ms doing rest c.steps.run c.take_step.new.run c.steps.observer c.see.new.self (Stop c.in-Stop.n) running step c.see.ensures.noted c.in-Stop.ensures.told)

pub steps-preserved : goal.steps-preserved
steps-preserved g c =
    let running : c.steps.run.config.outcome ≡ Running = first_of (search rules, grind arith) in
    let step : Stepped c.steps.run c.take_step.new.run = taken_step _ _ _ c.in_ok-taken.ensures.taken c.if-taken.true in
    record {
      ready = c.take_step.ensures.ready;
      kept = kept_on _ _ _ c.steps.invariant.kept c.take_step.ensures.kept;
      reaches = λ ms doing rest. reach_on g.O.Observer.eyes ms _ _ _ _ _ _ (c.steps.invariant.reaches ms doing rest)
          (reach_step g.O.Observer.eyes ms doing rest c.steps.run c.take_step.new.run c.steps.observer c.see.new.self GoOn running step c.see.ensures.noted c.in-GoOn.ensures.told);
    }

use Rattle.std.proofs.Common.{◌≡◌, [], drop}
use Rattle.wasm_link.specs.Stages.{externs_from}
use Rattle.wasm_link.specs.words.{live_of}
use Rattle.wasm_link.proofs.look.externs_of.Given as goal

abbrev pub invariant-loop-origin : goal.invariant-loop-origin
invariant-loop-origin l =
    externs_from l.run.config.store (live_of l.run) l.externs.items (drop l.origin-index l.from) ≡ externs_from l.run.config.store (live_of l.run) [] l.from

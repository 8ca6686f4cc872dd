use Rattle.std.proofs.Common.{sym, ◌∙◌}
use Rattle.initial_memory.proofs.Endings.{stops}
use Rattle.initial_memory.proofs.chunks.last_end.Goals as goal

pub returns-in-None : goal.returns-in-None
returns-in-None c =
    stops c.args.setting.now c.args.chunks.now c.loop-chunk.chunk-index c.loop-chunk.from c.chunk-item.result _ c.loop-chunk-test.true c.chunk-item.is
    (sym c.in_ok-end.ensures ∙ c.in-None.is) c.loop-chunk.invariant

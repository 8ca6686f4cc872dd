use Rattle.std.proofs.Common.{◌∙◌}
use Rattle.heap_logic.proofs.Symmetric.{term-turned}
use Rattle.symbolic_assertions.proofs.chunks.is_term.Goals as goal

pub returns : goal.returns
returns c = c.is_replaced.ensures.value ∙ term-turned _ _

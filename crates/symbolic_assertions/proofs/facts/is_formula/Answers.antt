use Rattle.std.proofs.Common.{◌∙◌}
use Rattle.heap_logic.proofs.Symmetric.{same-turned}
use Rattle.symbolic_assertions.proofs.facts.is_formula.Goals as goal

pub returns : goal.returns
returns c = c.is_replaced_formula.ensures.value ∙ same-turned _ _

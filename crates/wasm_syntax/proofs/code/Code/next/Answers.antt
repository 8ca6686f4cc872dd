use Rattle.std.proofs.Common.{Some, ap, ◌∙◌}
use Rattle.wasm_syntax.specs.declared.flat.Flat.TheVariants.{Else}
use Rattle.wasm_syntax.proofs.RestLaws.{next_within}
use Rattle.wasm_syntax.proofs.NextLaws.{OneAt-item, PartAt-Block, PartAt-Loop, rest_at-Else, rest_at-End}
use Rattle.wasm_syntax.proofs.code.Code.next.Goals as goal

pub returns-in-One-clause-next : goal.returns-in-One-clause-next
returns-in-One-clause-next c = OneAt-item _ _ _ (c.at.ensures.item ∙ ap Some c.in-One.ensures)

pub returns-in-Block-clause-next : goal.returns-in-Block-clause-next
returns-in-Block-clause-next c = PartAt-Block _ _ _ _ (c.at.ensures.item ∙ ap Some c.in-Block.ensures) c.end_of.ensures.closes

pub returns-in-Loop-clause-next : goal.returns-in-Loop-clause-next
returns-in-Loop-clause-next c = PartAt-Loop _ _ _ _ (c.at.ensures.item ∙ ap Some c.in-Loop.ensures) c.end_of-in-Loop.ensures.closes

pub returns-in-Else-clause-next : goal.returns-in-Else-clause-next
returns-in-Else-clause-next c =
    let item = c.at.ensures.item ∙ ap Some c.in-Else.ensures in
    (rest_at-Else c.args.self.now c.args.position item, next_within c.args.self.now c.args.position Else item (λ e. cc))

pub returns-in-End-clause-next : goal.returns-in-End-clause-next
returns-in-End-clause-next c = rest_at-End c.args.self.now c.args.position (c.at.ensures.item ∙ ap Some c.in-End.ensures)

use Rattle.std.proofs.Common.{refl, ap, ◌∙◌}
use Rattle.wasm_syntax.specs.Parts.{then_item}
use Rattle.wasm_syntax.proofs.PartLemmas.{flat_parts-next, StandFor-put_item, parts_of-next}
use Rattle.wasm_syntax.proofs.maker.CodeMaker.put_item.Goals as goal

pub invariant_of-self-2 : goal.invariant_of-self-2
invariant_of-self-2 c = StandFor-put_item _ _ _ c.self.invariant c.args.item c.requires.simple c.in_ok-push.ensures.ok

pub returns-clause-ok : goal.returns-clause-ok
returns-clause-ok c =
    parts_of-next _ _ _ c.self.invariant c.args.item c.in_ok-push.ensures.ok ∙ ap (λ ps. then_item ps c.args.item) c.self.view_is

pub returns-clause-items : goal.returns-clause-items
returns-clause-items c =
    let left = StandFor-put_item _ _ _ c.self.invariant c.args.item c.requires.simple c.in_ok-push.ensures.ok in
    flat_parts-next _ _ _ c.self.invariant _ _ c.args.item c.self.view_is refl c.in_ok-push.ensures.ok left.form

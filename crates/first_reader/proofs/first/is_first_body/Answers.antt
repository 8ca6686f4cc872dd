use Rattle.std.proofs.Common.{sym, ◌∙◌, arith}
use Rattle.first_reader.proofs.FirstLaws.{IsItem, items_go_on, items_stop, items_end}
use Rattle.first_reader.proofs.first.is_first_body.Goals as goal

pub returns-then-not-is_first_item : goal.returns-then-not-is_first_item
returns-then-not-is_first_item c =
    let here : IsItem c.args.code.now c.loop-i.i c.at.result.now =
    record { within = omega (arith, c.loop-i-test.true, c.len-last.ensures.value); there = c.at.ensures.item } in
    items_stop c.args.code.now c.loop-i.i c.at.result.now here (sym c.is_first_item.ensures ∙ c.if-not-is_first_item.true) c.loop-i.invariant

pub loop-i-preserved : goal.loop-i-preserved
loop-i-preserved c =
    let here : IsItem c.args.code.now c.loop-i.i c.at.result.now =
    record { within = omega (arith, c.loop-i-test.true, c.len-last.ensures.value); there = c.at.ensures.item } in
    items_go_on c.args.code.now c.loop-i.i c.at.result.now here (sym c.is_first_item.ensures ∙ c.if-not-is_first_item.false) c.loop-i.invariant

pub returns : goal.returns
returns c =
    items_end c.args.code.now c.loop-i.i (omega (arith, c.loop-i-test.false, c.len-last.ensures.value)) c.loop-i.invariant

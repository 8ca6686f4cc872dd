use Rattle.std.proofs.Common.{arith}
use Rattle.body_check.proofs.BodyLemmas.{simple_at, some_items}
use Rattle.wasm_validate.proofs.RangeLemmas.{in_range_first, in_range_next, in_range_whole}
use Rattle.wasm_validate.proofs.ranges.read_body.Goals as goal

pub loop-n-init : goal.loop-n-init
loop-n-init c = in_range_first c.args.body.now

pub read_item-requires : goal.read_item-requires
read_item-requires c = simple_at c.args.body.now c.loop-n.n c.at.result.now c.at.ensures.item

pub loop-n-preserved : goal.loop-n-preserved
loop-n-preserved c = in_range_next c.args.body.now c.loop-n.n c.at.result.now c.at.ensures.item c.read_item.ensures c.loop-n.invariant

pub returns : goal.returns
returns c =
    in_range_whole c.args.body.now c.loop-n.n
    (let h = c.loop-n-test.false in let m = c.loop-n.auto.n-end in let e = c.len-last.ensures.value in let s = some_items c.args.body.now in omega (arith, h, m, e, s))
    c.loop-n.invariant

use Rattle.std.proofs.Common.{◌≡◌, ◌-◌, ◌<◌, ◌≤◌, Some, None, length, sym, arith}
use Rattle.wasm_syntax.specs.FlatForm.{flat_body}
use Rattle.step_bound.specs.words.Sums.{called, sums_of, walked}
use Rattle.step_bound.proofs.Sums.{stops, goes_on, is_over}
use Rattle.step_bound.proofs.walk.body_sum.Goals as goal

pub returns-then-not-branch : goal.returns-then-not-branch
returns-then-not-branch c =
    let known = called c.args.calls.now.imported c.args.calls.now.bounds.now in
    let body = c.args.body.now in
    let less : c.loop-n.n < length (flat_body body) - 1 = omega (arith, c.loop-n-test.true, c.len-last.ensures.value) in
    let went : walked known (sums_of c.loop-n.walk) c.at.result.now ≡ None = grind (arith, c.in_ok-take.ensures, c.if-not-branch.true) in
    sym (stops known body c.loop-n.n (sums_of c.loop-n.walk) c.at.result.now less c.at.ensures.item went c.loop-n.invariant)

pub loop-n-preserved : goal.loop-n-preserved
loop-n-preserved c =
    let known = called c.args.calls.now.imported c.args.calls.now.bounds.now in
    let body = c.args.body.now in
    let less : c.loop-n.n < length (flat_body body) - 1 = omega (arith, c.loop-n-test.true, c.len-last.ensures.value) in
    let went : walked known (sums_of c.loop-n.walk) c.at.result.now ≡ Some (sums_of c.take.new.self) = grind (arith, c.in_ok-take.ensures, c.if-not-branch.false) in
    goes_on known body c.loop-n.n (sums_of c.loop-n.walk) (sums_of c.take.new.self) c.at.result.now less c.at.ensures.item went c.loop-n.invariant

pub returns : goal.returns
returns c =
    let known = called c.args.calls.now.imported c.args.calls.now.bounds.now in
    let body = c.args.body.now in
    let late : length (flat_body body) - 1 ≤ c.loop-n.n = omega (arith, c.loop-n-test.false, c.len-last.ensures.value) in
    sym (is_over known body c.loop-n.n (sums_of c.loop-n.walk) late c.loop-n.invariant)

use Rattle.std.proofs.Common.{◌≡◌, ◌≤◌, ◌-◌, length, arith}
use Rattle.std.specs.Option.{option_copied}
use Rattle.outline_check.proofs.WalkLemmas.{length-simple, run-end}
use Rattle.outline_check.proofs.walk.run.Goals as goal

pub instr_at-requires-clause-within : goal.instr_at-requires-clause-within
instr_at-requires-clause-within c =
    omega (arith, length-simple c.args.code.now c.requires.simple, c.len-last.ensures.value, c.loop-i-test.true)

pub returns : goal.returns
returns c =
    let past : length c.args.code.now ≤ c.loop-i.i =
    omega (arith, length-simple c.args.code.now c.requires.simple, c.len-last.ensures.value, c.loop-i-test.false) in
    let at_end : c.loop-i.i ≡ c.len-last.result - 1 = omega (arith, c.loop-i-test.false, c.loop-i.auto.i-end) in
    run-end c.args.invariant.now c.args.function c.args.notes.now c.args.places.now c.args.code.now c.loop-i.state c.loop-i.i
    (c.len-last.result - 1) (option_copied c.note_here.result.0) c.ended.result c.placed-2.result _ at_end past
    c.note_here.ensures.note c.ended.ensures c.placed-2.ensures c.loop-i.invariant.so_far

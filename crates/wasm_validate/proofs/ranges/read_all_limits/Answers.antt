use Rattle.std.proofs.Common.{None, refl}
use Rattle.wasm_syntax.specs.declared.module.Limits.{Limits}
use Rattle.wasm_typing.specs.Valid.{LimitsInRange}
use Rattle.body_check.proofs.SectionLemmas.{each_more_at, each_all}
use Rattle.wasm_validate.proofs.ranges.read_all_limits.Goals as goal

pub loop-one-preserved : goal.loop-one-preserved
loop-one-preserved c =
    let none : Limits = record { min = 0; max = None } in
    each_more_at LimitsInRange c.args.limits.now c.loop-one.one-index none c.loop-one.invariant c.loop-one-test.true c.read_limits.ensures

pub returns : goal.returns
returns c = each_all LimitsInRange c.args.limits.now c.args.limits.now c.loop-one.one-index c.loop-one.invariant refl c.loop-one-test.false

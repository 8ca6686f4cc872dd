use Rattle.std.proofs.Common.{◌<◌}
use Rattle.wasm_typing.specs.Valid.{BytesInRange}
use Rattle.wasm_syntax.specs.declared.module.Custom.{Custom}
use Rattle.body_check.proofs.SectionLemmas.{each_more, each_all}
use Rattle.wasm_validate.proofs.ranges.read_customs.Goals as goal

pub loop-custom-preserved : goal.loop-custom-preserved
loop-custom-preserved c = each_more (λ (s : Custom). (s.after < 256) × BytesInRange s.name × BytesInRange s.bytes) c.args.module.now.customs c.as_slice-custom-items.result.now c.loop-custom.custom-index c.custom-item.result c.loop-custom.invariant c.as_slice-custom-items.ensures c.loop-custom-test.true c.custom-item.is c.read_one_custom.ensures

pub returns : goal.returns
returns c = each_all (λ (s : Custom). (s.after < 256) × BytesInRange s.name × BytesInRange s.bytes) c.args.module.now.customs c.as_slice-custom-items.result.now c.loop-custom.custom-index c.loop-custom.invariant c.as_slice-custom-items.ensures c.loop-custom-test.false

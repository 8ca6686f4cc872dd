use Rattle.module_instances.proofs.BuildingLemmas.{func_more}
use Rattle.module_instances.proofs.parts.make_funcs.Goals as goal

pub loop-k-preserved : goal.loop-k-preserved
loop-k-preserved c =
    func_more c.args.module.now c.args.instance c.loop-k.k c.func-item.result c.as_slice-func-items.result.now c.as_slice.result.now c.index-as_slice-func.result c.in_ok-ty.ty c.loop-k.made c.push.new.self
    c.loop-k.invariant c.in_ok-push.ensures.ok c.loop-k-test.true c.func-item.is c.as_slice-func-items.ensures c.in_ok-ty.ensures c.index-as_slice-func.is c.as_slice.ensures c.requires.known

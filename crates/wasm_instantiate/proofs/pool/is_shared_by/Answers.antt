use Rattle.std.proofs.Common.{refl}
use Rattle.wasm_store.specs.declared.store.Instance.{Instance}
use Rattle.wasm_instantiate.specs.words.Finding.{Shares}
use Rattle.wasm_instantiate.proofs.SearchLemmas.{none_more, none_at_all, fails, shared, shared_none}
use Rattle.wasm_instantiate.proofs.pool.is_shared_by.Goals as goal

pub returns-then-shares : goal.returns-then-shares
returns-then-shares c = (λ t. shared c.args.store.now c.as_slice-instance-items.result.now c.loop-instance.instance-index c.instance-item.result c.args.table c.args.address c.as_slice-instance-items.ensures c.loop-instance-test.true c.instance-item.is (c.shares.ensures.0 c.if-shares.true), λ h. refl)

pub loop-instance-preserved : goal.loop-instance-preserved
loop-instance-preserved c =
    let P : Instance → Type 0 = λ i. Shares i c.args.table c.args.address in
    none_more P c.args.store.now.instances c.as_slice-instance-items.result.now c.loop-instance.instance-index c.instance-item.result c.loop-instance.invariant c.as_slice-instance-items.ensures c.loop-instance-test.true c.instance-item.is (fails c.shares.result c.shares.ensures.1 c.if-shares.false)

pub returns : goal.returns
returns c =
    let P : Instance → Type 0 = λ i. Shares i c.args.table c.args.address in
    let none = none_at_all P c.args.store.now.instances c.as_slice-instance-items.result.now c.loop-instance.instance-index c.loop-instance.invariant c.as_slice-instance-items.ensures c.loop-instance-test.false in
    (λ t. cc, λ h. absurd (shared_none c.args.store.now c.args.table c.args.address none h))

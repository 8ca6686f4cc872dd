use Rattle.std.proofs.Common.{List, ℕ, refl, subst}
use Rattle.wasm_store.specs.declared.store.Extern.{Extern}
use Rattle.wasm_store.specs.declared.store.Instance.{Instance}
use Rattle.wasm_instantiate.specs.words.Finding.{ReachesAmong}
use Rattle.wasm_instantiate.proofs.SearchLemmas.{none_more, none_at_all, fails, reached, reached_none}
use Rattle.wasm_instantiate.proofs.pool.is_reached.Goals as goal

pub returns-then-some_reaches : goal.returns-then-some_reaches
returns-then-some_reaches c = (λ t. reached c.args.store.now c.as_slice-instance-items.result.now c.loop-instance.instance-index c.instance-item.result c.args.address c.as_slice-instance-items.ensures c.loop-instance-test.true c.instance-item.is (let M : List (List ℕ × Extern) → Type 0 = λ l. ReachesAmong c.args.store.now l c.args.address in subst M c.as_slice.ensures (c.some_reaches.ensures.0 c.if-some_reaches.true)), λ h. refl)

pub loop-instance-preserved : goal.loop-instance-preserved
loop-instance-preserved c =
    let P : Instance → Type 0 = λ i. ReachesAmong c.args.store.now i.exports c.args.address in
    none_more P c.args.store.now.instances c.as_slice-instance-items.result.now c.loop-instance.instance-index c.instance-item.result c.loop-instance.invariant c.as_slice-instance-items.ensures c.loop-instance-test.true c.instance-item.is (let M : List (List ℕ × Extern) → Type 0 = λ l. ReachesAmong c.args.store.now l c.args.address → ⊥ in subst M c.as_slice.ensures (fails c.some_reaches.result c.some_reaches.ensures.1 c.if-some_reaches.false))

pub returns : goal.returns
returns c =
    let P : Instance → Type 0 = λ i. ReachesAmong c.args.store.now i.exports c.args.address in
    let none = none_at_all P c.args.store.now.instances c.as_slice-instance-items.result.now c.loop-instance.instance-index c.loop-instance.invariant c.as_slice-instance-items.ensures c.loop-instance-test.false in
    (λ t. cc, λ h. absurd (reached_none c.args.store.now c.args.address none h))

use Rattle.std.proofs.Common.{List, ℕ, refl, subst}
use Rattle.wasm_store.specs.declared.store.Extern.{Extern}
use Rattle.wasm_store.specs.declared.store.Instance.{Instance}
use Rattle.wasm_instantiate.specs.words.Finding.{IsAmong}
use Rattle.wasm_instantiate.proofs.SearchLemmas.{none_more, none_at_all, fails, exported, exported_none}
use Rattle.wasm_instantiate.proofs.pool.is_exported.Goals as goal

pub returns-then-is_among : goal.returns-then-is_among
returns-then-is_among c = (λ t. exported c.args.store.now c.as_slice-instance-items.result.now c.loop-instance.instance-index c.instance-item.result c.args.wanted c.as_slice-instance-items.ensures c.loop-instance-test.true c.instance-item.is (let M : List (List ℕ × Extern) → Type 0 = λ l. IsAmong l c.args.wanted in subst M c.as_slice.ensures (c.is_among.ensures.0 c.if-is_among.true)), λ h. refl)

pub loop-instance-preserved : goal.loop-instance-preserved
loop-instance-preserved c =
    let P : Instance → Type 0 = λ i. IsAmong i.exports c.args.wanted in
    none_more P c.args.store.now.instances c.as_slice-instance-items.result.now c.loop-instance.instance-index c.instance-item.result c.loop-instance.invariant c.as_slice-instance-items.ensures c.loop-instance-test.true c.instance-item.is (let M : List (List ℕ × Extern) → Type 0 = λ l. IsAmong l c.args.wanted → ⊥ in subst M c.as_slice.ensures (fails c.is_among.result c.is_among.ensures.1 c.if-is_among.false))

pub returns : goal.returns
returns c =
    let P : Instance → Type 0 = λ i. IsAmong i.exports c.args.wanted in
    let none = none_at_all P c.args.store.now.instances c.as_slice-instance-items.result.now c.loop-instance.instance-index c.loop-instance.invariant c.as_slice-instance-items.ensures c.loop-instance-test.false in
    (λ t. cc, λ h. absurd (exported_none c.args.store.now c.args.wanted none h))

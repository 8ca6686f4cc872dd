use Rattle.wasm_store.specs.declared.store.Instance.{Instance}
use Rattle.wasm_instantiate.specs.words.Finding.{Shares}
use Rattle.wasm_instantiate.proofs.SearchLemmas.{NoneBefore}
use Rattle.wasm_instantiate.proofs.pool.is_shared_by.Given as goal

abbrev pub invariant-loop-instance : goal.invariant-loop-instance
invariant-loop-instance l = NoneBefore (λ (i : Instance). Shares i l.table l.address) l.store.instances l.instance-index

use Rattle.wasm_store.specs.declared.store.Instance.{Instance}
use Rattle.wasm_instantiate.specs.words.Finding.{IsAmong}
use Rattle.wasm_instantiate.proofs.SearchLemmas.{NoneBefore}
use Rattle.wasm_instantiate.proofs.pool.is_exported.Given as goal

abbrev pub invariant-loop-instance : goal.invariant-loop-instance
invariant-loop-instance l = NoneBefore (λ (i : Instance). IsAmong i.exports l.wanted) l.store.instances l.instance-index

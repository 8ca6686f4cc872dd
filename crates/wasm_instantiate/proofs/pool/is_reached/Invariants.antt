use Rattle.wasm_store.specs.declared.store.Instance.{Instance}
use Rattle.wasm_instantiate.specs.words.Finding.{ReachesAmong}
use Rattle.wasm_instantiate.proofs.SearchLemmas.{NoneBefore}
use Rattle.wasm_instantiate.proofs.pool.is_reached.Given as goal

abbrev pub invariant-loop-instance : goal.invariant-loop-instance
invariant-loop-instance l = NoneBefore (λ (i : Instance). ReachesAmong l.store i.exports l.address) l.store.instances l.instance-index

use Rattle.std.proofs.Common.{ℕ, List}
use Rattle.wasm_store.specs.declared.store.Extern.{Extern}
use Rattle.wasm_instantiate.specs.words.Finding.{Reaches}
use Rattle.wasm_instantiate.proofs.SearchLemmas.{NoneBefore}
use Rattle.wasm_instantiate.proofs.pool.some_reaches.Given as goal

abbrev pub invariant-loop-export : goal.invariant-loop-export
invariant-loop-export l = NoneBefore (λ (x : List ℕ × Extern). Reaches l.store x.1 l.address) l.exports l.export-index

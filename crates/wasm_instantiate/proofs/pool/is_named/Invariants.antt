use Rattle.std.proofs.Common.{◌≡◌, ℕ, ◌<◌, Some, slice_get}
use Rattle.wasm_instantiate.proofs.pool.is_named.Given as goal

abbrev pub invariant-loop-address : goal.invariant-loop-address
invariant-loop-address l = (k : ℕ) → k < l.address-index → slice_get l.addresses k ≡ Some l.wanted → ⊥

use Rattle.std.proofs.Common.{◌≡◌, ℕ, ◌<◌, IsTrue, Some, slice_get}
use Rattle.wasm_syntax.specs.declared.module.Import.{Import}
use Rattle.wasm_store.specs.declared.store.Extern.{Extern}
use Rattle.wasm_sessions.specs.Matching.{does_match}
use Rattle.module_instances.proofs.matching.find_mismatch.Given as goal

abbrev pub invariant-loop-k : goal.invariant-loop-k
invariant-loop-k l =
    (j : ℕ) (e : Extern) (i : Import) → j < l.k → slice_get l.externs j ≡ Some e → slice_get l.«module».imports j ≡ Some i → IsTrue (does_match l.store l.«module».types e i.kind)

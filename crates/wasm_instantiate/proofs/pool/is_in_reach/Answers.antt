use Rattle.std.proofs.Common.{inl, inr}
use Rattle.wasm_instantiate.proofs.SearchLemmas.{reach_is, fails}
use Rattle.wasm_instantiate.proofs.pool.is_in_reach.Goals as goal

pub returns-else-is_reached : goal.returns-else-is_reached
returns-else-is_reached c =
    let s = c.args.store.now in
    let a = c.args.address in (
      λ t. inl (inr (c.is_host_func.ensures.0 t)),
      λ h. elim (reach_is s a h) [
        | inl x ↦ absurd (fails c.is_reached.result c.is_reached.ensures.1 c.if-is_reached.false x)
        | inr x ↦ c.is_host_func.ensures.1 x
      ],
    )

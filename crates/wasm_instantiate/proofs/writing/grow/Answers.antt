use Rattle.wasm_instantiate.proofs.WriteLemmas.{memory_there, memory_grown}
use Rattle.std.proofs.Common.{refl, ap, ◌∙◌, slice_get}
use Rattle.wasm_instantiate.proofs.writing.grow.Goals as goal

pub lets_grow-requires : goal.lets_grow-requires
lets_grow-requires c =
    memory_there c.args.store.now c.args.memory c.as_slice.result.now c.requires c.as_slice.ensures (c.is_in_pool.ensures.0 c.if-not-is_in_pool.false)

pub grow_memory-requires : goal.grow_memory-requires
grow_memory-requires c =
    memory_there c.args.store.now c.args.memory c.args.store.now.memories c.requires refl (c.is_in_pool.ensures.0 c.if-not-is_in_pool.false)

pub returns-in-Ok : goal.returns-in-Ok
returns-in-Ok c =
    let s = c.args.store.now in
    let pool = c.is_in_pool.ensures.0 c.if-not-is_in_pool.false in
    let f = memory_there s c.args.memory s.memories c.requires refl pool in
    memory_grown c.args.policy.now s c.args.memory c.args.pages c.as_slice.result.now c.grow_memory.new.memories f.0 c.lets_grow.result pool c.as_slice.ensures f.1 (c.lets_grow.ensures f.0 (ap (λ l. slice_get l c.args.memory) c.as_slice.ensures ∙ f.1)) c.if-not-lets_grow.false (c.in-Ok.ensures.ok f.0 f.1)

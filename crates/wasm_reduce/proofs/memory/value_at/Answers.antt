use Rattle.std.proofs.Common.{◌≡◌, true, Some, None, sym, ap, ◌∙◌}
use Rattle.wasm_syntax.specs.Accesses.{bytes_loaded}
use Rattle.wasm_store.specs.Memory.{value_loaded, items_at, is_within}
use Rattle.wasm_reduce.proofs.Loads.{when_true}
use Rattle.wasm_reduce.proofs.memory.value_at.Goals as goal

pub returns-then-is_within : goal.returns-then-is_within
returns-then-is_within c =
    let bytes = c.args.memory.now.bytes in
    let op = c.args.op in
    let at = c.args.at in
    let w = bytes_loaded op in
    let lies : is_within bytes at w ≡ true =
    ap (λ l. is_within l at w) (sym c.as_slice-bytes.ensures)
    ∙ ap (λ n. is_within c.as_slice-bytes.result.now at n) (sym c.bytes_loaded-width.ensures.value)
    ∙ sym c.is_within.ensures ∙ c.if-is_within.true
    in
    let value : c.value_loaded.result ≡ value_loaded op (items_at bytes at w) =
    c.value_loaded.ensures
    ∙ ap (value_loaded op) (
    c.accessed.ensures
    ∙ ap (λ l. items_at l at c.bytes_loaded-width.result) c.as_slice-bytes.ensures
    ∙ ap (λ n. items_at bytes at n) c.bytes_loaded-width.ensures.value
    )
    in
    when_true (is_within bytes at w) (Some (value_loaded op (items_at bytes at w))) None (Some c.value_loaded.result) lies (ap Some value)

use Rattle.std.proofs.Common.{◌++◌, length, drop, replicate, ap, ◌∙◌}
use Rattle.std.specs.Int.{from_le_bytes, w64}
use Rattle.wasm_values.proofs.ByteLaws.{padded}
use Rattle.wasm_values.proofs.storage.load_le.Goals as goal

pub returns : goal.returns
returns c =
    c.from_le_bytes.ensures
    ∙ ap (λ bytes. from_le_bytes w64 (bytes ++ drop (length c.args.bytes.now) (replicate 8 0))) c.copy_from_slice.ensures.after
    ∙ padded c.args.bytes.now c.requires

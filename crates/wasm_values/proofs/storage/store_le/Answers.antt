use Rattle.std.proofs.Common.{length, take, ap, ◌∙◌}
use Rattle.wasm_values.proofs.ByteLaws.{taken}
use Rattle.wasm_values.proofs.storage.store_le.Goals as goal

pub returns : goal.returns
returns c =
    c.copy_from_slice.ensures.after ∙ ap (take (length c.args.into.now)) c.to_le_bytes-all.ensures
    ∙ taken (length c.args.into.now) c.args.value c.requires

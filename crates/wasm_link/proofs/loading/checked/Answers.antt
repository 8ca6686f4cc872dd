use Rattle.std.proofs.Common.{◌≡◌}
use Rattle.wasm_syntax.specs.declared.module.Module.{Module}
use Rattle.wasm_typing.specs.Valid.{Valid}
use Rattle.wasm_link.proofs.Loads.{told_invalid}
use Rattle.wasm_link.proofs.loading.checked.Goals as goal

pub returns-in-Err : goal.returns-in-Err
returns-in-Err c =
    told_invalid (λ (v : Module). (v ≡ c.args.module) × Valid c.args.module) c.args.load.now c.args.module c.args.marks.now c.in-Err.fault c.invalid.result c.invalid.ensures c.in-Err.ensures

use Rattle.std.proofs.Common.{◌≡◌, refl}
use Rattle.wasm_syntax.specs.declared.module.Module.{Module}
use Rattle.wasm_typing.specs.Valid.{Valid}
use Rattle.wasm_validate.proofs.PartsLemmas.{parts_valid, refusal}
use Rattle.wasm_validate.proofs.valid.validate.Goals as goal

pub read_numbers-requires : goal.read_numbers-requires
read_numbers-requires c = parts_valid c.args.module c.in-Ok.ensures

pub invariant_of-result : goal.invariant_of-result
invariant_of-result c = record { ranges = c.read_numbers.ensures; parts = parts_valid c.args.module c.in-Ok.ensures }

pub returns-in-Ok : goal.returns-in-Ok
returns-in-Ok c = (refl, record { ranges = c.read_numbers.ensures; parts = parts_valid c.args.module c.in-Ok.ensures })

pub returns-in-Err : goal.returns-in-Err
returns-in-Err c = refusal c.args.module c.args.marks.now c.in-Err.fault (λ (v : Module). (v ≡ c.args.module) × Valid c.args.module) c.in-Err.ensures

use Rattle.std.proofs.Common.{◌≡◌, refl}
use Rattle.wasm_syntax.specs.declared.module.Module.{Module}
use Rattle.wasm_typing.specs.declared.fault.ValidFault.TheVariants as fault
use Rattle.wasm_typing.specs.Valid.{Valid}
use Rattle.verify_report.specs.Reports.{module_valid}
use Rattle.verify_report.proofs.ReportLaws.{valid_said, invalid_said}
use Rattle.verify_report.proofs.stages.checked_parts.Goals as goal

pub returns-in-Ok-clause-made : goal.returns-in-Ok-clause-made
returns-in-Ok-clause-made c =
    valid_said (λ m k r. r ≡ module_valid) c.accepted.result c.args.module c.args.marks.now module_valid c.in-Ok.ensures.1 refl c.accepted.ensures.made

pub returns-in-Err-Invalid-clause-made : goal.returns-in-Err-Invalid-clause-made
returns-in-Err-Invalid-clause-made c =
    let e : c.in-Err-Invalid.field-0 ≡ fault.Invalid c.in-Err-Invalid.at c.in-Err-Invalid.word = cc in
    invalid_said (λ (v : Module). (v ≡ c.args.module) × Valid c.args.module) (λ m k r. r ≡ module_valid) c.invalid.result c.args.module c.args.marks.now
    c.in-Err-Invalid.field-0 c.in-Err-Invalid.at c.in-Err-Invalid.word e c.in-Err-Invalid.ensures c.invalid.ensures.made

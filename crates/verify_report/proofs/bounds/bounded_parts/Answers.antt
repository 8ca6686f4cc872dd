use Rattle.std.proofs.Common.{◌≡◌}
use Rattle.wasm_syntax.specs.declared.module.Module.{Module}
use Rattle.wasm_typing.specs.declared.fault.ValidFault.TheVariants as fault
use Rattle.wasm_typing.specs.Valid.{Valid}
use Rattle.verify_report.specs.Reports.{OfBounds}
use Rattle.verify_report.proofs.ReportLaws.{valid_made, invalid_said}
use Rattle.verify_report.proofs.bounds.bounded_parts.Goals as goal

pub returns-in-Ok-clause-made : goal.returns-in-Ok-clause-made
returns-in-Ok-clause-made c =
    valid_made (λ m k. OfBounds m) c.listed.result c.in-Ok.valid c.args.module c.args.marks.now c.in-Ok.ensures c.listed.ensures.made

pub returns-in-Err-Invalid-clause-made : goal.returns-in-Err-Invalid-clause-made
returns-in-Err-Invalid-clause-made c =
    let e : c.in-Err-Invalid.field-0 ≡ fault.Invalid c.in-Err-Invalid.at c.in-Err-Invalid.word = cc in
    invalid_said (λ (v : Module). (v ≡ c.args.module) × Valid c.args.module) (λ m k. OfBounds m) c.invalid.result c.args.module c.args.marks.now
    c.in-Err-Invalid.field-0 c.in-Err-Invalid.at c.in-Err-Invalid.word e c.in-Err-Invalid.ensures c.invalid.ensures.made

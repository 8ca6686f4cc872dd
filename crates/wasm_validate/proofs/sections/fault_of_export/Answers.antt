use Rattle.wasm_typing.specs.faults.Faults.{names_one}
use Rattle.wasm_validate.proofs.NameLemmas.{new_row}
use Rattle.wasm_validate.proofs.sections.fault_of_export.Goals as goal

pub returns-then-branch : goal.returns-then-branch
returns-then-branch c = λ seen has.
    let made = c.in_ok-add_name.ensures seen has in
    let row = new_row (names_one c.args.module.now c.args.export.now.kind) c.in_ok-add_name.field-0 c.as_str.result.now c.args.export.now.name c.add_name.new.names seen
    c.as_str.ensures c.names_some.ensures c.if-not-names_some.false made.0 c.if-branch.true made.1 in
    (row.0, λ none. row.1)

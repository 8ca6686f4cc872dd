use Rattle.std.proofs.Common.{ap, ◌∙◌, not}
use Rattle.wasm_validate.proofs.NameLemmas.{one_more}
use Rattle.wasm_validate.proofs.sections.add_name.Goals as goal

pub returns-in-Ok : goal.returns-in-Ok
returns-in-Ok c = λ seen has. (c.in-Ok.ensures.added ∙ ap not (has c.args.name), one_more c.args.names.now c.insert.new.self c.args.name seen has (c.in-Ok.ensures.updates.0))

use Rattle.std.proofs.Common.{◌∙◌, ap}
use Rattle.outline_rules.specs.Blocks.{changes_of, joined}
use Rattle.wasm_syntax.specs.Places.{rest_at}
use Rattle.block_changes.proofs.part.changes_from.Goals as goal

pub returns : goal.returns
returns c = c.in_ok-add.ensures ∙ ap (λ d. joined d (changes_of (rest_at c.args.code.now c.args.from))) c.new-changes.ensures

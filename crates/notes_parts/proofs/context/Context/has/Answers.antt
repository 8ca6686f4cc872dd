use Rattle.std.proofs.Common.{is_some, sym, ap, ◌∙◌}
use Rattle.notes_grammar.specs.Words.{same_word}
use Rattle.notes_parts.proofs.NameLemmas.{some_position}
use Rattle.notes_parts.proofs.context.Context.has.Goals as goal

pub returns : goal.returns
returns c = c.is_some.ensures ∙ ap is_some c.place_of.ensures ∙ sym (some_position (same_word c.args.name.now) c.args.self.now.names)

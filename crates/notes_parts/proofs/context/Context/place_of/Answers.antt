use Rattle.std.proofs.Common.{position, ap, ◌∙◌}
use Rattle.std.specs.Prelude.{string_bytes}
use Rattle.notes_grammar.specs.Shapes.{Setting}
use Rattle.notes_grammar.specs.Words.{same_word}
use Rattle.notes_parts.proofs.NameLemmas.{position-map}
use Rattle.notes_parts.proofs.context.Context.place_of.Goals as goal

pub returns : goal.returns
returns c =
    c.get_index_of.ensures.index ∙ position-map (same_word c.args.name.now) string_bytes c.self.inside.names.keys
    ∙ ap (λ (s : Setting). position (same_word c.args.name.now) s.names) c.self.view_is

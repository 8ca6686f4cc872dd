use Rattle.std.proofs.Common.{ap, ◌∙◌}
use Rattle.std.specs.Prelude.{string_bytes}
use Rattle.std.specs.Str.{bytes_eq}
use Rattle.script_text.specs.Names.{place_in}
use Rattle.script_text.proofs.NameLemmas.{position-map}
use Rattle.script_text.proofs.names.NameTable.place_of.Goals as goal

pub returns-clause-place : goal.returns-clause-place
returns-clause-place c =
    c.get_index_of.ensures.index ∙ position-map (bytes_eq c.args.name.now) string_bytes c.self.inside.names.keys
    ∙ ap (λ names. place_in names c.args.name.now) c.self.view_is

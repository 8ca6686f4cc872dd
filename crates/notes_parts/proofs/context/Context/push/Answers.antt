use Rattle.std.proofs.Common.{◌≡◌, false, ◌++◌, ◌∷◌, [], is_some, position, map, sym, ap, ◌∙◌}
use Rattle.std.specs.Prelude.{string_bytes}
use Rattle.std.specs.String.{string_eq}
use Rattle.notes_grammar.specs.Shapes.{Setting, is_among}
use Rattle.notes_grammar.specs.Words.{same_word}
use Rattle.notes_parts.proofs.NameLemmas.{some_position, pushed_key}
use Rattle.notes_parts.proofs.context.Context.push.Goals as goal

pub returns-clause-names : goal.returns-clause-names
returns-clause-names c =
    let keys = c.self.inside.names.keys in
    let text : string_bytes c.in_ok-name.name ≡ c.args.name.now = c.in_ok-name.ensures.ok in
    let none : is_some (position (same_word c.args.name.now) (map string_bytes keys)) ≡ false =
    sym (some_position (same_word c.args.name.now) (map string_bytes keys)) ∙ ap (λ (s : Setting). is_among s.names c.args.name.now) c.self.view_is ∙ c.requires in
    ap (map string_bytes) c.in_ok-insert.ensures.keys
    ∙ pushed_key string_eq (same_word c.args.name.now) string_bytes keys c.in_ok-name.name (λ x. ap (λ b. same_word b (string_bytes x)) text) none
    ∙ (λ i. (c.self.view_is i).names ++ text i ∷ [])

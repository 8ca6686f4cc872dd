use Rattle.std.proofs.Common.{◌≡◌, false, ◌++◌, ◌∷◌, [], map, ap, ◌∙◌}
use Rattle.std.specs.Prelude.{string_bytes}
use Rattle.std.specs.Str.{bytes_eq}
use Rattle.std.specs.String.{string_eq}
use Rattle.script_text.specs.Names.{is_among}
use Rattle.script_text.proofs.NameLemmas.{pushed_key}
use Rattle.script_text.proofs.names.NameTable.push.Goals as goal

pub returns-clause-ok : goal.returns-clause-ok
returns-clause-ok c =
    let keys = c.self.inside.names.keys in
    let text : string_bytes c.in_ok-name.name ≡ c.args.name.now = c.in_ok-name.ensures.ok in
    let none : is_among (map string_bytes keys) c.args.name.now ≡ false = ap (λ names. is_among names c.args.name.now) c.self.view_is ∙ c.requires in
    ap (map string_bytes) c.in_ok-insert.ensures.keys
    ∙ pushed_key string_eq (bytes_eq c.args.name.now) string_bytes keys c.in_ok-name.name (λ x. ap (λ b. bytes_eq b (string_bytes x)) text) none
    ∙ (λ i. c.self.view_is i ++ text i ∷ [])

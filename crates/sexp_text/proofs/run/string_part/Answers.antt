use Rattle.std.proofs.Common.{◌∷◌, [], Ok, refl, sym, ap, ◌∙◌}
use Rattle.std.proofs.lemmas.Str.{is_utf8-from_IsUtf8, IsUtf8-from_is_utf8}
use Rattle.std.proofs.lemmas.Bool.{false_from_ne_true}
use Rattle.std.specs.Str.{is_utf8}
use Rattle.sexp_text.specs.Items.{items_of, Quote}
use Rattle.sexp_text.specs.Reading.{string_items}
use Rattle.sexp_text.proofs.run.string_part.Goals as goal

pub returns-in_ok-text-in-Ok : goal.returns-in_ok-text-in-Ok
unfolding string_items items_of
returns-in_ok-text-in-Ok c =
    rw (is_utf8-from_IsUtf8 c.args.bytes.now c.in-Ok.ensures.cases.1)
    (ap (λ bytes. Ok (Quote c.args.at bytes ∷ [])) (sym (c.in_ok-text-in-Ok.ensures ∙ c.in-Ok.ensures.cases.0)))

pub returns-in-Err : goal.returns-in-Err
unfolding string_items
returns-in-Err c =
    rw (false_from_ne_true (is_utf8 c.args.bytes.now) (λ e. c.in-Err.ensures.cases.0 (IsUtf8-from_is_utf8 c.args.bytes.now e))) refl

use Rattle.std.proofs.Common.{◌≡◌, ℕ, Bool, true, false, List, Ok, Err, refl, ◌∙◌}
use Rattle.std.specs.Str.{IsUtf8, is_utf8}
use Rattle.std.proofs.lemmas.Str.{IsUtf8-from_is_utf8, is_utf8-from_IsUtf8}
use Rattle.binary_grammar.specs.declared.fault.DecodeFault.TheVariants.{Malformed}
use Rattle.binary_grammar.specs.declared.fault.DecodeWord.TheVariants.{Utf8}
use Rattle.binary_grammar.specs.words.Reading.{text_of}
use Rattle.wasm_binary.proofs.read.text_of.Goals as goal

is_text : (bs t : List ℕ) (at : ℕ) → IsUtf8 bs → t ≡ bs → text_of bs at ≡ Ok t
is_text bs t at h e = rw (is_utf8-from_IsUtf8 bs h, e) refl

no_text : (bs : List ℕ) (at : ℕ) (b : Bool) → is_utf8 bs ≡ b → (b ≡ true → ⊥) → text_of bs at ≡ Err (Malformed at Utf8)
no_text bs at true e h = absurd (h refl)
no_text bs at false e h = rw e refl

pub returns-in_ok-from_str-in-Ok : goal.returns-in_ok-from_str-in-Ok
returns-in_ok-from_str-in-Ok c =
    is_text c.args.bytes.now c.in_ok-from_str-in-Ok.field-0 c.args.at c.in-Ok.ensures.cases.1 (c.in_ok-from_str-in-Ok.ensures ∙ c.in-Ok.ensures.cases.0)

pub returns-in-Err : goal.returns-in-Err
returns-in-Err c =
    rw c.malformed.ensures (no_text c.args.bytes.now c.args.at (is_utf8 c.args.bytes.now) refl (λ e. c.in-Err.ensures.cases.0 (IsUtf8-from_is_utf8 c.args.bytes.now e)))

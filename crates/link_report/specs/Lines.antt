-- The lines of `link` beside the log. They are this project's own.
use Rattle.std.specs.Prelude.{ℕ, List, ◌++◌, codes}
use Rattle.wasm_values.specs.Places.{place_text}
use Rattle.sexp_text.specs.declared.fault.TextWord.{TextWord}
use Rattle.sexp_text.specs.declared.fault.TextWord.TheVariants as word
use Rattle.report_lines.specs.Lines.{line, word_line}

-- The words of the faults of a text.
abbrev pub text_word : TextWord → List ℕ
text_word word.End = codes "end"
text_word word.Byte = codes "byte"
text_word word.Close = codes "close"
text_word word.Number = codes "number"
text_word word.String = codes "string"
text_word word.Utf8 = codes "utf8"
text_word word.Rest = codes "rest"
text_word word.Form = codes "form"
text_word word.Name = codes "name"

-- `script: WORD at PLACE`
abbrev pub script_line : TextWord → ℕ → List ℕ
script_line w = word_line (codes "script") (text_word w)

-- `name at PLACE`
abbrev pub name_line : ℕ → List ℕ
name_line at = line (codes "name at " ++ place_text at)

-- `module NAME: `, and then a line
abbrev pub module_line : List ℕ → List ℕ → List ℕ
module_line name said = codes "module " ++ (name ++ (codes ": " ++ said))

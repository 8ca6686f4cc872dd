-- The lines of a report. They are this project's own.
use Rattle.std.specs.Prelude.{ℕ, List, [], ◌∷◌, ◌++◌, codes}
use Rattle.wasm_values.specs.declared.limit.LimitWord.{LimitWord}
use Rattle.wasm_values.specs.declared.limit.LimitWord.TheVariants as word
use Rattle.wasm_values.specs.Places.{place_text}
use Rattle.binary_grammar.specs.declared.fault.DecodeWord.{DecodeWord}
use Rattle.binary_grammar.specs.declared.fault.DecodeWord.TheVariants as decode
use Rattle.wasm_typing.specs.declared.fault.ValidWord.{ValidWord}
use Rattle.wasm_typing.specs.declared.fault.ValidWord.TheVariants as valid

-- A line ends in one newline.
abbrev pub line : List ℕ → List ℕ
line text = text ++ 10 ∷ []

-- The words of limits.
abbrev pub limit_text : LimitWord → List ℕ
limit_text word.Module = codes "module"
limit_text word.Notes = codes "notes"
limit_text word.Script = codes "script"
limit_text word.Types = codes "types"
limit_text word.Imports = codes "imports"
limit_text word.Functions = codes "functions"
limit_text word.Globals = codes "globals"
limit_text word.Params = codes "params"
limit_text word.Locals = codes "locals"
limit_text word.Nesting = codes "nesting"
limit_text word.Nodes = codes "nodes"
limit_text word.State = codes "state"
limit_text word.Facts = codes "facts"
limit_text word.Chunks = codes "chunks"
limit_text word.Variables = codes "variables"
limit_text word.Derivation = codes "derivation"

-- The words of the decoder's faults.
abbrev pub decode_text : DecodeWord → List ℕ
decode_text decode.End = codes "end"
decode_text decode.Magic = codes "magic"
decode_text decode.Byte = codes "byte"
decode_text decode.Order = codes "order"
decode_text decode.Size = codes "size"
decode_text decode.Number = codes "number"
decode_text decode.Utf8 = codes "utf8"
decode_text decode.Float = codes "float"
decode_text decode.Count = codes "count"

-- The words of the validator's faults.
abbrev pub valid_text : ValidWord → List ℕ
valid_text valid.WrongType = codes "type"
valid_text valid.Count = codes "count"
valid_text valid.Index = codes "index"
valid_text valid.Limits = codes "limits"
valid_text valid.Const = codes "const"
valid_text valid.Export = codes "export"
valid_text valid.Start = codes "start"
valid_text valid.Label = codes "label"
valid_text valid.Align = codes "align"
valid_text valid.Stack = codes "stack"

-- `CAUSE: WORD at PLACE`
abbrev pub word_line : List ℕ → List ℕ → ℕ → List ℕ
word_line cause word at = line (cause ++ (codes ": " ++ (word ++ (codes " at " ++ place_text at))))

-- `limit: WORD at PLACE`
abbrev pub limit_line : LimitWord → ℕ → List ℕ
limit_line w = word_line (codes "limit") (limit_text w)

-- `malformed: WORD at PLACE`
abbrev pub malformed_line : DecodeWord → ℕ → List ℕ
malformed_line w = word_line (codes "malformed") (decode_text w)

-- `invalid: WORD at PLACE`
abbrev pub invalid_line : ValidWord → ℕ → List ℕ
invalid_line w = word_line (codes "invalid") (valid_text w)

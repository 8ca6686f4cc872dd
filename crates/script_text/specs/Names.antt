-- Names of modules and instances. The format of scripts is this project's own.
use Rattle.std.specs.Prelude.{ℕ, Bool, false, List, [], ◌∷◌, Option, position}
use Rattle.std.specs.Option.{is_some}
use Rattle.std.specs.Str.{bytes_eq}
use Rattle.sexp_text.specs.Bytes.{is_letter}

-- where a name stands among names, the first of them having the number 0
abbrev pub place_in : List (List ℕ) → List ℕ → Option ℕ
place_in names name = position (bytes_eq name) names

-- a name is among others
abbrev pub is_among : List (List ℕ) → List ℕ → Bool
is_among names name = is_some (place_in names name)

-- a word that begins with a letter
abbrev pub is_name : List ℕ → Bool
is_name [] = false
is_name (b ∷ bs) = is_letter b

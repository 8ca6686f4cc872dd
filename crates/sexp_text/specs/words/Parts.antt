-- The parts of a list as a list of values.
use Rattle.std.specs.Prelude.{ℕ, List, [], ◌∷◌, ◌++◌}
use Rattle.std.specs.List.{flat_map}
use Rattle.sexp_text.specs.declared.sexp.Sexp.{Sexp}
use Rattle.sexp_text.specs.Printing.{printed_node}

-- a part with a space before it
abbrev pub spaced : Sexp → List ℕ
spaced s = 32 ∷ printed_node s.node

-- parts with one space between two of them
abbrev pub printed_parts : List Sexp → List ℕ
printed_parts [] = []
printed_parts (x ∷ xs) = printed_node x.node ++ flat_map spaced xs

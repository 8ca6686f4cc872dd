-- The parts of a list in a text.
use Rattle.std.specs.Prelude.{ℕ, List, Option, Some, None}
use Rattle.sexp_text.specs.declared.sexp.Node.{Node, Num, Word, Str, List', items-the_row-Sexp}
use Rattle.sexp_text.specs.declared.sexp.Sexp.{Sexp}

-- the parts of a list with the place of its `)`
abbrev pub parts_of : Node → Option (List Sexp × ℕ)
parts_of (Num z) = None
parts_of (Word w) = None
parts_of (Str s) = None
parts_of (List' shape parts close) = Some (items-the_row-Sexp _ parts, close)

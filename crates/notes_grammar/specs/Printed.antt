-- The one text of notes: version 2, with one space between two parts of a list.
use Rattle.std.specs.Prelude.{ℕ, List, [], ◌∷◌, ◌++◌}
use Rattle.std.specs.Fmt.{signed_decimal}
use Rattle.sexp_text.specs.Spelling.{quoted}
use Rattle.sexp_text.specs.Printing.{Tree, Trees, Number, Name, Quote, Branch, Nil, Cons}
use Rattle.notes.specs.declared.outline.Notes.{Notes}
use Rattle.notes_grammar.specs.Shapes.{second_notes}

abbrev mutual
  -- a part: a number in decimal, a word as it is, a string with its quotes, or a list in parentheses
  pub printed_tree : Tree → List ℕ
  printed_tree (Number z) = signed_decimal z
  printed_tree (Name w) = w
  printed_tree (Quote s) = quoted s
  printed_tree (Branch ts) = 40 ∷ (printed_trees ts ++ 41 ∷ [])

  -- the parts of a list, with one space between two of them
  pub printed_trees : Trees → List ℕ
  printed_trees Nil = []
  printed_trees (Cons t ts) = printed_tree t ++ printed_more ts

  -- parts with a space before each
  pub printed_more : Trees → List ℕ
  printed_more Nil = []
  printed_more (Cons t ts) = 32 ∷ (printed_tree t ++ printed_more ts)

-- the text that notes are printed as
unfoldable pub notes_text : Notes → List ℕ
notes_text n = printed_tree (second_notes n).tree

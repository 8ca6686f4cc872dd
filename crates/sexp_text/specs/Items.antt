-- A value as the list of its items, in the order of the text. The format of texts is this project's own.
use Rattle.std.specs.Prelude.{ℕ, ℤ, List, [], ◌∷◌, ◌++◌}
use Rattle.std.specs.List.{flat_map}
use Rattle.sexp_text.specs.declared.sexp.Node.{Node, Num, Word, Str, List', Row_of-Sexp, end_of-Sexp, more_of-Sexp}
use Rattle.sexp_text.specs.declared.sexp.Sexp.{Sexp}

-- what stands between white space and comments: a parenthesis, a number, a word or a string, each with the place of its
-- first byte
pub data Item : Type 0 where
  Open : ℕ → Item
  Close : ℕ → Item
  Number : ℕ → ℤ → Item
  Name : ℕ → List ℕ → Item
  Quote : ℕ → List ℕ → Item

abbrev mutual
  -- the items of a part at a place
  pub node_items : ℕ → Node → List Item
  node_items at (Num z) = Number at z ∷ []
  node_items at (Word w) = Name at w ∷ []
  node_items at (Str s) = Quote at s ∷ []
  node_items at (List' shape parts close) = Open at ∷ (row_items parts ++ Close close ∷ [])

  -- the items of the parts of a list
  pub row_items : {n : _} → Row_of-Sexp n → List Item
  row_items end_of-Sexp = []
  row_items (more_of-Sexp at node rest) = node_items at node ++ row_items rest

-- the items of a value
unfoldable pub items_of : Sexp → List Item
items_of s = node_items s.at s.node

-- the items of values, one after another
abbrev pub items_of_all : List Sexp → List Item
items_of_all = flat_map items_of

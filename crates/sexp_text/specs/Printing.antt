-- The text that a value is printed as, and a value without its places. The format of texts is this project's own.
use Rattle.std.specs.Prelude.{ℕ, ℤ, List, [], ◌∷◌, ◌++◌}
use Rattle.std.specs.Fmt.{signed_decimal}
use Rattle.sexp_text.specs.declared.sexp.Node.{Node, Num, Word, Str, List', Row_of-Sexp, end_of-Sexp, more_of-Sexp}
use Rattle.sexp_text.specs.declared.sexp.Sexp.{Sexp}
use Rattle.sexp_text.specs.Spelling.{quoted}

abbrev mutual
  -- a part: a number in decimal, a word as it is, a string with its quotes, or a list in parentheses
  pub printed_node : Node → List ℕ
  printed_node (Num z) = signed_decimal z
  printed_node (Word w) = w
  printed_node (Str s) = quoted s
  printed_node (List' shape parts close) = 40 ∷ (printed_row parts ++ 41 ∷ [])

  -- the parts of a list, with one space between two of them
  pub printed_row : {n : _} → Row_of-Sexp n → List ℕ
  printed_row end_of-Sexp = []
  printed_row (more_of-Sexp at node rest) = printed_node node ++ printed_others rest

  -- parts with a space before each
  pub printed_others : {n : _} → Row_of-Sexp n → List ℕ
  printed_others end_of-Sexp = []
  printed_others (more_of-Sexp at node rest) = 32 ∷ (printed_node node ++ printed_others rest)

-- the one text of a value, with one space between two parts of a list and no other white space
unfoldable pub printed : Sexp → List ℕ
printed s = printed_node s.node

mutual
  -- a value without places
  pub data Tree : Type 0 where
    Number : ℤ → Tree
    Name : List ℕ → Tree
    Quote : List ℕ → Tree
    Branch : Trees → Tree

  pub data Trees : Type 0 where
    Nil : Trees
    Cons : Tree → Trees → Trees

abbrev mutual
  -- what is left of a part without places
  pub tree_of_node : Node → Tree
  tree_of_node (Num z) = Number z
  tree_of_node (Word w) = Name w
  tree_of_node (Str s) = Quote s
  tree_of_node (List' shape parts close) = Branch (trees_of_row parts)

  pub trees_of_row : {n : _} → Row_of-Sexp n → Trees
  trees_of_row end_of-Sexp = Nil
  trees_of_row (more_of-Sexp at node rest) = Cons (tree_of_node node) (trees_of_row rest)

-- a value without its places
unfoldable pub tree_of : Sexp → Tree
tree_of s = tree_of_node s.node

-- values without their places
abbrev pub trees_of : List Sexp → Trees
trees_of [] = Nil
trees_of (x ∷ xs) = Cons (tree_of_node x.node) (trees_of xs)

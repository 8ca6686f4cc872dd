-- A text's value as plain data: numbers, words, strings and lists with their places.
use Rattle.std.specs.Prelude.{ℕ, ℤ, List, [], ◌∷◌}
use Rattle.sexp_text.specs.declared.sexp.Node.{Node, Num, Word, Str, List', Row_of-Sexp, end_of-Sexp, more_of-Sexp}
use Rattle.sexp_text.specs.declared.sexp.Sexp.{Sexp}
use Rattle.sexp_text.specs.Printing.{Tree, Trees}
use Rattle.sexp_text.specs.Printing as tree

mutual
  -- a part with the place of its first byte; a list has that of its closing parenthesis too
  pub data Part : Type 0 where
    Number : ℕ → ℤ → Part
    Name : ℕ → List ℕ → Part
    Quote : ℕ → List ℕ → Part
    Branch : ℕ → Parts → ℕ → Part

  pub data Parts : Type 0 where
    Nil : Parts
    Cons : Part → Parts → Parts

abbrev mutual
  pub part_at : ℕ → Node → Part
  part_at at (Num z) = Number at z
  part_at at (Word w) = Name at w
  part_at at (Str s) = Quote at s
  part_at at (List' shape row close) = Branch at (parts_in row) close

  pub parts_in : {n : _} → Row_of-Sexp n → Parts
  parts_in end_of-Sexp = Nil
  parts_in (more_of-Sexp at node rest) = Cons (part_at at node) (parts_in rest)

-- a text's value as a part
unfoldable pub part_of : Sexp → Part
part_of s = part_at s.at s.node

-- values as parts
abbrev pub parts_of : List Sexp → Parts
parts_of [] = Nil
parts_of (s ∷ ss) = Cons (part_of s) (parts_of ss)

-- the place of a part
abbrev pub place : Part → ℕ
place (Number at z) = at
place (Name at w) = at
place (Quote at s) = at
place (Branch at ps close) = at

abbrev mutual
  -- a part without its places
  pub tree_of : Part → Tree
  tree_of (Number at z) = tree.Number z
  tree_of (Name at w) = tree.Name w
  tree_of (Quote at s) = tree.Quote s
  tree_of (Branch at ps close) = tree.Branch (trees_of ps)

  pub trees_of : Parts → Trees
  trees_of Nil = tree.Nil
  trees_of (Cons p ps) = tree.Cons (tree_of p) (trees_of ps)

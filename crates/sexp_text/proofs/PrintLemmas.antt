-- What is printed, by the parts of a list.
use mathlib.Core.Former.{Count}
use Rattle.std.proofs.Common.{◌≡◌, ℕ, ◌+◌, max, List, [], ◌∷◌, ◌++◌, refl, sym, ap, ◌∙◌, append_assoc}
use Rattle.std.specs.Fmt.{signed_decimal}
use Rattle.std.specs.List.{flat_map}
use Rattle.sexp_text.specs.declared.sexp.Node.{Node, Num, Word, Str, List', Row_of-Sexp, end_of-Sexp, more_of-Sexp, items-the_row-Sexp, items_hidden-the_row-Sexp-0}
use Rattle.sexp_text.specs.declared.sexp.Node.TheBlock.{hidden-the_row-Sexp-0}
use Rattle.sexp_text.specs.declared.sexp.Node.TheVariants as node
use Rattle.sexp_text.specs.declared.sexp.Sexp.{Sexp}
use Rattle.sexp_text.specs.Spelling.{quoted, depth_of_node, depth_of_row}
use Rattle.sexp_text.specs.Printing.{printed_node, printed_row, printed_others, printed, Tree, Trees, Number, Name, Quote, Branch, Nil, Cons, tree_of_node, trees_of_row, tree_of, trees_of}
use Rattle.sexp_text.specs.words.Parts.{spaced, printed_parts}

printed_others-listed : {n : Count} (row : Row_of-Sexp n) → printed_others row ≡ flat_map spaced (items-the_row-Sexp n row)
printed_others-listed end_of-Sexp = refl
printed_others-listed (more_of-Sexp at node rest) =
    ap (λ xs. 32 ∷ (printed_node node ++ xs)) (printed_others-listed rest)

printed_row-listed : {n : Count} (row : Row_of-Sexp n) → printed_row row ≡ printed_parts (items-the_row-Sexp n row)
printed_row-listed end_of-Sexp = refl
printed_row-listed (more_of-Sexp at node rest) = ap (λ xs. printed_node node ++ xs) (printed_others-listed rest)

pub printed_node-List : (parts : List Sexp) (close : ℕ) → printed_node (node.List parts close) ≡ 40 ∷ (printed_parts parts ++ 41 ∷ [])
printed_node-List parts close =
    ap (λ xs. 40 ∷ (xs ++ 41 ∷ [])) (printed_row-listed (hidden-the_row-Sexp-0 parts) ∙ ap printed_parts (items_hidden-the_row-Sexp-0 parts))

-- a list in parentheses, pushed one after another
pub printed_list : (old opened inside new : List ℕ) (n : Node) (given parts : List Sexp) (close : ℕ) → n ≡ node.List parts close → given ≡ parts →
    opened ≡ old ++ 40 ∷ [] → inside ≡ opened ++ printed_parts given → new ≡ inside ++ 41 ∷ [] → new ≡ old ++ printed_node n
printed_list old opened inside new n given parts close en eg eo ei ew =
    ew ∙ ap (λ xs. xs ++ 41 ∷ []) (ei ∙ ap (λ xs. xs ++ printed_parts given) eo ∙ ap (λ ps. (old ++ 40 ∷ []) ++ printed_parts ps) eg) ∙
    append_assoc (old ++ 40 ∷ []) (printed_parts parts) (41 ∷ []) ∙ append_assoc old (40 ∷ []) (printed_parts parts ++ 41 ∷ []) ∙
    ap (λ xs. old ++ xs) (sym (ap printed_node en ∙ printed_node-List parts close))

-- the same of trees and depths

abbrev pub depth_all : List Sexp → ℕ
depth_all [] = 0
depth_all (x ∷ xs) = max (depth_of_node x.node) (depth_all xs)

trees_of_row-listed : {n : Count} (row : Row_of-Sexp n) → trees_of_row row ≡ trees_of (items-the_row-Sexp n row)
trees_of_row-listed end_of-Sexp = refl
trees_of_row-listed (more_of-Sexp at node rest) = ap (λ ts. Cons (tree_of_node node) ts) (trees_of_row-listed rest)

depth_of_row-listed : {n : Count} (row : Row_of-Sexp n) → depth_of_row row ≡ depth_all (items-the_row-Sexp n row)
depth_of_row-listed end_of-Sexp = refl
depth_of_row-listed (more_of-Sexp at node rest) = ap (λ d. max (depth_of_node node) d) (depth_of_row-listed rest)

pub tree_of_node-List : (parts : List Sexp) (close : ℕ) → tree_of_node (node.List parts close) ≡ Branch (trees_of parts)
tree_of_node-List parts close = ap Branch (trees_of_row-listed (hidden-the_row-Sexp-0 parts) ∙ ap trees_of (items_hidden-the_row-Sexp-0 parts))

pub depth_of_node-List : (parts : List Sexp) (close : ℕ) → depth_of_node (node.List parts close) ≡ depth_all parts + 1
depth_of_node-List parts close = ap (λ d. d + 1) (depth_of_row-listed (hidden-the_row-Sexp-0 parts) ∙ ap depth_all (items_hidden-the_row-Sexp-0 parts))

pub tree_of-List : (at close : ℕ) (parts : List Sexp) → tree_of (record { at = at; node = node.List parts close }) ≡ Branch (trees_of parts)
unfolding tree_of
tree_of-List at close parts = tree_of_node-List parts close

-- what is printed, by the tree alone

abbrev mutual
  pub printed_tree : Tree → List ℕ
  printed_tree (Number z) = signed_decimal z
  printed_tree (Name w) = w
  printed_tree (Quote s) = quoted s
  printed_tree (Branch ts) = 40 ∷ (printed_trees ts ++ 41 ∷ [])

  pub printed_trees : Trees → List ℕ
  printed_trees Nil = []
  printed_trees (Cons t ts) = printed_tree t ++ printed_more ts

  pub printed_more : Trees → List ℕ
  printed_more Nil = []
  printed_more (Cons t ts) = 32 ∷ (printed_tree t ++ printed_more ts)

mutual
  node_by_tree : (n : Node) → printed_node n ≡ printed_tree (tree_of_node n)
  node_by_tree (Num z) = refl
  node_by_tree (Word w) = refl
  node_by_tree (Str s) = refl
  node_by_tree (List' shape row close) = ap (λ xs. 40 ∷ (xs ++ 41 ∷ [])) (row_by_tree row)

  row_by_tree : {n : Count} (row : Row_of-Sexp n) → printed_row row ≡ printed_trees (trees_of_row row)
  row_by_tree end_of-Sexp = refl
  row_by_tree (more_of-Sexp at node rest) = λ i. node_by_tree node i ++ others_by_tree rest i

  others_by_tree : {n : Count} (row : Row_of-Sexp n) → printed_others row ≡ printed_more (trees_of_row row)
  others_by_tree end_of-Sexp = refl
  others_by_tree (more_of-Sexp at node rest) = λ i. 32 ∷ (node_by_tree node i ++ others_by_tree rest i)

-- values that differ in their places alone are printed alike
pub printed_alike : (s t : Sexp) → tree_of s ≡ tree_of t → printed s ≡ printed t
unfolding printed tree_of
printed_alike s t e = node_by_tree s.node ∙ ap printed_tree e ∙ sym (node_by_tree t.node)

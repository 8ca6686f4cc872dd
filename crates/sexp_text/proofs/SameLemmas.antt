-- Values with the same items are the same.
use Rattle.std.proofs.Common.{◌≡◌, ℕ, List, [], ◌∷◌, ◌++◌, refl, sym, ap, ◌∙◌, append_assoc}
use Rattle.std.proofs.lemmas.List.{append-nil}
use Rattle.sexp_text.specs.declared.sexp.Node.{Node, Num, Word, Str, List', Row_of-Sexp, end_of-Sexp, more_of-Sexp, items-the_row-Sexp}
use Rattle.sexp_text.specs.declared.sexp.Node.TheBlock.{items_shown-the_row-Sexp-0, backs-Node}
use Rattle.sexp_text.specs.declared.sexp.Node.TheVariants as node
use Rattle.sexp_text.specs.declared.sexp.Sexp.{Sexp}
use Rattle.sexp_text.specs.Items.{Item, Close, node_items, row_items, items_of}

-- a list is the list of its parts
list_of_row : (shape : _) (row : Row_of-Sexp _) (close : ℕ) → node.List (items-the_row-Sexp _ row) close ≡ List' shape row close
list_of_row shape row close = ap (λ xs. node.List xs close) (sym (items_shown-the_row-Sexp-0 shape row)) ∙ backs-Node (List' shape row close)

first_is_no_end : (at close : ℕ) (node : Node) (xs ys : List Item) → Close close ∷ ys ≡ node_items at node ++ xs → ⊥
first_is_no_end at close (Num z) xs ys e = cc
first_is_no_end at close (Word w) xs ys e = cc
first_is_no_end at close (Str s) xs ys e = cc
first_is_no_end at close (List' shape row end) xs ys e = cc

cons_same : (at from : ℕ) (n m : Node) (xs ys : List Sexp) → at ≡ from → n ≡ m → xs ≡ ys →
    ◌≡◌ {A = List Sexp} (record { at = at; node = n } ∷ xs) (record { at = from; node = m } ∷ ys)
cons_same at from n m xs ys e f g = λ i. record { at = e i; node = f i } ∷ g i

-- where the items of two parts, and more, are the same, so are the parts and what follows them
mutual
  pub node_same : (at from : ℕ) (n m : Node) (xs ys : List Item) → node_items at n ++ xs ≡ node_items from m ++ ys →
      (at ≡ from) × (n ≡ m) × (xs ≡ ys)
  node_same at from (Num z) (Num w) xs ys e = (cc, cc, cc)
  node_same at from (Num z) (Word w) xs ys e = cc
  node_same at from (Num z) (Str w) xs ys e = cc
  node_same at from (Num z) (List' shape row close) xs ys e = cc
  node_same at from (Word z) (Num w) xs ys e = cc
  node_same at from (Word z) (Word w) xs ys e = (cc, cc, cc)
  node_same at from (Word z) (Str w) xs ys e = cc
  node_same at from (Word z) (List' shape row close) xs ys e = cc
  node_same at from (Str z) (Num w) xs ys e = cc
  node_same at from (Str z) (Word w) xs ys e = cc
  node_same at from (Str z) (Str w) xs ys e = (cc, cc, cc)
  node_same at from (Str z) (List' shape row close) xs ys e = cc
  node_same at from (List' shape row close) (Num w) xs ys e = cc
  node_same at from (List' shape row close) (Word w) xs ys e = cc
  node_same at from (List' shape row close) (Str w) xs ys e = cc
  node_same at from (List' shape row close) (List' shape' row' close') xs ys e =
      let here : at ≡ from = cc in
      let after : (row_items row ++ Close close ∷ []) ++ xs ≡ (row_items row' ++ Close close' ∷ []) ++ ys = cc in
      let inside : row_items row ++ Close close ∷ xs ≡ row_items row' ++ Close close' ∷ ys =
      sym (append_assoc (row_items row) (Close close ∷ []) xs) ∙ after ∙ append_assoc (row_items row') (Close close' ∷ []) ys in
      let parts = row_same row row' close close' xs ys inside in (
        here,
        sym (list_of_row shape row close) ∙ (λ i. node.List (parts.0 i) (parts.1 i)) ∙ list_of_row shape' row' close',
        parts.2,
      )

  pub row_same : {k : _} {l : _} (row : Row_of-Sexp k) (row' : Row_of-Sexp l) (c d : ℕ) (xs ys : List Item) → row_items row ++ Close c ∷ xs ≡ row_items row' ++ Close d ∷ ys →
      (items-the_row-Sexp k row ≡ items-the_row-Sexp l row') × (c ≡ d) × (xs ≡ ys)
  row_same end_of-Sexp end_of-Sexp c d xs ys e = (refl, cc, cc)
  row_same end_of-Sexp (more_of-Sexp at node rest) c d xs ys e =
      absurd (first_is_no_end at c node (row_items rest ++ Close d ∷ ys) xs (e ∙ append_assoc (node_items at node) (row_items rest) (Close d ∷ ys)))
  row_same (more_of-Sexp at node rest) end_of-Sexp c d xs ys e =
      absurd (first_is_no_end at d node (row_items rest ++ Close c ∷ xs) ys (sym e ∙ append_assoc (node_items at node) (row_items rest) (Close c ∷ xs)))
  row_same (more_of-Sexp at node rest) (more_of-Sexp from other more) c d xs ys e =
      let whole : node_items at node ++ (row_items rest ++ Close c ∷ xs) ≡ node_items from other ++ (row_items more ++ Close d ∷ ys) =
      sym (append_assoc (node_items at node) (row_items rest) (Close c ∷ xs)) ∙ e ∙ append_assoc (node_items from other) (row_items more) (Close d ∷ ys) in
      let first = node_same at from node other (row_items rest ++ Close c ∷ xs) (row_items more ++ Close d ∷ ys) whole in
      let others = row_same rest more c d xs ys first.2 in
      (cons_same at from node other _ _ first.0 first.1 others.0, others.1, others.2)

pub items_of-same : (s t : Sexp) → items_of s ≡ items_of t → s ≡ t
unfolding items_of
items_of-same s t e =
    let parts = node_same s.at t.at s.node t.node [] [] (append-nil (node_items s.at s.node) ∙ e ∙ sym (append-nil (node_items t.at t.node))) in
    λ i. record { at = parts.0 i; node = parts.1 i }

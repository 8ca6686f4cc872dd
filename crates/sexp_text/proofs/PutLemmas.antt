-- Items put one after another on what was read, and how deep the lists are.
use Rattle.std.proofs.Common.{◌≡◌, ℕ, suc, ◌+◌, ◌<◌, ◌≤◌, Bool, true, false, cond, ltb, List, [], ◌∷◌, ◌++◌, Result, Ok, Err, refl, sym, ap, ◌∙◌, subst, append_assoc, arith}
use Rattle.std.proofs.lemmas.Bool.{lt-ltb, ltb-true}
use Rattle.std.proofs.lemmas.List.{append-nil}
use Rattle.sexp_text.specs.declared.fault.TextFault.{TextFault}
use Rattle.sexp_text.specs.declared.fault.TextFault.TheVariants.{Limit}
use Rattle.sexp_text.specs.declared.fault.TextWord.TheVariants as word
use Rattle.wasm_values.specs.declared.limit.LimitWord.TheVariants.{Nesting}
use Rattle.sexp_text.specs.declared.sexp.Node.{Node, Num, Word, Str, List', Row_of-Sexp, end_of-Sexp, more_of-Sexp}
use Rattle.sexp_text.specs.declared.sexp.Sexp.{Sexp}
use Rattle.sexp_text.specs.Items.{Item, Open, Close, Number, Name, Quote, node_items, row_items, items_of}
use Rattle.sexp_text.specs.Reading.{◌>>=◌, refused, Front, Before, Inside, After, opened, closed}
use Rattle.sexp_text.specs.Spelling.{depth_of_node, depth_of_row, IsList}

-- a number, a word or a string, which stands only in a list
abbrev pub put_part : Item → Front → Result Front TextFault
put_part x Before = refused 0 word.Byte
put_part x (Inside items k) = Ok (Inside (items ++ x ∷ []) k)
put_part x (After items) = refused 0 word.Rest

-- one more item
abbrev pub put : Item → Front → Result Front TextFault
put (Open at) front = opened at front
put (Close at) front = closed at front
put (Number at z) front = put_part (Number at z) front
put (Name at w) front = put_part (Name at w) front
put (Quote at s) front = put_part (Quote at s) front

abbrev pub puts : List Item → Front → Result Front TextFault
puts [] front = Ok front
puts (x ∷ xs) front = put x front >>= puts xs

pub puts-append : (xs ys : List Item) (front : Front) → puts (xs ++ ys) front ≡ (puts xs front >>= puts ys)
puts-append [] ys front = refl
puts-append (x ∷ xs) ys front =
    elim (put x front) as (λ r. (r >>= puts (xs ++ ys)) ≡ ((r >>= puts xs) >>= puts ys)) [ Ok g ↦ puts-append xs ys g | Err e ↦ refl ]

open_more : (at k : ℕ) (items : List Item) → k + 1 < 500 → opened at (Inside items k) ≡ Ok (Inside (items ++ Open at ∷ []) (suc k))
unfolding opened
open_more at k items h = let e : k + 1 ≡ suc k = omega arith in rw (lt-ltb (k + 1) 500 h, e) refl

close_one : (at k : ℕ) (items : List Item) → closed at (Inside items (suc k)) ≡ Ok (Inside (items ++ Close at ∷ []) k)
unfolding closed
close_one at k items = refl

regroup : (items row : List Item) (at close : ℕ) → ((items ++ Open at ∷ []) ++ row) ++ Close close ∷ [] ≡ items ++ Open at ∷ (row ++ Close close ∷ [])
regroup items row at close = append_assoc (items ++ Open at ∷ []) row (Close close ∷ []) ∙ append_assoc items (Open at ∷ []) (row ++ Close close ∷ [])

-- what a part inside a list does, if it is not too deep
mutual
  pub node_puts : (at : ℕ) (node : Node) (items : List Item) (k : ℕ) → depth_of_node node + k < 500 →
      puts (node_items at node) (Inside items k) ≡ Ok (Inside (items ++ node_items at node) k)
  node_puts at (Num z) items k h = refl
  node_puts at (Word w) items k h = refl
  node_puts at (Str s) items k h = refl
  node_puts at (List' shape parts close) items k h =
      let room : k + 1 < 500 = omega arith in
      let inner : depth_of_row parts + suc k < 500 = omega arith in
      ap (λ r. r >>= puts (row_items parts ++ Close close ∷ [])) (open_more at k items room) ∙
      (puts-append (row_items parts) (Close close ∷ []) (Inside (items ++ Open at ∷ []) (suc k)) ∙
      ap (λ r. r >>= puts (Close close ∷ [])) (row_puts parts (items ++ Open at ∷ []) (suc k) inner) ∙
      ap (λ r. r >>= puts []) (close_one close k ((items ++ Open at ∷ []) ++ row_items parts)) ∙
      ap (λ xs. Ok (Inside xs k)) (regroup items (row_items parts) at close))

  pub row_puts : {n : _} (row : Row_of-Sexp n) (items : List Item) (k : ℕ) → depth_of_row row + k < 500 →
      puts (row_items row) (Inside items k) ≡ Ok (Inside (items ++ row_items row) k)
  row_puts end_of-Sexp items k h = ap (λ xs. Ok (Inside xs k)) (sym (append-nil items))
  row_puts (more_of-Sexp at node rest) items k h =
      let first : depth_of_node node + k < 500 = omega arith in
      let others : depth_of_row rest + k < 500 = omega arith in
      puts-append (node_items at node) (row_items rest) (Inside items k) ∙
      ap (λ r. r >>= puts (row_items rest)) (node_puts at node items k first) ∙
      row_puts rest (items ++ node_items at node) k others ∙
      ap (λ xs. Ok (Inside xs k)) (append_assoc items (node_items at node) (row_items rest))

-- the value of a result that is bound to another
pub bound : {A B : Type 0} (r : Result A TextFault) (f : A → Result B TextFault) (y : B) → (r >>= f) ≡ Ok y → (x : A) × (r ≡ Ok x) × (f x ≡ Ok y)
bound (Ok x) f y e = (x, refl, e)
bound (Err d) f y e = cc

pub opened_room : (at k : ℕ) (items : List Item) (g : Front) → opened at (Inside items k) ≡ Ok g → (k + 1 < 500) × (g ≡ Inside (items ++ Open at ∷ []) (suc k))
unfolding opened
opened_room at k items g e = by_room (ltb (k + 1) 500) refl e
  where
    by_room : (v : Bool) → ltb (k + 1) 500 ≡ v → cond v (Ok (Inside (items ++ Open at ∷ []) (k + 1))) (Err (Limit at Nesting)) ≡ Ok g → (k + 1 < 500) × (g ≡ Inside (items ++ Open at ∷ []) (suc k))
    by_room true h e =
        let n : k + 1 ≡ suc k = omega arith in
        let same : g ≡ Inside (items ++ Open at ∷ []) (k + 1) = cc in
        (ltb-true (k + 1) 500 h, same ∙ ap (λ m. Inside (items ++ Open at ∷ []) m) n)
    by_room false h e = cc

-- what parts inside a list did, and that they were not too deep
mutual
  pub node_fits : (at : ℕ) (node : Node) (rest items : List Item) (k : ℕ) (g : Front) → k < 500 →
      puts (node_items at node ++ rest) (Inside items k) ≡ Ok g →
      (depth_of_node node + k < 500) × (puts rest (Inside (items ++ node_items at node) k) ≡ Ok g)
  node_fits at (Num z) rest items k g h e = (omega arith, e)
  node_fits at (Word w) rest items k g h e = (omega arith, e)
  node_fits at (Str s) rest items k g h e = (omega arith, e)
  node_fits at (List' shape parts close) rest items k g h e =
      let first = bound (opened at (Inside items k)) (puts ((row_items parts ++ Close close ∷ []) ++ rest)) g e in
      let room = opened_room at k items first.0 first.1 in
      let inner : suc k < 500 = omega (arith, room.0) in
      let e1 : puts ((row_items parts ++ Close close ∷ []) ++ rest) (Inside (items ++ Open at ∷ []) (suc k)) ≡ Ok g =
      subst (λ f. puts ((row_items parts ++ Close close ∷ []) ++ rest) f ≡ Ok g) room.1 first.2 in
      let e2 : puts (row_items parts ++ Close close ∷ rest) (Inside (items ++ Open at ∷ []) (suc k)) ≡ Ok g =
      subst (λ xs. puts xs (Inside (items ++ Open at ∷ []) (suc k)) ≡ Ok g) (append_assoc (row_items parts) (Close close ∷ []) rest) e1 in
      let row = row_fits parts (Close close ∷ rest) (items ++ Open at ∷ []) (suc k) g inner e2 in
      let e3 : (closed close (Inside ((items ++ Open at ∷ []) ++ row_items parts) (suc k)) >>= puts rest) ≡ Ok g = row.1 in
      let e4 : puts rest (Inside (((items ++ Open at ∷ []) ++ row_items parts) ++ Close close ∷ []) k) ≡ Ok g =
      subst (λ r. (r >>= puts rest) ≡ Ok g) (close_one close k ((items ++ Open at ∷ []) ++ row_items parts)) e3 in
      (omega (arith, row.0), subst (λ xs. puts rest (Inside xs k) ≡ Ok g) (regroup items (row_items parts) at close) e4)

  pub row_fits : {n : _} (row : Row_of-Sexp n) (rest items : List Item) (k : ℕ) (g : Front) → k < 500 →
      puts (row_items row ++ rest) (Inside items k) ≡ Ok g →
      (depth_of_row row + k < 500) × (puts rest (Inside (items ++ row_items row) k) ≡ Ok g)
  row_fits end_of-Sexp rest items k g h e =
      (omega arith, subst (λ xs. puts rest (Inside xs k) ≡ Ok g) (sym (append-nil items)) e)
  row_fits (more_of-Sexp at node others) rest items k g h e =
      let e1 : puts (node_items at node ++ (row_items others ++ rest)) (Inside items k) ≡ Ok g =
      subst (λ xs. puts xs (Inside items k) ≡ Ok g) (append_assoc (node_items at node) (row_items others) rest) e in
      let first = node_fits at node (row_items others ++ rest) items k g h e1 in
      let more = row_fits others rest (items ++ node_items at node) k g h first.1 in
      (omega (arith, first.0, more.0), subst (λ xs. puts rest (Inside xs k) ≡ Ok g) (append_assoc items (node_items at node) (row_items others)) more.1)

closed_after : (close : ℕ) (items : List Item) → closed close (Inside items 0) ≡ Ok (After (items ++ Close close ∷ []))
unfolding closed
closed_after close items = refl

opened_first : (at : ℕ) → opened at Before ≡ Ok (Inside (Open at ∷ []) 0)
unfolding opened
opened_first at = refl

-- a list that is not too deep is a whole value
pub whole_puts : (s : Sexp) → IsList s.node → depth_of_node s.node ≤ 500 → puts (items_of s) Before ≡ Ok (After (items_of s))
unfolding items_of
whole_puts s l h = by_node s.at s.node l h
  where
    by_node : (at : ℕ) (node : Node) → IsList node → depth_of_node node ≤ 500 → puts (node_items at node) Before ≡ Ok (After (node_items at node))
    by_node at (Num z) l h = absurd l
    by_node at (Word w) l h = absurd l
    by_node at (Str x) l h = absurd l
    by_node at (List' shape parts close) l h =
        let inner : depth_of_row parts + 0 < 500 = omega arith in
        ap (λ r. r >>= puts (row_items parts ++ Close close ∷ [])) (opened_first at) ∙
        puts-append (row_items parts) (Close close ∷ []) (Inside (Open at ∷ []) 0) ∙
        ap (λ r. r >>= puts (Close close ∷ [])) (row_puts parts (Open at ∷ []) 0 inner) ∙
        ap (λ r. r >>= puts []) (closed_after close ((Open at ∷ []) ++ row_items parts))

-- a whole value is a list that is not too deep
pub whole_fits : (s : Sexp) (g : Front) → puts (items_of s) Before ≡ Ok g → IsList s.node × (depth_of_node s.node ≤ 500)
unfolding items_of
whole_fits s g e = by_node s.at s.node e
  where
    by_node : (at : ℕ) (node : Node) → puts (node_items at node) Before ≡ Ok g → IsList node × (depth_of_node node ≤ 500)
    by_node at (Num z) e = cc
    by_node at (Word w) e = cc
    by_node at (Str x) e = cc
    by_node at (List' shape parts close) e =
        let e1 : (opened at Before >>= puts (row_items parts ++ Close close ∷ [])) ≡ Ok g = e in
        let e2 : puts (row_items parts ++ Close close ∷ []) (Inside (Open at ∷ []) 0) ≡ Ok g =
        subst (λ r. (r >>= puts (row_items parts ++ Close close ∷ [])) ≡ Ok g) (opened_first at) e1 in
        let row = row_fits parts (Close close ∷ []) (Open at ∷ []) 0 g (omega arith) e2 in
        (tt, omega (arith, row.0))

-- What notes a text spells, and the text that they are printed as.
use Rattle.std.proofs.Common.{◌≡◌, ◌⊎◌, inl, inr, ℕ, ℤ, pos, ◌+◌, ◌-◌, ◌*◌, ◌≤◌, true, false, eqb, List, [], ◌∷◌, ◌++◌, length, Result, Ok, Err, refl, sym, ap, ◌∙◌, subst, length-append, arith}
use Rattle.std.proofs.lemmas.Bool.Decides.{nat_tests}
use Rattle.std.specs.Prelude.{codes, map}
use Rattle.sexp_text.specs.declared.fault.TextFault.{TextFault}
use Rattle.sexp_text.specs.declared.sexp.Node.{Node, Num, Word, Str, List', Row_of-Sexp, end_of-Sexp, more_of-Sexp}
use Rattle.sexp_text.specs.declared.sexp.Sexp.{Sexp}
use Rattle.sexp_text.specs.Bytes.{is_between, is_name_byte, is_run}
use Rattle.sexp_text.specs.Items.{Item, Open, items_of}
use Rattle.sexp_text.specs.Items as item
use Rattle.sexp_text.specs.Faults.{IsText}
use Rattle.sexp_text.specs.Reading.{read}
use Rattle.sexp_text.specs.Spelling.{value_after, WritesPositive, WritesNumber, IsWord, Marks, EndsRun, Spelled, depth_of_row, SexpSpells}
use Rattle.sexp_text.specs.Printing.{printed_node, printed_row, printed_others, printed, tree_of, tree_of_node, trees_of_row}
use Rattle.sexp_text.specs.Printing as tree
use Rattle.sexp_text.proofs.AgainLemmas.{printed_again}
use Rattle.sexp_text.proofs.CompleteLemmas.{read-spelled}
use Rattle.sexp_text.proofs.TextLaws.{one_value}
use Rattle.sexp_text.proofs.WordLemmas.{value_or_fault}
use Rattle.notes.specs.declared.outline.Notes.{Notes}
use Rattle.notes_grammar.specs.Parts.{Part, Number, Name, Branch, Cons, part_at, parts_in, part_of}
use Rattle.notes_grammar.specs.Parts as part
use Rattle.notes_grammar.specs.Shapes.{Shape, listed, where_so, rest_of, first_notes, second_notes}
use Rattle.notes_grammar.specs.Shapes as shape
use Rattle.notes_grammar.specs.Printed.{printed_tree, printed_trees, printed_more, notes_text}
use Rattle.notes_grammar.specs.Reading.{notes_in}
use Rattle.notes_grammar.specs.Spelling.{HasShape, NotesSpell, NotesFault}
use Rattle.notes_grammar.proofs.Exactness.{Fits, FitAll, listed_fits, so_fits, fits_so}
use Rattle.notes_grammar.proofs.StepLaws.{parts_fit}
use Rattle.notes_grammar.proofs.OutlineLaws.{notes_sound, notes_whole, no_items}
use Rattle.notes_grammar.proofs.WideLaws.{all_wide, rest_wide, Bare}

-- a text's value and its part have one tree

mutual
  node_tree : (at : ℕ) (n : Node) → part.tree_of (part_at at n) ≡ tree_of_node n
  node_tree at (Num z) = refl
  node_tree at (Word w) = refl
  node_tree at (Str s) = refl
  node_tree at (List' shape row close) = ap tree.Branch (row_tree row)

  row_tree : {k : _} (row : Row_of-Sexp k) → part.trees_of (parts_in row) ≡ trees_of_row row
  row_tree end_of-Sexp = refl
  row_tree (more_of-Sexp at node rest) = λ i. tree.Cons (node_tree at node i) (row_tree rest i)

pub part_tree : (s : Sexp) → part.tree_of (part_of s) ≡ tree_of s
unfolding part_of tree_of
part_tree s = node_tree s.at s.node

has_fits : (s : Sexp) (x : Shape) → HasShape s x → Fits x (part_of s)
has_fits s x h = (part_tree s ∙ h.0, h.1)

fits_has : (s : Sexp) (x : Shape) → Fits x (part_of s) → HasShape s x
fits_has s x f = (sym (part_tree s) ∙ f.0, f.1)

-- spelled and read

abbrev Reads : List ℕ → Notes → Type 0
Reads text n = (s : Sexp) × SexpSpells text s × (notes_in (part_of s) ≡ Ok n)

pub spelled_reads : (text : List ℕ) (n : Notes) → NotesSpell text n → Reads text n
unfolding NotesSpell
spelled_reads text n h = (h.0, h.1, notes_whole (part_of h.0) n (by_version h.2))
  where
    by_version : HasShape h.0 (first_notes n) ⊎ HasShape h.0 (second_notes n) → Fits (first_notes n) (part_of h.0) ⊎ Fits (second_notes n) (part_of h.0)
    by_version (inl f) = inl (has_fits h.0 (first_notes n) f)
    by_version (inr f) = inr (has_fits h.0 (second_notes n) f)

pub reads_spelled : (text : List ℕ) (n : Notes) (s : Sexp) → SexpSpells text s → notes_in (part_of s) ≡ Ok n → NotesSpell text n
unfolding NotesSpell
reads_spelled text n s h e = (s, h, by_version (notes_sound (part_of s) n e))
  where
    by_version : Fits (first_notes n) (part_of s) ⊎ Fits (second_notes n) (part_of s) → HasShape s (first_notes n) ⊎ HasShape s (second_notes n)
    by_version (inl f) = inl (fits_has s (first_notes n) f)
    by_version (inr f) = inr (fits_has s (second_notes n) f)

ok_same : {A : Type 0} (x y : A) → ◌≡◌ {A = Result A TextFault} (Ok x) (Ok y) → x ≡ y
ok_same x y e = cc

err_same : {A : Type 0} (x y : TextFault) → ◌≡◌ {A = Result A TextFault} (Err x) (Err y) → x ≡ y
err_same x y e = cc

-- one text's value is read the same
read_same : (text : List ℕ) (s t : Sexp) → SexpSpells text s → SexpSpells text t → notes_in (part_of s) ≡ notes_in (part_of t)
read_same text s t h k = ap (λ u. notes_in (part_of u)) (one_value text s t h k)

pub one_notes : (text : List ℕ) (n m : Notes) → NotesSpell text n → NotesSpell text m → n ≡ m
one_notes text n m h k =
    let a = spelled_reads text n h in
    let b = spelled_reads text m k in
    ok_same n m (sym a.2 ∙ read_same text a.0 b.0 a.1 b.1 ∙ b.2)

pub no_both : (text : List ℕ) (n : Notes) (fault : TextFault) → NotesSpell text n → NotesFault text fault → ⊥
unfolding NotesFault
no_both text n fault h (inl e) = let a = spelled_reads text n h in let r = read-spelled text a.0 a.1 in cc
no_both text n fault h (inr k) =
    let a = spelled_reads text n h in
    let e = sym a.2 ∙ read_same text a.0 k.0 a.1 k.1 ∙ k.2 in
    cc

pub one_fault : (text : List ℕ) (d e : TextFault) → NotesFault text d → NotesFault text e → d ≡ e
unfolding NotesFault
one_fault text d e (inl h) (inl k) = err_same d e (sym h ∙ k)
one_fault text d e (inl h) (inr k) = let r = read-spelled text k.0 k.1 in cc
one_fault text d e (inr h) (inl k) = let r = read-spelled text h.0 h.1 in cc
one_fault text d e (inr h) (inr k) = err_same d e (sym h.2 ∙ read_same text h.0 k.0 h.1 k.1 ∙ k.2)

abbrev pub NotesOrFault : List ℕ → Type 0
NotesOrFault text = ((n : Notes) × NotesSpell text n) ⊎ ((fault : TextFault) × NotesFault text fault)

pub notes_or_fault : (text : List ℕ) → NotesOrFault text
unfolding NotesFault
notes_or_fault text = by_value (value_or_fault text)
  where
    by_read : (s : Sexp) → SexpSpells text s → (r : Result Notes TextFault) → notes_in (part_of s) ≡ r → NotesOrFault text
    by_read s h (Ok n) e = inl (n, reads_spelled text n s h e)
    by_read s h (Err d) e = inr (d, inr (s, h, e))

    by_value : IsText text ⊎ ((fault : TextFault) × (read text ≡ Err fault) × (IsText text → ⊥) × ((other : TextFault) → read text ≡ Err other → other ≡ fault)) → NotesOrFault text
    by_value (inl h) = by_read h.0 h.1 (notes_in (part_of h.0)) refl
    by_value (inr h) = inr (h.0, inl h.1)

-- printed

mutual
  node_by_tree : (n : Node) → printed_node n ≡ printed_tree (tree_of_node n)
  node_by_tree (Num z) = refl
  node_by_tree (Word w) = refl
  node_by_tree (Str s) = refl
  node_by_tree (List' shape row close) = ap (λ xs. 40 ∷ (xs ++ 41 ∷ [])) (row_by_tree row)

  row_by_tree : {k : _} (row : Row_of-Sexp k) → printed_row row ≡ printed_trees (trees_of_row row)
  row_by_tree end_of-Sexp = refl
  row_by_tree (more_of-Sexp at node rest) = λ i. node_by_tree node i ++ others_by_tree rest i

  others_by_tree : {k : _} (row : Row_of-Sexp k) → printed_others row ≡ printed_more (trees_of_row row)
  others_by_tree end_of-Sexp = refl
  others_by_tree (more_of-Sexp at node rest) = λ i. 32 ∷ (node_by_tree node i ++ others_by_tree rest i)

by_tree : (s : Sexp) → printed s ≡ printed_tree (tree_of s)
unfolding printed tree_of
by_tree s = node_by_tree s.node

second_again : (text : List ℕ) (s : Sexp) (n : Notes) → SexpSpells text s → HasShape s (second_notes n) → NotesSpell (notes_text n) n
unfolding NotesSpell notes_text
second_again text s n h x =
    let a = printed_again text s h in
    let same : printed s ≡ printed_tree (second_notes n).tree = by_tree s ∙ ap printed_tree x.0 in
    (a.0, subst (λ bs. SexpSpells bs a.0) same a.1, inr (a.2 ∙ x.0, x.1))

-- a text of version 1 with the other version's number

value_after-le : (n : ℕ) (bs : List ℕ) → n ≤ value_after n bs
value_after-le n [] = omega arith
value_after-le n (b ∷ bs) = let e = value_after-le (10 * n + (b - 48)) bs in omega arith

one_digit : (mark : List ℕ) → WritesPositive mark 1 → mark ≡ 49 ∷ []
one_digit [] h = absurd h
one_digit (b ∷ []) h =
    let low : 49 ≤ b = first_low b h.0 in
    let v = h.2 in
    let is : b ≡ 49 = omega arith in
    ap (λ c. c ∷ []) is
  where
    first_low : (b : ℕ) → is_between 49 57 b ≡ true → 49 ≤ b
    first_low b h = grind (arith, nat_tests)
one_digit (b ∷ c ∷ bs) h =
    let low : 49 ≤ b = first_low b h.0 in
    let e = value_after-le (10 * (b - 48) + (c - 48)) bs in
    let v = h.2 in
    absurd (omega arith)
  where
    first_low : (b : ℕ) → is_between 49 57 b ≡ true → 49 ≤ b
    first_low b h = grind (arith, nat_tests)

one_runs : is_run 49 ≡ true
unfolding is_run is_name_byte
one_runs = refl

-- spelled so, with another text of the same length
record Spells (n : ℕ) (text : List ℕ) (xs : List Item) : Type 0 where
  other : List ℕ
  long : length other ≡ length text
  apart : EndsRun text → EndsRun other
  spelled : Spelled n other xs

two_writes : WritesNumber (50 ∷ []) (pos 2)
two_writes = ((refl, tt, refl), omega arith)

renumber : (n at : ℕ) (text : List ℕ) (xs : List Item) → Spelled n text (item.Number at (pos 1) ∷ xs) → Spells n text (item.Number at (pos 2) ∷ xs)
renumber n at text xs s =
    let one : s.1 ≡ 49 ∷ [] = one_digit s.1 s.5.0 in
    let whole : text ≡ s.0 ++ (49 ∷ s.2) = s.3 ∙ ap (λ m. s.0 ++ (m ++ s.2)) one in
    let stands : at + length (49 ∷ s.2) ≡ n = subst (λ m. at + length (m ++ s.2) ≡ n) one s.6 in record {
      other = s.0 ++ (50 ∷ s.2);
      long = length-append s.0 (50 ∷ s.2) ∙ sym (length-append s.0 (49 ∷ s.2)) ∙ ap length (sym whole);
      apart = λ e. ends s.0 (subst EndsRun whole e);
      spelled = (s.0, 50 ∷ [], s.2, refl, s.4, two_writes, stands, s.7, s.8);
    }
  where
    ends : (gap : List ℕ) → EndsRun (gap ++ 49 ∷ s.2) → EndsRun (gap ++ 50 ∷ s.2)
    ends [] e = let r = one_runs in cc
    ends (b ∷ gap) e = e

keep_name : (n at : ℕ) (w text : List ℕ) (xs ys : List Item) → ((rest : List ℕ) → Spelled n rest xs → Spells n rest ys) →
    Spelled n text (item.Name at w ∷ xs) → Spells n text (item.Name at w ∷ ys)
keep_name n at w text xs ys more s =
    let r = more s.2 s.8 in
    let grown : length (s.1 ++ r.other) ≡ length (s.1 ++ s.2) = length-append s.1 r.other ∙ ap (λ k. length s.1 + k) r.long ∙ sym (length-append s.1 s.2) in record {
      other = s.0 ++ (s.1 ++ r.other);
      long = length-append s.0 (s.1 ++ r.other) ∙ ap (λ k. length s.0 + k) grown ∙ sym (length-append s.0 (s.1 ++ s.2)) ∙ ap length (sym s.3);
      apart = λ e. ends s.0 s.1 s.5 (subst EndsRun s.3 e);
      spelled = (s.0, s.1, r.other, refl, s.4, s.5, ap (λ k. at + k) grown ∙ s.6, r.apart s.7, r.spelled);
    }
  where
    ends : (gap mark : List ℕ) → Marks (item.Name at w) mark → EndsRun (gap ++ (mark ++ s.2)) → EndsRun (gap ++ (mark ++ (more s.2 s.8).other))
    ends [] [] m e = absurd (no_word m)
      where
        no_word : Marks (item.Name at w) [] → ⊥
        no_word m = subst (λ v. IsWord v) (sym m.0) m.1
    ends [] (b ∷ mark) m e = e
    ends (b ∷ gap) mark m e = e

keep_open : (n at : ℕ) (text : List ℕ) (xs ys : List Item) → ((rest : List ℕ) → Spelled n rest xs → Spells n rest ys) →
    Spelled n text (Open at ∷ xs) → (other : List ℕ) × (length other ≡ length text) × Spelled n other (Open at ∷ ys)
keep_open n at text xs ys more s =
    let r = more s.2 s.8 in
    let grown : length (s.1 ++ r.other) ≡ length (s.1 ++ s.2) = length-append s.1 r.other ∙ ap (λ k. length s.1 + k) r.long ∙ sym (length-append s.1 s.2) in (
      s.0 ++ (s.1 ++ r.other),
      length-append s.0 (s.1 ++ r.other) ∙ ap (λ k. length s.0 + k) grown ∙ sym (length-append s.0 (s.1 ++ s.2)) ∙ ap length (sym s.3),
      (s.0, s.1, r.other, refl, s.4, s.5, ap (λ k. at + k) grown ∙ s.6, tt, r.spelled),
    )

-- such a text for the value with the other number
abbrev Renumbered : Notes → Type 0
Renumbered n = (text : List ℕ) × (s : Sexp) × SexpSpells text s × Fits (second_notes n) (part_of s)

name_same : (v w : List ℕ) → tree.Name v ≡ tree.Name w → v ≡ w
name_same v w e = cc

number_same : (y z : ℤ) → tree.Number y ≡ tree.Number z → y ≡ z
number_same y z e = cc

first_rest : (n : Notes) (p : Part) → Fits (first_notes n) p → (n.lemmas ≡ []) × Fits (listed (shape.word (codes "notes") ∷ shape.small 1 ∷ rest_of (Bare false) n)) p
unfolding first_notes
first_rest n p f =
    let t = fits_so (eqb (length n.lemmas) 0) (listed (shape.word (codes "notes") ∷ shape.small 1 ∷ rest_of (Bare false) n)) p f in
    (no_items n.lemmas t.0, t.1)

second_fits : (n : Notes) (p : Part) → n.lemmas ≡ [] → Fits (listed (shape.word (codes "notes") ∷ shape.small 2 ∷ rest_of (Bare true) n)) p → Fits (second_notes n) p
unfolding second_notes
second_fits n p e f =
    subst (λ ls. Fits (where_so (shape.are_new [] (shape.names_of ls))
    (listed (shape.word (codes "notes") ∷ shape.small 2 ∷ (map shape.lemma ls ++ rest_of (record { later = true; names = shape.names_of ls }) n)))) p) (sym e)
    (so_fits true (listed (shape.word (codes "notes") ∷ shape.small 2 ∷ rest_of (Bare true) n)) p refl f)

abbrev Head : Notes → List Shape
Head n = shape.word (codes "notes") ∷ shape.small 1 ∷ rest_of (Bare false) n

abbrev SecondHead : Notes → List Shape
SecondHead n = shape.word (codes "notes") ∷ shape.small 2 ∷ rest_of (Bare true) n

-- a row with the other number
abbrev twice : {k : _} → Row_of-Sexp k → Row_of-Sexp k
twice (more_of-Sexp a x (more_of-Sexp b (Num z) row)) = more_of-Sexp a x (more_of-Sexp b (Num (pos 2)) row)
twice row = row

abbrev TwiceRow : Notes → {k : _} → Row_of-Sexp k → Type 0
TwiceRow n row =
    (a b : ℕ) × (w : List ℕ) × (xs : List Item) × (item.row_items row ≡ item.Name a w ∷ item.Number b (pos 1) ∷ xs) ×
    (item.row_items (twice row) ≡ item.Name a w ∷ item.Number b (pos 2) ∷ xs) × (depth_of_row (twice row) ≡ depth_of_row row) × FitAll (SecondHead n) (parts_in (twice row))

by_row : (n : Notes) {k : _} (row : Row_of-Sexp k) → FitAll (Head n) (parts_in row) → TwiceRow n row
by_row n end_of-Sexp f = absurd f
by_row n (more_of-Sexp a x end_of-Sexp) f = absurd f.1
by_row n (more_of-Sexp a (Num z) (more_of-Sexp b y row)) f = let g = f.0.0 in let none : ⊥ = cc in absurd none
by_row n (more_of-Sexp a (Str z) (more_of-Sexp b y row)) f = let g = f.0.0 in let none : ⊥ = cc in absurd none
by_row n (more_of-Sexp a (List' k z c) (more_of-Sexp b y row)) f = let g = f.0.0 in let none : ⊥ = cc in absurd none
by_row n (more_of-Sexp a (Word w) (more_of-Sexp b (Word z) row)) f = let g = f.1.0.0 in let none : ⊥ = cc in absurd none
by_row n (more_of-Sexp a (Word w) (more_of-Sexp b (Str z) row)) f = let g = f.1.0.0 in let none : ⊥ = cc in absurd none
by_row n (more_of-Sexp a (Word w) (more_of-Sexp b (List' k z c) row)) f = let g = f.1.0.0 in let none : ⊥ = cc in absurd none
by_row n (more_of-Sexp a (Word w) (more_of-Sexp b (Num z) row)) f = (
  a,
  b,
  w,
  item.row_items row,
  ap (λ v. item.Name a w ∷ item.Number b v ∷ item.row_items row) (number_same z (pos 1) f.1.0.0),
  refl,
  refl,
  (f.0, ((refl, refl), all_wide (rest_of (Bare false) n) (rest_of (Bare true) n) (rest_wide n) (parts_in row) f.1.1)),
)

renumbered : (text : List ℕ) (n : Notes) (s : Sexp) → SexpSpells text s → Fits (first_notes n) (part_of s) → Renumbered n
unfolding SexpSpells items_of part_of
renumbered text n s h f = let r = first_rest n (part_of s) f in by_node s.at s.node h r.1 r.0
  where
    by_node : (at : ℕ) (node : Node) → SexpSpells text (record { at = at; node = node }) → Fits (listed (Head n)) (part_at at node) → n.lemmas ≡ [] → Renumbered n
    by_node at (Num z) h f e = absurd h.0
    by_node at (Word z) h f e = absurd h.0
    by_node at (Str z) h f e = absurd h.0
    by_node at (List' k row close) h f e =
        let t = by_row n row (parts_fit (Head n) at close (parts_in row) f) in
        let a = t.0 in
        let b = t.1 in
        let w = t.2 in
        let tail = t.3 ++ item.Close close ∷ [] in
        let spelled : Spelled (length text) text (Open at ∷ item.Name a w ∷ item.Number b (pos 1) ∷ tail) = subst (λ xs. Spelled (length text) text (Open at ∷ (xs ++ item.Close close ∷ []))) t.4 h.2 in
        let r = keep_open (length text) at text (item.Name a w ∷ item.Number b (pos 1) ∷ tail) (item.Name a w ∷ item.Number b (pos 2) ∷ tail)
        (λ rest s. keep_name (length text) a w rest (item.Number b (pos 1) ∷ tail) (item.Number b (pos 2) ∷ tail) (λ more t. renumber (length text) b more tail t) s) spelled in
        let there : Spelled (length r.0) r.0 (Open at ∷ item.Name a w ∷ item.Number b (pos 2) ∷ tail) = subst (λ k. Spelled k r.0 (Open at ∷ item.Name a w ∷ item.Number b (pos 2) ∷ tail)) (sym r.1) r.2 in (
          r.0,
          record { at = at; node = List' k (twice row) close },
          (tt, subst (λ d. d + 1 ≤ 500) (sym t.6) h.1, subst (λ xs. Spelled (length r.0) r.0 (Open at ∷ (xs ++ item.Close close ∷ []))) (sym t.5) there),
          second_fits n (Branch at (parts_in (twice row)) close) e (listed_fits (SecondHead n) at close (parts_in (twice row)) t.7),
        )

pub notes_again : (text : List ℕ) (n : Notes) → NotesSpell text n → NotesSpell (notes_text n) n
unfolding NotesSpell
notes_again text n h = by_version h.2
  where
    by_version : HasShape h.0 (first_notes n) ⊎ HasShape h.0 (second_notes n) → NotesSpell (notes_text n) n
    by_version (inl f) =
        let r = renumbered text n h.0 h.1 (has_fits h.0 (first_notes n) f) in
        second_again r.0 r.1 n r.2 (fits_has r.1 (second_notes n) r.3)
    by_version (inr f) = second_again text h.0 n h.1 f

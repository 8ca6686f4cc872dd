-- No tree of notes depends on the names of their lemmas.
use Rattle.std.proofs.Common.{◌≡◌, ℕ, true, List, [], ◌∷◌, ◌++◌, map, codes, Option, Some, None, refl, sym, ap}
use Rattle.sexp_text.specs.Printing.{Branch, Cons, Nil}
use Rattle.notes.specs.declared.uses.Take.{Take}
use Rattle.notes.specs.declared.uses.Use.{Use}
use Rattle.notes.specs.declared.uses.Use.TheVariants as used
use Rattle.notes.specs.declared.moves.Move.{Move}
use Rattle.notes.specs.declared.moves.Move.TheVariants as moves
use Rattle.notes.specs.declared.outline.Note.{Note}
use Rattle.notes.specs.declared.outline.FuncNotes.{FuncNotes}
use Rattle.notes.specs.declared.outline.Initial.{Initial}
use Rattle.notes.specs.declared.outline.Notes.{Notes}
use Rattle.notes_grammar.specs.Printed.{printed_tree, notes_text}
use Rattle.notes_grammar.specs.Shapes.{Shape, Setting, word, listed, small, trees_in, move, take, use_of, note, function, initial, after_of, contract_of, rest_of, lemma, names_of, second_notes, assertion, with, chunk}
use Rattle.notes_print.specs.Plain.{plain}

-- the setting of version 2 with these names
abbrev named : List (List ℕ) → Setting
named ns = record { later = true; names = ns }

pub trees_apart : (xs ys zs : List Shape) → trees_in ys ≡ trees_in zs → trees_in (xs ++ ys) ≡ trees_in (xs ++ zs)
trees_apart [] ys zs e = e
trees_apart (x ∷ xs) ys zs e = ap (Cons x.tree) (trees_apart xs ys zs e)

both_apart : (vs ws xs ys : List Shape) → trees_in vs ≡ trees_in ws → trees_in xs ≡ trees_in ys → trees_in (vs ++ xs) ≡ trees_in (ws ++ ys)
both_apart [] [] xs ys e f = f
both_apart [] (w ∷ ws) xs ys e f = absurd cc
both_apart (v ∷ vs) [] xs ys e f = absurd cc
both_apart (v ∷ vs) (w ∷ ws) xs ys e f =
    let first : v.tree ≡ w.tree = cc in
    let rest : trees_in vs ≡ trees_in ws = cc in
    λ i. Cons (first i) (both_apart vs ws xs ys rest f i)

all_same : {X : Type 0} (f g : X → Shape) → ((x : X) → (f x).tree ≡ (g x).tree) → (xs : List X) → trees_in (map f xs) ≡ trees_in (map g xs)
all_same f g same [] = refl
all_same f g same (x ∷ xs) = λ i. Cons (same x i) (all_same f g same xs i)

same_move : (ns : List (List ℕ)) (m : Move) → (move (named ns) m).tree ≡ (move plain m).tree
unfolding move
same_move ns (moves.Have f ss) = refl
same_move ns (moves.Name p) = refl
same_move ns (moves.Let t) = refl
same_move ns (moves.Put p t f) = refl
same_move ns (moves.Heap m) = refl
same_move ns (moves.Each k f ss) = refl
same_move ns (moves.Lemma n ts fs) = refl

same_moves : (ns : List (List ℕ)) (ms : List Move) → trees_in (map (move (named ns)) ms) ≡ trees_in (map (move plain) ms)
same_moves ns ms = all_same (move (named ns)) (move plain) (same_move ns) ms

same_take : (ns : List (List ℕ)) (t : Take) → (take (named ns) t).tree ≡ (take plain t).tree
unfolding take
same_take ns t = ap (λ ts. Branch (Cons (word (codes "take")).tree (Cons (Branch ts) (Cons (with true t.with).tree Nil)))) (same_moves ns t.moves)

same_use : (ns : List (List ℕ)) (u : Use) → trees_in (use_of (named ns) u) ≡ trees_in (use_of plain u)
unfolding use_of
same_use ns used.Nothing = refl
same_use ns (used.With w) = refl
same_use ns (used.Cell k) = refl
same_use ns (used.Safe ks) = refl
same_use ns (used.Trap w) = refl
same_use ns (used.Take t) = ap (λ x. Cons x Nil) (same_take ns t)
same_use ns (used.Table ts) = ap (λ xs. Cons (Branch (Cons (word (codes "table")).tree xs)) Nil) (all_same (take (named ns)) (take plain) (same_take ns) ts)
same_use ns (used.Both v w) = refl
same_use ns (used.Label a) = refl
same_use ns (used.Loop a w) = refl
same_use ns (used.Skip a t) = ap (λ x. Cons (Branch (Cons (word (codes "skip")).tree (Cons (assertion true a).tree (Cons x Nil)))) Nil) (same_take ns t)

same_note : (ns : List (List ℕ)) (n : Note) → (note (named ns) n).tree ≡ (note plain n).tree
unfolding note
same_note ns n =
    ap (λ ts. Branch (Cons (word (codes "at")).tree (Cons (small n.at).tree ts)))
    (both_apart (map (move (named ns)) n.moves) (map (move plain) n.moves) (use_of (named ns) n.used) (use_of plain n.used) (same_moves ns n.moves) (same_use ns n.used))

same_function : (ns : List (List ℕ)) (f : FuncNotes) → (function (named ns) f).tree ≡ (function plain f).tree
unfolding function
same_function ns f =
    ap (λ ts. Branch (Cons (word (codes "func")).tree (Cons (small f.func).tree ts)))
    (trees_apart (contract_of true f.contract) (map (note (named ns)) f.notes) (map (note plain) f.notes) (all_same (note (named ns)) (note plain) (same_note ns) f.notes))

same_after : (ns : List (List ℕ)) (o : Option Take) → trees_in (after_of (named ns) o) ≡ trees_in (after_of plain o)
same_after ns None = refl
same_after ns (Some t) = ap (λ x. Cons x Nil) (same_take ns t)

same_initial : (ns : List (List ℕ)) (i : Initial) → (initial (named ns) i).tree ≡ (initial plain i).tree
unfolding initial
same_initial ns i =
    λ j. Branch (Cons (word (codes "initial")).tree (Cons (listed (map (chunk true) i.chunks)).tree (Cons (Branch (same_moves ns i.moves j)) (Cons (with true i.with).tree (same_after ns i.after j)))))

same_rest : (ns : List (List ℕ)) (n : Notes) → trees_in (rest_of (named ns) n) ≡ trees_in (rest_of plain n)
same_rest ns n =
    λ j. Cons (assertion true n.invariant).tree (Cons (same_initial ns n.initial j) (all_same (function (named ns)) (function plain) (same_function ns) n.funcs j))

-- the text of notes, by shapes without the names of their lemmas
pub plain_text : (n : Notes) → printed_tree (listed (word (codes "notes") ∷ small 2 ∷ (map lemma n.lemmas ++ rest_of plain n))).tree ≡ notes_text n
unfolding notes_text second_notes
plain_text n =
    ap (λ ts. printed_tree (Branch (Cons (word (codes "notes")).tree (Cons (small 2).tree ts))))
    (sym (trees_apart (map lemma n.lemmas) (rest_of (named (names_of n.lemmas)) n) (rest_of plain n) (same_rest (names_of n.lemmas) n)))

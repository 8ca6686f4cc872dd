-- The items of a value by its parts, and what the reader's own steps do to the items that were read.
use mathlib.Core.Former.{Count}
use Rattle.std.proofs.Common.{◌≡◌, ℕ, suc, ◌+◌, ◌<◌, ◌≤◌, List, [], ◌∷◌, ◌++◌, length, Ok, Err, refl, ap, ◌∙◌, append_assoc, arith}
use Rattle.std.proofs.lemmas.Bool.{lt-ltb, le-ltb}
use Rattle.std.proofs.lemmas.Grind.{flat_map-append}
use Rattle.std.proofs.lemmas.List.{append-nil}
use Rattle.sexp_text.specs.declared.fault.TextFault.TheVariants.{Refused, Limit}
use Rattle.sexp_text.specs.declared.fault.TextWord.TheVariants as word
use Rattle.wasm_values.specs.declared.limit.LimitWord.TheVariants.{Nesting}
use Rattle.sexp_text.specs.declared.sexp.Node.{Row_of-Sexp, end_of-Sexp, more_of-Sexp, items-the_row-Sexp, items_hidden-the_row-Sexp-0}
use Rattle.sexp_text.specs.declared.sexp.Node.TheBlock.{hidden-the_row-Sexp-0}
use Rattle.sexp_text.specs.declared.sexp.Node.TheVariants as node
use Rattle.sexp_text.specs.declared.sexp.Sexp.{Sexp}
use Rattle.sexp_text.specs.declared.reader.OpenList.{OpenList}
use Rattle.sexp_text.specs.declared.reader.Progress.{Progress}
use Rattle.sexp_text.specs.declared.reader.Progress.TheVariants as progress
use Rattle.sexp_text.specs.Items.{Item, Open, Close, node_items, row_items, items_of, items_of_all}
use Rattle.sexp_text.specs.Reading.{Inside, opened, closed, added}
use Rattle.sexp_text.specs.words.Fronts.{open_items, all_open_items, front_of}

pub row_items-listed : {n : Count} (row : Row_of-Sexp n) → row_items row ≡ items_of_all (items-the_row-Sexp n row)
unfolding items_of
row_items-listed end_of-Sexp = refl
row_items-listed (more_of-Sexp at node rest) = ap (λ xs. node_items at node ++ xs) (row_items-listed rest)

-- the items of a list
pub items_of-List : (at close : ℕ) (parts : List Sexp) →
    items_of (record { at = at; node = node.List parts close }) ≡ Open at ∷ (items_of_all parts ++ Close close ∷ [])
unfolding items_of
items_of-List at close parts =
    ap (λ xs. Open at ∷ (xs ++ Close close ∷ [])) (row_items-listed (hidden-the_row-Sexp-0 parts) ∙ ap items_of_all (items_hidden-the_row-Sexp-0 parts))

pub items_of_all-push : (xs : List Sexp) (x : Sexp) → items_of_all (xs ++ x ∷ []) ≡ items_of_all xs ++ items_of x
items_of_all-push xs x = flat_map-append items_of xs (x ∷ []) ∙ ap (λ ys. items_of_all xs ++ ys) (append-nil (items_of x))

pub length-push : (xs : List OpenList) (x : OpenList) → length (xs ++ x ∷ []) ≡ suc (length xs)
length-push [] x = refl
length-push (y ∷ ys) x = ap suc (length-push ys x)

-- an open list with one more part
open_items-push : (l : OpenList) (x : Sexp) →
    open_items (record { at = l.at; parts = l.parts ++ x ∷ [] }) ≡ open_items l ++ items_of x
open_items-push l x = ap (λ xs. Open l.at ∷ xs) (items_of_all-push l.parts x)

all_open_items-push : (ls : List OpenList) (l : OpenList) → all_open_items (ls ++ l ∷ []) ≡ all_open_items ls ++ open_items l
all_open_items-push ls l = flat_map-append open_items ls (l ∷ []) ∙ ap (λ ys. all_open_items ls ++ ys) (append-nil (open_items l))

pub open-before : (at : ℕ) (p : Progress) (outer : List OpenList) (parts : List Sexp) →
    p ≡ progress.Before → outer ≡ [] → parts ≡ [] →
    opened at (front_of p) ≡ Ok (front_of (progress.Inside outer (record { at = at; parts = parts })))
unfolding opened front_of
open-before at p outer parts e eo ep = rw (e, eo, ep) refl

pub open-full : (at n : ℕ) (p : Progress) (outer : List OpenList) (inner : OpenList) →
    p ≡ progress.Inside outer inner → n ≡ length outer → 500 ≤ n + 1 →
    opened at (front_of p) ≡ Err (Limit at Nesting)
unfolding opened front_of
open-full at n p outer inner e en h =
    let h' : 500 ≤ length outer + 1 = omega arith in rw (e, le-ltb (length outer + 1) 500 h') refl

pub open-inside : (at n : ℕ) (p : Progress) (outer new : List OpenList) (inner : OpenList) (parts : List Sexp) →
    p ≡ progress.Inside outer inner → n ≡ length outer → n + 1 < 500 → new ≡ outer ++ inner ∷ [] → parts ≡ [] →
    opened at (front_of p) ≡ Ok (front_of (progress.Inside new (record { at = at; parts = parts })))
unfolding opened front_of
open-inside at n p outer new inner parts e en h eo ep =
    let h' : length outer + 1 < 500 = omega arith in
    let count : suc (length outer) ≡ length outer + 1 = omega arith in
    rw (e, eo, ep, lt-ltb (length outer + 1) 500 h', length-push outer inner, all_open_items-push outer inner, count) refl

pub open-after : (at : ℕ) (p : Progress) (whole : Sexp) → p ≡ progress.After whole →
    opened at (front_of p) ≡ Err (Refused at word.Rest)
unfolding opened front_of
open-after at p whole e = rw e refl

pub close-last : (at : ℕ) (p : Progress) (outer : List OpenList) (inner : OpenList) →
    p ≡ progress.Inside outer inner → outer ≡ [] →
    closed at (front_of p) ≡ Ok (front_of (progress.After (record { at = inner.at; node = node.List inner.parts at })))
unfolding closed front_of
close-last at p outer inner e eo = rw (e, eo, items_of-List inner.at at inner.parts) refl

pub close-inside : (at : ℕ) (p : Progress) (outer new : List OpenList) (inner around : OpenList) (parts : List Sexp) →
    p ≡ progress.Inside outer inner → outer ≡ new ++ around ∷ [] →
    parts ≡ around.parts ++ record { at = inner.at; node = node.List inner.parts at } ∷ [] →
    closed at (front_of p) ≡ Ok (front_of (progress.Inside new (record { at = around.at; parts = parts })))
unfolding closed front_of
close-inside at p outer new inner around parts e eo ep =
    rw (e, eo, ep, length-push new around, all_open_items-push new around, open_items-push around (record { at = inner.at; node = node.List inner.parts at }), items_of-List inner.at at inner.parts)
    (ap (λ xs. Ok (Inside xs (length new))) (
    append_assoc (all_open_items new ++ open_items around) (open_items inner) (Close at ∷ []) ∙
    append_assoc (all_open_items new) (open_items around) (open_items inner ++ Close at ∷ [])
    ))

pub close-before : (at : ℕ) (p : Progress) → p ≡ progress.Before → closed at (front_of p) ≡ Err (Refused at word.Close)
unfolding closed front_of
close-before at p e = rw e refl

pub close-after : (at : ℕ) (p : Progress) (whole : Sexp) → p ≡ progress.After whole →
    closed at (front_of p) ≡ Err (Refused at word.Close)
unfolding closed front_of
close-after at p whole e = rw e refl

pub add-inside : (p : Progress) (part : Sexp) (outer : List OpenList) (inner : OpenList) (parts : List Sexp) →
    p ≡ progress.Inside outer inner → parts ≡ inner.parts ++ part ∷ [] →
    added (items_of part) (front_of p) ≡ front_of (progress.Inside outer (record { at = inner.at; parts = parts }))
unfolding added front_of
add-inside p part outer inner parts e ep =
    rw (e, ep, open_items-push inner part)
    (ap (λ xs. Inside xs (length outer)) (append_assoc (all_open_items outer) (open_items inner) (items_of part)))

pub add-before : (p : Progress) (items : List Item) → p ≡ progress.Before → added items (front_of p) ≡ front_of progress.Before
unfolding added front_of
add-before p items e = rw e refl

pub add-after : (p : Progress) (items : List Item) (whole : Sexp) → p ≡ progress.After whole →
    added items (front_of p) ≡ front_of (progress.After whole)
unfolding added front_of
add-after p items whole e = rw e refl

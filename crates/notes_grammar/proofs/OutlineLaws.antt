-- The notes of functions, the initial part, lemmas and whole notes are read exactly.
use Rattle.std.proofs.Common.{◌≡◌, ℕ, Bool, true, false, cond, eqb, not, ◌⊎◌, inl, inr, List, [], ◌∷◌, ◌++◌, length, Option, Some, None, Result, Ok, refl, ap, ◌∙◌, subst, arith}
use Rattle.std.specs.Prelude.{map, codes}
use Rattle.std.proofs.lemmas.Bool.{eqb-true}
use Rattle.notes.specs.declared.assertion.Assertion.{Assertion}
use Rattle.notes.specs.declared.assertion.Contract.{Contract}
use Rattle.notes.specs.declared.uses.Take.{Take}
use Rattle.notes.specs.declared.outline.Note.{Note}
use Rattle.notes.specs.declared.outline.FuncNotes.{FuncNotes}
use Rattle.notes.specs.declared.outline.Initial.{Initial}
use Rattle.notes.specs.declared.outline.Lemma.{Lemma}
use Rattle.notes.specs.declared.outline.Notes.{Notes}
use Rattle.sexp_text.specs.declared.fault.TextFault.{TextFault}
use Rattle.sexp_text.specs.declared.fault.TextWord.TheVariants as fault
use Rattle.sexp_text.specs.Printing as tree
use Rattle.sexp_text.specs.Reading.{◌>>=◌, refused}
use Rattle.notes_grammar.specs.Parts.{Part, Parts, Number, Name, Quote, Branch, Nil, Cons}
use Rattle.notes_grammar.specs.Parts as part
use Rattle.notes_grammar.specs.Shapes.{Shape, Setting, listed, where_so, is_among, are_new, names_of, rest_of, chunk as chunk_shape, assertion as assertion_shape, with as with_shape, move as move_shape, note as note_shape, contract_of as contract_shape, function as function_shape, after_of as after_shape, initial as initial_shape, lemma as lemma_shape, first_notes, second_notes}
use Rattle.notes_grammar.specs.Shapes as shape
use Rattle.notes_grammar.specs.Words.{same_word}
use Rattle.notes_grammar.specs.Reading.{form, ended, field, all_of, list_of, small, tagged, is_tagged, formula_in, steps_in, chunk_in, assertion_in, with_in, name_in, new_name, move_in, take_in, note_in, side_in, contract_in, contract_first, function_in, after_list, initial_in, lemma_in, lemmas_first, version, lemmas_of, notes_rest, notes_in}
use Rattle.notes_grammar.proofs.Exactness.{no_form, bound, goes, Fits, FitAll, fits_listed, so_fits, fits_so, both, from_both, Exact, field_sound, field_whole, ended_sound, ended_whole, all_sound, all_whole, list_exact, tagged_sound, tagged_whole}
use Rattle.notes_grammar.proofs.LeafLaws.{small_exact, name_exact}
use Rattle.notes_grammar.proofs.TermLaws.{formula_exact}
use Rattle.notes_grammar.proofs.StepLaws.{derivation_sound, derivation_whole}
use Rattle.notes_grammar.proofs.ConstructLaws.{ListedBy, chunk_exact, assertion_exact, with_exact}
use Rattle.notes_grammar.proofs.MoveLaws.{move_exact, take_exact}
use Rattle.notes_grammar.proofs.UseLaws.{note_exact}

ok_same : {A : Type 0} (x y : A) → ◌≡◌ {A = Result A TextFault} (Ok x) (Ok y) → x ≡ y
ok_same x y e = cc

-- whether a list begins with a word

name_same : (v w : List ℕ) → tree.Name v ≡ tree.Name w → v ≡ w
name_same v w e = cc

is_tag : (tag mine : List ℕ) (xs : List Shape) (p : Part) → Fits (listed (shape.word mine ∷ xs)) p → is_tagged tag p ≡ same_word mine tag
unfolding is_tagged
is_tag tag mine xs p f =
    let l = fits_listed (shape.word mine ∷ xs) p f in
    ap (is_tagged tag) l.3 ∙ by_parts l.0 l.2 l.1 l.4
  where
    by_parts : (at close : ℕ) (ps : Parts) → FitAll (shape.word mine ∷ xs) ps → is_tagged tag (Branch at ps close) ≡ same_word mine tag
    by_parts at close Nil g = absurd g
    by_parts at close (Cons (Number from z) ps) g = let e = g.0.0 in let none : ⊥ = cc in absurd none
    by_parts at close (Cons (Quote from z) ps) g = let e = g.0.0 in let none : ⊥ = cc in absurd none
    by_parts at close (Cons (Branch from qs end) ps) g = let e = g.0.0 in let none : ⊥ = cc in absurd none
    by_parts at close (Cons (Name from w) ps) g = ap (λ v. same_word v tag) (name_same w mine g.0.0)

-- the first part, if there is one, is a list that begins with another word
abbrev Other : List ℕ → List Shape → Type 0
Other tag xs = (p : Part) (ps : Parts) → FitAll xs (Cons p ps) → is_tagged tag p ≡ false

-- contracts

abbrev SideShape : List ℕ → Bool → Assertion → Shape
SideShape tag later a = listed (shape.word tag ∷ assertion_shape later a ∷ [])

side_exact : (tag : List ℕ) (later : Bool) → Exact (side_in tag later) (SideShape tag later)
unfolding side_in
side_exact tag later = record { sound = sound; whole = whole_way }
  where
    sound : (p : Part) (a : Assertion) → side_in tag later p ≡ Ok a → Fits (SideShape tag later a) p
    sound p a e =
        let l = bound (tagged tag p) _ a e in
        let r = bound (field (assertion_in later) l.0.1 l.0.0) _ a l.2 in
        let end = ended_sound _ r.0.1 a r.2 in
        subst (λ z. Fits (SideShape tag later z) p) end.0 (tagged_sound tag p l.0 l.1 (assertion_shape later r.0.0 ∷ []) (field_sound (assertion_exact later) l.0.1 l.0.0 r.0 r.1 [] end.1))

    whole_way : (p : Part) (a : Assertion) → Fits (SideShape tag later a) p → side_in tag later p ≡ Ok a
    whole_way p a f =
        let l = tagged_whole tag p (assertion_shape later a ∷ []) f in
        let r = field_whole (assertion_exact later) l.0.1 l.0.0 a [] l.2 in
        goes (tagged tag p) _ l.0 a l.1
        (goes (field (assertion_in later) l.0.1 l.0.0) _ (a, r.0) a r.1
        (ended_whole a r.0 r.2))

abbrev Pre : Bool → Assertion → Shape
Pre = SideShape (codes "pre")

abbrev Post : Bool → Assertion → Shape
Post = SideShape (codes "post")

abbrev ContractShape : Bool → Contract → Shape
ContractShape later k = listed (shape.word (codes "contract") ∷ Pre later k.pre ∷ Post later k.post ∷ [])

contract_exact : (later : Bool) → Exact (contract_in later) (ContractShape later)
unfolding contract_in
contract_exact later = record { sound = sound; whole = whole_way }
  where
    sound : (p : Part) (k : Contract) → contract_in later p ≡ Ok k → Fits (ContractShape later k) p
    sound p k e =
        let l = bound (tagged (codes "contract") p) _ k e in
        let a = bound (field (side_in (codes "pre") later) l.0.1 l.0.0) _ k l.2 in
        let b = bound (field (side_in (codes "post") later) l.0.1 a.0.1) _ k a.2 in
        let end = ended_sound _ b.0.1 k b.2 in
        subst (λ z. Fits (ContractShape later z) p) end.0
        (tagged_sound (codes "contract") p l.0 l.1 (Pre later a.0.0 ∷ Post later b.0.0 ∷ [])
        (field_sound (side_exact (codes "pre") later) l.0.1 l.0.0 a.0 a.1 (Post later b.0.0 ∷ [])
        (field_sound (side_exact (codes "post") later) l.0.1 a.0.1 b.0 b.1 [] end.1)))

    whole_way : (p : Part) (k : Contract) → Fits (ContractShape later k) p → contract_in later p ≡ Ok k
    whole_way p k f =
        let l = tagged_whole (codes "contract") p (Pre later k.pre ∷ Post later k.post ∷ []) f in
        let a = field_whole (side_exact (codes "pre") later) l.0.1 l.0.0 k.pre (Post later k.post ∷ []) l.2 in
        let b = field_whole (side_exact (codes "post") later) l.0.1 a.0 k.post [] a.2 in
        goes (tagged (codes "contract") p) _ l.0 k l.1
        (goes (field (side_in (codes "pre") later) l.0.1 l.0.0) _ (k.pre, a.0) k a.1
        (goes (field (side_in (codes "post") later) l.0.1 a.0) _ (k.post, b.0) k b.1
        (ended_whole k b.0 b.2)))

contract_first_sound : (later : Bool) (ps : Parts) (y : Option Contract × Parts) → contract_first later ps ≡ Ok y → (xs : List Shape) → FitAll xs y.1 → FitAll (contract_shape later y.0 ++ xs) ps
unfolding contract_first contract_shape
contract_first_sound later Nil y e xs h =
    let P : Option Contract × Parts → Type 0 = λ z. FitAll xs z.1 → FitAll (contract_shape later z.0 ++ xs) Nil in
    let here : P (None, Nil) = λ g. g in
    subst P (ok_same (None, Nil) y e) here h
contract_first_sound later (Cons p ps) y e xs h = by_tag (is_tagged (codes "contract") p) e
  where
    by_tag : (v : Bool) → cond v (contract_in later p >>= λ k. Ok (Some k, ps)) (Ok (None, Cons p ps)) ≡ Ok y → FitAll (contract_shape later y.0 ++ xs) (Cons p ps)
    by_tag true e =
        let k = bound (contract_in later p) (λ k. Ok (Some k, ps)) y e in
        let P : Option Contract × Parts → Type 0 = λ z. FitAll xs z.1 → FitAll (contract_shape later z.0 ++ xs) (Cons p ps) in
        let here : P (Some k.0, ps) = λ g. ((contract_exact later).sound p k.0 k.1, g) in
        subst P (ok_same (Some k.0, ps) y k.2) here h
    by_tag false e =
        let P : Option Contract × Parts → Type 0 = λ z. FitAll xs z.1 → FitAll (contract_shape later z.0 ++ xs) (Cons p ps) in
        let here : P (None, Cons p ps) = λ g. g in
        subst P (ok_same (None, Cons p ps) y e) here h

contract_first_whole : (later : Bool) (ps : Parts) (o : Option Contract) (xs : List Shape) → Other (codes "contract") xs → FitAll (contract_shape later o ++ xs) ps →
    (rest : Parts) × (contract_first later ps ≡ Ok (o, rest)) × FitAll xs rest
unfolding contract_first contract_shape
contract_first_whole later Nil None xs n f = (Nil, refl, f)
contract_first_whole later (Cons p ps) None xs n f =
    (Cons p ps, ap (λ v. cond v (contract_in later p >>= λ k. Ok (Some k, ps)) (Ok (None, Cons p ps))) (n p ps f), f)
contract_first_whole later Nil (Some k) xs n f = absurd f
contract_first_whole later (Cons p ps) (Some k) xs n f = (
  ps,
  ap (λ v. cond v (contract_in later p >>= λ k. Ok (Some k, ps)) (Ok (None, Cons p ps))) (is_tag (codes "contract") (codes "contract") (Pre later k.pre ∷ Post later k.post ∷ []) p f.0)
      ∙ goes (contract_in later p) (λ k. Ok (Some k, ps)) k (Some k, ps) ((contract_exact later).whole p k f.0) refl,
  f.1,
)

-- functions

notes_other : (c : Setting) (ns : List Note) → Other (codes "contract") (map (note_shape c) ns)
unfolding note_shape
notes_other c [] p ps f = absurd f
notes_other c (n ∷ ns) p ps f = is_tag (codes "contract") (codes "at") (shape.small n.at ∷ (map (move_shape c) n.moves ++ shape.use_of c n.used)) p f.0

pub function_exact : (c : Setting) → Exact (function_in c) (function_shape c)
unfolding function_in function_shape
function_exact c = record { sound = sound; whole = whole_way }
  where
    sound : (p : Part) (n : FuncNotes) → function_in c p ≡ Ok n → Fits (function_shape c n) p
    sound p n e =
        let l = bound (tagged (codes "func") p) _ n e in
        let k = bound (field small l.0.1 l.0.0) _ n l.2 in
        let r = bound (contract_first c.later k.0.1) _ n k.2 in
        let ns = bound (all_of (note_in c) r.0.1) _ n r.2 in
        subst (λ z. Fits (function_shape c z) p) (ok_same _ n ns.2)
        (tagged_sound (codes "func") p l.0 l.1 (shape.small k.0.0 ∷ (contract_shape c.later r.0.0 ++ map (note_shape c) ns.0))
        (field_sound small_exact l.0.1 l.0.0 k.0 k.1 (contract_shape c.later r.0.0 ++ map (note_shape c) ns.0)
        (contract_first_sound c.later k.0.1 r.0 r.1 (map (note_shape c) ns.0) (all_sound (note_exact c) r.0.1 ns.0 ns.1))))

    whole_way : (p : Part) (n : FuncNotes) → Fits (function_shape c n) p → function_in c p ≡ Ok n
    whole_way p n f =
        let l = tagged_whole (codes "func") p (shape.small n.func ∷ (contract_shape c.later n.contract ++ map (note_shape c) n.notes)) f in
        let k = field_whole small_exact l.0.1 l.0.0 n.func (contract_shape c.later n.contract ++ map (note_shape c) n.notes) l.2 in
        let r = contract_first_whole c.later k.0 n.contract (map (note_shape c) n.notes) (notes_other c n.notes) k.2 in
        goes (tagged (codes "func") p) _ l.0 n l.1
        (goes (field small l.0.1 l.0.0) _ (n.func, k.0) n k.1
        (goes (contract_first c.later k.0) _ (n.contract, r.0) n r.1
        (goes (all_of (note_in c) r.0) _ n.notes n (all_whole (note_exact c) r.0 n.notes r.2) refl)))

-- the initial part

after_sound : (c : Setting) (ps : Parts) (o : Option Take) → after_list c ps ≡ Ok o → FitAll (after_shape c o) ps
unfolding after_list
after_sound c Nil o e = subst (λ o. FitAll (after_shape c o) Nil) (ok_same None o e) tt
after_sound c (Cons p ps) o e =
    let t = bound (take_in c p) (λ t. ended (Some t) ps) o e in
    let end = ended_sound (Some t.0) ps o t.2 in
    subst (λ o. FitAll (after_shape c o) (Cons p ps)) end.0 ((take_exact c).sound p t.0 t.1, end.1)

after_whole : (c : Setting) (ps : Parts) (o : Option Take) → FitAll (after_shape c o) ps → after_list c ps ≡ Ok o
unfolding after_list
after_whole c Nil None f = refl
after_whole c (Cons p ps) None f = absurd f
after_whole c Nil (Some t) f = absurd f
after_whole c (Cons p ps) (Some t) f = goes (take_in c p) (λ t. ended (Some t) ps) t (Some t) ((take_exact c).whole p t f.0) (ended_whole (Some t) ps f.1)

pub initial_exact : (c : Setting) → Exact (initial_in c) (initial_shape c)
unfolding initial_in initial_shape
initial_exact c = record { sound = sound; whole = whole_way }
  where
    sound : (p : Part) (i : Initial) → initial_in c p ≡ Ok i → Fits (initial_shape c i) p
    sound p i e =
        let l = bound (tagged (codes "initial") p) _ i e in
        let cs = bound (field (list_of (chunk_in c.later)) l.0.1 l.0.0) _ i l.2 in
        let ms = bound (field (list_of (move_in c)) l.0.1 cs.0.1) _ i cs.2 in
        let w = bound (field (with_in c.later) l.0.1 ms.0.1) _ i ms.2 in
        let t = bound (after_list c w.0.1) _ i w.2 in
        subst (λ z. Fits (initial_shape c z) p) (ok_same _ i t.2)
        (tagged_sound (codes "initial") p l.0 l.1 (ListedBy (chunk_shape c.later) cs.0.0 ∷ ListedBy (move_shape c) ms.0.0 ∷ with_shape c.later w.0.0 ∷ after_shape c t.0)
        (field_sound (list_exact (chunk_exact c.later)) l.0.1 l.0.0 cs.0 cs.1 (ListedBy (move_shape c) ms.0.0 ∷ with_shape c.later w.0.0 ∷ after_shape c t.0)
        (field_sound (list_exact (move_exact c)) l.0.1 cs.0.1 ms.0 ms.1 (with_shape c.later w.0.0 ∷ after_shape c t.0)
        (field_sound (with_exact c.later) l.0.1 ms.0.1 w.0 w.1 (after_shape c t.0) (after_sound c w.0.1 t.0 t.1)))))

    whole_way : (p : Part) (i : Initial) → Fits (initial_shape c i) p → initial_in c p ≡ Ok i
    whole_way p i f =
        let l = tagged_whole (codes "initial") p (ListedBy (chunk_shape c.later) i.chunks ∷ ListedBy (move_shape c) i.moves ∷ with_shape c.later i.with ∷ after_shape c i.after) f in
        let cs = field_whole (list_exact (chunk_exact c.later)) l.0.1 l.0.0 i.chunks (ListedBy (move_shape c) i.moves ∷ with_shape c.later i.with ∷ after_shape c i.after) l.2 in
        let ms = field_whole (list_exact (move_exact c)) l.0.1 cs.0 i.moves (with_shape c.later i.with ∷ after_shape c i.after) cs.2 in
        let w = field_whole (with_exact c.later) l.0.1 ms.0 i.with (after_shape c i.after) ms.2 in
        goes (tagged (codes "initial") p) _ l.0 i l.1
        (goes (field (list_of (chunk_in c.later)) l.0.1 l.0.0) _ (i.chunks, cs.0) i cs.1
        (goes (field (list_of (move_in c)) l.0.1 cs.0) _ (i.moves, ms.0) i ms.1
        (goes (field (with_in c.later) l.0.1 ms.0) _ (i.with, w.0) i w.1
        (goes (after_list c w.0) _ i.after i (after_whole c w.0 i.after w.2) refl))))

-- lemmas

abbrev IsNew : List (List ℕ) → List ℕ → Bool
IsNew names n = not (is_among names n)

abbrev NewName : List (List ℕ) → List ℕ → Shape
NewName names n = where_so (IsNew names n) (shape.name n)

new_exact : (names : List (List ℕ)) → Exact (new_name names) (NewName names)
unfolding new_name
new_exact names = record { sound = sound; whole = whole_way }
  where
    sound : (p : Part) (n : List ℕ) → new_name names p ≡ Ok n → Fits (NewName names n) p
    sound p n e =
        let m = bound (name_in p) (λ m. cond (is_among names m) (refused (part.place p) fault.Name) (Ok m)) n e in
        by_known m.0 (is_among names m.0) refl m.1 m.2
      where
        by_known : (m : List ℕ) (v : Bool) → is_among names m ≡ v → name_in p ≡ Ok m → cond v (refused (part.place p) fault.Name) (Ok m) ≡ Ok n → Fits (NewName names n) p
        by_known m true t s e = let none : ⊥ = cc in absurd none
        by_known m false t s e = subst (λ k. Fits (NewName names k) p) (ok_same m n e) (so_fits (IsNew names m) (shape.name m) p (ap not t) (name_exact.sound p m s))

    whole_way : (p : Part) (n : List ℕ) → Fits (NewName names n) p → new_name names p ≡ Ok n
    whole_way p n f =
        let t = fits_so (IsNew names n) (shape.name n) p f in
        goes (name_in p) (λ m. cond (is_among names m) (refused (part.place p) fault.Name) (Ok m)) n n (name_exact.whole p n t.1)
        (ap (λ v. cond v (refused (part.place p) fault.Name) (Ok n)) (no_more (is_among names n) t.0))
      where
        no_more : (v : Bool) → not v ≡ true → v ≡ false
        no_more true e = cc
        no_more false e = refl

-- the parts of a lemma after its name
abbrev LemmaParts : Lemma → List Shape
LemmaParts l = shape.small l.vars ∷ listed (map (shape.formula true) l.hyps) ∷ shape.formula true l.goal ∷ shape.steps true l.steps

abbrev LemmaShape : List (List ℕ) → Lemma → Shape
LemmaShape names l = where_so (IsNew names l.name) (lemma_shape l)

name_out : (b : Bool) (w : List ℕ) (n : List ℕ) (xs : List Shape) (ps : Parts) (q : Part) → ((ys : List Shape) → FitAll ys ps → Fits (listed (shape.word w ∷ ys)) q) →
    FitAll (where_so b (shape.name n) ∷ xs) ps → Fits (where_so b (listed (shape.word w ∷ shape.name n ∷ xs))) q
name_out b w n xs Nil q g f = absurd f
name_out b w n xs (Cons p ps) q g f =
    let s = fits_so b (shape.name n) p f.0 in
    so_fits b (listed (shape.word w ∷ shape.name n ∷ xs)) q s.0 (g (shape.name n ∷ xs) (s.1, f.1))

name_inside : (b : Bool) (n : List ℕ) (xs : List Shape) (ps : Parts) → b ≡ true → FitAll (shape.name n ∷ xs) ps → FitAll (where_so b (shape.name n) ∷ xs) ps
name_inside b n xs Nil t f = absurd f
name_inside b n xs (Cons p ps) t f = (so_fits b (shape.name n) p t f.0, f.1)

lemma_exact : (names : List (List ℕ)) → Exact (lemma_in names) (LemmaShape names)
unfolding lemma_in lemma_shape
lemma_exact names = record { sound = sound; whole = whole_way }
  where
    sound : (p : Part) (y : Lemma) → lemma_in names p ≡ Ok y → Fits (LemmaShape names y) p
    sound p y e =
        let l = bound (tagged (codes "lemma") p) _ y e in
        let n = bound (field (new_name names) l.0.1 l.0.0) _ y l.2 in
        let k = bound (field small l.0.1 n.0.1) _ y n.2 in
        let hs = bound (field (list_of (formula_in true)) l.0.1 k.0.1) _ y k.2 in
        let g = bound (field (formula_in true) l.0.1 hs.0.1) _ y hs.2 in
        let ss = bound (steps_in true g.0.1 0) _ y g.2 in
        let rest = shape.small k.0.0 ∷ listed (map (shape.formula true) hs.0.0) ∷ shape.formula true g.0.0 ∷ shape.steps true ss.0 in
        subst (λ z. Fits (LemmaShape names z) p) (ok_same _ y ss.2)
        (name_out (IsNew names n.0.0) (codes "lemma") n.0.0 rest l.0.0 p (λ ys f. tagged_sound (codes "lemma") p l.0 l.1 ys f)
        (field_sound (new_exact names) l.0.1 l.0.0 n.0 n.1 rest
        (field_sound small_exact l.0.1 n.0.1 k.0 k.1 (listed (map (shape.formula true) hs.0.0) ∷ shape.formula true g.0.0 ∷ shape.steps true ss.0)
        (field_sound (list_exact (formula_exact true)) l.0.1 k.0.1 hs.0 hs.1 (shape.formula true g.0.0 ∷ shape.steps true ss.0)
        (field_sound (formula_exact true) l.0.1 hs.0.1 g.0 g.1 (shape.steps true ss.0) (derivation_sound true g.0.1 ss.0 ss.1))))))

    whole_way : (p : Part) (y : Lemma) → Fits (LemmaShape names y) p → lemma_in names p ≡ Ok y
    whole_way p y f =
        let t = fits_so (IsNew names y.name) (lemma_shape y) p f in
        let l = tagged_whole (codes "lemma") p (shape.name y.name ∷ LemmaParts y) t.1 in
        let n = field_whole (new_exact names) l.0.1 l.0.0 y.name (LemmaParts y) (name_inside (IsNew names y.name) y.name (LemmaParts y) l.0.0 t.0 l.2) in
        let k = field_whole small_exact l.0.1 n.0 y.vars (listed (map (shape.formula true) y.hyps) ∷ shape.formula true y.goal ∷ shape.steps true y.steps) n.2 in
        let hs = field_whole (list_exact (formula_exact true)) l.0.1 k.0 y.hyps (shape.formula true y.goal ∷ shape.steps true y.steps) k.2 in
        let g = field_whole (formula_exact true) l.0.1 hs.0 y.goal (shape.steps true y.steps) hs.2 in
        goes (tagged (codes "lemma") p) _ l.0 y l.1
        (goes (field (new_name names) l.0.1 l.0.0) _ (y.name, n.0) y n.1
        (goes (field small l.0.1 n.0) _ (y.vars, k.0) y k.1
        (goes (field (list_of (formula_in true)) l.0.1 k.0) _ (y.hyps, hs.0) y hs.1
        (goes (field (formula_in true) l.0.1 hs.0) _ (y.goal, g.0) y g.1
        (goes (steps_in true g.0 0) _ y.steps y (derivation_whole true g.0 y.steps g.2) refl)))))

lemma_tag : (l : Lemma) (p : Part) → Fits (lemma_shape l) p → is_tagged (codes "lemma") p ≡ true
unfolding lemma_shape
lemma_tag l p f = is_tag (codes "lemma") (codes "lemma") (shape.name l.name ∷ LemmaParts l) p f

abbrev FirstOf : List (List ℕ) → Parts → List Lemma × Parts → List Shape → Type 0
FirstOf names ps y xs = FitAll (map lemma_shape y.0 ++ xs) ps × (are_new names (names_of y.0) ≡ true)

lemmas_sound : (names : List (List ℕ)) (ps : Parts) (y : List Lemma × Parts) → lemmas_first names ps ≡ Ok y → (xs : List Shape) → FitAll xs y.1 → FirstOf names ps y xs
lemmas_sound names Nil y e xs h =
    let P : List Lemma × Parts → Type 0 = λ z. FitAll xs z.1 → FirstOf names Nil z xs in
    let here : P ([], Nil) = λ g. (g, refl) in
    subst P (ok_same ([], Nil) y e) here h
lemmas_sound names (Cons p ps) y e xs h = by_tag (is_tagged (codes "lemma") p) (λ ns z e g. lemmas_sound ns ps z e xs g) e
  where
    by_tag : (v : Bool) → ((ns : List (List ℕ)) (z : List Lemma × Parts) → lemmas_first ns ps ≡ Ok z → FitAll xs z.1 → FirstOf ns ps z xs) →
        cond v (lemma_in names p >>= λ l. lemmas_first (names ++ l.name ∷ []) ps >>= λ more. Ok (l ∷ more.0, more.1)) (Ok ([], Cons p ps)) ≡ Ok y → FirstOf names (Cons p ps) y xs
    by_tag true again e =
        let l = bound (lemma_in names p) (λ l. lemmas_first (names ++ l.name ∷ []) ps >>= λ more. Ok (l ∷ more.0, more.1)) y e in
        let more = bound (lemmas_first (names ++ l.0.name ∷ []) ps) (λ more. Ok (l.0 ∷ more.0, more.1)) y l.2 in
        let fits = (lemma_exact names).sound p l.0 l.1 in
        let one = fits_so (IsNew names l.0.name) (lemma_shape l.0) p fits in
        let P : List Lemma × Parts → Type 0 = λ z. FitAll xs z.1 → FirstOf names (Cons p ps) z xs in
        let here : P (l.0 ∷ more.0.0, more.0.1) = λ g.
        let rest = again (names ++ l.0.name ∷ []) more.0 more.1 g in
        ((one.1, rest.0), from_both (IsNew names l.0.name) (are_new (names ++ l.0.name ∷ []) (names_of more.0.0)) one.0 rest.1) in
        subst P (ok_same (l.0 ∷ more.0.0, more.0.1) y more.2) here h
    by_tag false again e =
        let P : List Lemma × Parts → Type 0 = λ z. FitAll xs z.1 → FirstOf names (Cons p ps) z xs in
        let here : P ([], Cons p ps) = λ g. (g, refl) in
        subst P (ok_same ([], Cons p ps) y e) here h

lemmas_whole : (names : List (List ℕ)) (ps : Parts) (ls : List Lemma) (xs : List Shape) → Other (codes "lemma") xs → FitAll (map lemma_shape ls ++ xs) ps → are_new names (names_of ls) ≡ true →
    (rest : Parts) × (lemmas_first names ps ≡ Ok (ls, rest)) × FitAll xs rest
lemmas_whole names Nil [] xs n f t = (Nil, refl, f)
lemmas_whole names (Cons p ps) [] xs n f t =
    (Cons p ps, ap (λ v. cond v (lemma_in names p >>= λ l. lemmas_first (names ++ l.name ∷ []) ps >>= λ more. Ok (l ∷ more.0, more.1)) (Ok ([], Cons p ps))) (n p ps f), f)
lemmas_whole names Nil (l ∷ ls) xs n f t = absurd f
lemmas_whole names (Cons p ps) (l ∷ ls) xs n f t =
    let new = both (IsNew names l.name) (are_new (names ++ l.name ∷ []) (names_of ls)) t in
    let more = lemmas_whole (names ++ l.name ∷ []) ps ls xs n f.1 new.1 in (
      more.0,
      ap (λ v. cond v (lemma_in names p >>= λ l. lemmas_first (names ++ l.name ∷ []) ps >>= λ more. Ok (l ∷ more.0, more.1)) (Ok ([], Cons p ps))) (lemma_tag l p f.0) ∙
          goes (lemma_in names p) (λ l. lemmas_first (names ++ l.name ∷ []) ps >>= λ more. Ok (l ∷ more.0, more.1)) l (l ∷ ls, more.0)
          ((lemma_exact names).whole p l (so_fits (IsNew names l.name) (lemma_shape l) p new.0 f.0))
          (goes (lemmas_first (names ++ l.name ∷ []) ps) (λ more. Ok (l ∷ more.0, more.1)) (ls, more.0) (l ∷ ls, more.0) more.1 refl),
      more.2,
    )

-- notes

abbrev VersionShape : Bool → Shape
VersionShape later = shape.small (cond later 2 1)

abbrev VersionAt : Part → ℕ → Result Bool TextFault
VersionAt p n = cond (eqb n 1) (Ok false) (cond (eqb n 2) (Ok true) (form (part.place p)))

version_exact : Exact version VersionShape
unfolding version
version_exact = record { sound = sound; whole = whole_way }
  where
    sound : (p : Part) (v : Bool) → version p ≡ Ok v → Fits (VersionShape v) p
    sound p v e =
        let n = bound (small p) (VersionAt p) v e in
        by_one n.0 (eqb n.0 1) refl n.1 n.2
      where
        by_two : (n : ℕ) (b : Bool) → eqb n 2 ≡ b → small p ≡ Ok n → cond b (Ok true) (form (part.place p)) ≡ Ok v → Fits (VersionShape v) p
        by_two n true t s e =
            subst (λ v. Fits (VersionShape v) p) (ok_same true v e) (subst (λ k. Fits (shape.small k) p) (eqb-true n 2 t) (small_exact.sound p n s))
        by_two n false t s e = absurd (no_form (part.place p) v e)

        by_one : (n : ℕ) (b : Bool) → eqb n 1 ≡ b → small p ≡ Ok n → cond b (Ok false) (cond (eqb n 2) (Ok true) (form (part.place p))) ≡ Ok v → Fits (VersionShape v) p
        by_one n true t s e =
            subst (λ v. Fits (VersionShape v) p) (ok_same false v e) (subst (λ k. Fits (shape.small k) p) (eqb-true n 1 t) (small_exact.sound p n s))
        by_one n false t s e = by_two n (eqb n 2) refl s e

    whole_way : (p : Part) (v : Bool) → Fits (VersionShape v) p → version p ≡ Ok v
    whole_way p true f = goes (small p) (VersionAt p) 2 true (small_exact.whole p 2 f) refl
    whole_way p false f = goes (small p) (VersionAt p) 1 false (small_exact.whole p 1 f) refl

abbrev SettingOf : Bool → List Lemma → Setting
SettingOf later ls = record { later = later; names = names_of ls }

rest_other : (c : Setting) (n : Notes) → Other (codes "lemma") (rest_of c n)
unfolding assertion_shape
rest_other c n p ps f =
    is_tag (codes "lemma") (codes "assert")
    (shape.small n.invariant.own ∷ listed (map (shape.formula c.later) n.invariant.formulas) ∷ listed (map (chunk_shape c.later) n.invariant.chunks) ∷ []) p f.0

rest_sound : (c : Setting) (ls : List Lemma) (close : ℕ) (ps : Parts) (n : Notes) → notes_rest c ls close ps ≡ Ok n → (ls ≡ n.lemmas) × FitAll (rest_of c n) ps
unfolding notes_rest
rest_sound c ls close ps n e =
    let a = bound (field (assertion_in c.later) close ps) _ n e in
    let i = bound (field (initial_in c) close a.0.1) _ n a.2 in
    let fs = bound (all_of (function_in c) i.0.1) _ n i.2 in
    let P : Notes → Type 0 = λ n. (ls ≡ n.lemmas) × FitAll (rest_of c n) ps in
    let here : P (record { invariant = a.0.0; initial = i.0.0; funcs = fs.0; lemmas = ls }) = (
      refl,
      field_sound (assertion_exact c.later) close ps a.0 a.1 (initial_shape c i.0.0 ∷ map (function_shape c) fs.0)
          (field_sound (initial_exact c) close a.0.1 i.0 i.1 (map (function_shape c) fs.0) (all_sound (function_exact c) i.0.1 fs.0 fs.1)),
    ) in
    subst P (ok_same _ n fs.2) here

rest_whole : (c : Setting) (close : ℕ) (ps : Parts) (n : Notes) → FitAll (rest_of c n) ps → notes_rest c n.lemmas close ps ≡ Ok n
unfolding notes_rest
rest_whole c close ps n f =
    let a = field_whole (assertion_exact c.later) close ps n.invariant (initial_shape c n.initial ∷ map (function_shape c) n.funcs) f in
    let i = field_whole (initial_exact c) close a.0 n.initial (map (function_shape c) n.funcs) a.2 in
    goes (field (assertion_in c.later) close ps) _ (n.invariant, a.0) n a.1
    (goes (field (initial_in c) close a.0) _ (n.initial, i.0) n i.1
    (goes (all_of (function_in c) i.0) _ n.funcs n (all_whole (function_exact c) i.0 n.funcs i.2) refl))

-- what is read behind the version
abbrev Behind : Bool → Parts × ℕ → Parts → Result Notes TextFault
Behind later l ps = lemmas_of later ps >>= λ ls. notes_rest (SettingOf later ls.0) ls.0 l.1 ls.1

-- the parts of notes behind the version
abbrev PartsOf : Bool → Notes → List Shape
PartsOf true n = map lemma_shape n.lemmas ++ rest_of (SettingOf true n.lemmas) n
PartsOf false n = rest_of (record { later = false; names = [] }) n

abbrev Allowed : Bool → Notes → Bool
Allowed true n = are_new [] (names_of n.lemmas)
Allowed false n = eqb (length n.lemmas) 0

pub no_items : {A : Type 0} (xs : List A) → eqb (length xs) 0 ≡ true → xs ≡ []
no_items [] e = refl
no_items (x ∷ xs) e = let none = eqb-true (length (x ∷ xs)) 0 e in absurd (omega arith)

behind_sound : (later : Bool) (l : Parts × ℕ) (ps : Parts) (n : Notes) → Behind later l ps ≡ Ok n → FitAll (PartsOf later n) ps × (Allowed later n ≡ true)
behind_sound false l ps n e =
    let r = rest_sound (record { later = false; names = [] }) [] l.1 ps n e in
    (r.1, subst (λ ls. eqb (length ls) 0 ≡ true) r.0 refl)
behind_sound true l ps n e =
    let ls = bound (lemmas_first [] ps) (λ ls. notes_rest (SettingOf true ls.0) ls.0 l.1 ls.1) n e in
    let r = rest_sound (SettingOf true ls.0.0) ls.0.0 l.1 ls.0.1 n ls.2 in
    let s = lemmas_sound [] ps ls.0 ls.1 (rest_of (SettingOf true ls.0.0) n) r.1 in
    subst (λ ms. FitAll (map lemma_shape ms ++ rest_of (SettingOf true ms) n) ps × (are_new [] (names_of ms) ≡ true)) r.0 (s.0, s.1)

behind_whole : (later : Bool) (l : Parts × ℕ) (ps : Parts) (n : Notes) → FitAll (PartsOf later n) ps → Allowed later n ≡ true → Behind later l ps ≡ Ok n
behind_whole false l ps n f t =
    subst (λ ls. notes_rest (record { later = false; names = [] }) ls l.1 ps ≡ Ok n) (no_items n.lemmas t) (rest_whole (record { later = false; names = [] }) l.1 ps n f)
behind_whole true l ps n f t =
    let s = lemmas_whole [] ps n.lemmas (rest_of (SettingOf true n.lemmas) n) (rest_other (SettingOf true n.lemmas) n) f t in
    goes (lemmas_first [] ps) (λ ls. notes_rest (SettingOf true ls.0) ls.0 l.1 ls.1) (n.lemmas, s.0) n s.1 (rest_whole (SettingOf true n.lemmas) l.1 s.0 n s.2)

-- notes of a version
abbrev VersionOf : Bool → Notes → Shape
VersionOf later n = where_so (Allowed later n) (listed (shape.word (codes "notes") ∷ VersionShape later ∷ PartsOf later n))

version_sound : (p : Part) (n : Notes) → notes_in p ≡ Ok n → (later : Bool) × Fits (VersionOf later n) p
unfolding notes_in
version_sound p n e =
    let l = bound (tagged (codes "notes") p) _ n e in
    let v = bound (field version l.0.1 l.0.0) (λ v. Behind v.0 l.0 v.1) n l.2 in
    let s = behind_sound v.0.0 l.0 v.0.1 n v.2 in (
      v.0.0,
      so_fits (Allowed v.0.0 n) (listed (shape.word (codes "notes") ∷ VersionShape v.0.0 ∷ PartsOf v.0.0 n)) p s.1
          (tagged_sound (codes "notes") p l.0 l.1 (VersionShape v.0.0 ∷ PartsOf v.0.0 n) (field_sound version_exact l.0.1 l.0.0 v.0 v.1 (PartsOf v.0.0 n) s.0)),
    )

version_whole : (later : Bool) (p : Part) (n : Notes) → Fits (VersionOf later n) p → notes_in p ≡ Ok n
unfolding notes_in
version_whole later p n f =
    let t = fits_so (Allowed later n) (listed (shape.word (codes "notes") ∷ VersionShape later ∷ PartsOf later n)) p f in
    let l = tagged_whole (codes "notes") p (VersionShape later ∷ PartsOf later n) t.1 in
    let v = field_whole version_exact l.0.1 l.0.0 later (PartsOf later n) l.2 in
    goes (tagged (codes "notes") p) _ l.0 n l.1
    (goes (field version l.0.1 l.0.0) (λ v. Behind v.0 l.0 v.1) (later, v.0) n v.1 (behind_whole later l.0 v.0 n v.2 t.0))

pub notes_sound : (p : Part) (n : Notes) → notes_in p ≡ Ok n → Fits (first_notes n) p ⊎ Fits (second_notes n) p
unfolding first_notes second_notes
notes_sound p n e = let s = version_sound p n e in by_version s.0 s.1
  where
    by_version : (later : Bool) → Fits (VersionOf later n) p → Fits (first_notes n) p ⊎ Fits (second_notes n) p
    by_version true f = inr f
    by_version false f = inl f

pub notes_whole : (p : Part) (n : Notes) → Fits (first_notes n) p ⊎ Fits (second_notes n) p → notes_in p ≡ Ok n
unfolding first_notes second_notes
notes_whole p n (inl f) = version_whole false p n f
notes_whole p n (inr f) = version_whole true p n f

-- Moves, takes and uses are read exactly.
use Rattle.std.proofs.Common.{◌≡◌, ℕ, Bool, true, ◌&&◌, List, [], ◌∷◌, Result, Ok, refl, ◌∙◌, subst}
use Rattle.std.specs.Prelude.{codes}
use Rattle.term_trees.specs.declared.term.Term.{Term}
use Rattle.notes.specs.declared.assertion.Assertion.{Assertion}
use Rattle.notes.specs.declared.uses.With.{With}
use Rattle.notes.specs.declared.uses.Take.{Take}
use Rattle.notes.specs.declared.moves.Move.{Move}
use Rattle.notes.specs.declared.moves.Move.TheVariants as moves
use Rattle.notes.specs.declared.uses.Use.{Use}
use Rattle.notes.specs.declared.uses.Use.TheVariants as used
use Rattle.sexp_text.specs.declared.fault.TextFault.{TextFault}
use Rattle.sexp_text.specs.Reading.{◌>>=◌}
use Rattle.notes_grammar.specs.declared.head.Head.{Head}
use Rattle.notes_grammar.specs.declared.head.Head.TheVariants as head
use Rattle.notes_grammar.specs.Parts.{Part, Parts, Nil, Cons}
use Rattle.notes_grammar.specs.Shapes.{Shape, Setting, listed, where_so, is_among, assertion as assertion_shape, with as with_shape, move as move_shape, take as take_shape}
use Rattle.notes_grammar.specs.Shapes as shape
use Rattle.notes_grammar.specs.Words.{head_name}
use Rattle.notes_grammar.specs.Reading.{ended, field, list_of, small, Headed, headed, tagged, place_in, term_in, assertion_in, with_in, heap_at, known_name, each_list, lemma_use, move_at, move_in, take_list, take_in, both_list, loop_list, skip_list}
use Rattle.notes_grammar.proofs.Exactness.{bound, goes, Fits, FitAll, so_fits, fits_so, both, Exact, field_sound, field_whole, ended_sound, ended_whole, list_exact, tagged_sound, tagged_whole}
use Rattle.notes_grammar.proofs.LeafLaws.{small_exact, second_sound, second_whole, Heads, headed_heads, by_head_whole, place_exact}
use Rattle.notes_grammar.proofs.TermLaws.{term_exact}
use Rattle.notes_grammar.proofs.ConstructLaws.{ListedBy, assertion_exact, with_exact, heap_sound, heap_whole, have_sound, have_whole, each_sound, each_whole, put_sound, put_whole, known_exact}

ok_same : {A : Type 0} (x y : A) → ◌≡◌ {A = Result A TextFault} (Ok x) (Ok y) → x ≡ y
ok_same x y e = cc

abbrev KnownName : Setting → List ℕ → Shape
KnownName c n = where_so (is_among c.names n) (shape.name n)

lemma_use_sound : (c : Setting) (close : ℕ) (ps : Parts) (y : Move) → lemma_use c close ps ≡ Ok y →
    (n : List ℕ) × (ts : List Term) × (fs : List ℕ) × (moves.Lemma n ts fs ≡ y) × FitAll (KnownName c n ∷ ListedBy (shape.term c.later) ts ∷ ListedBy shape.small fs ∷ []) ps
unfolding lemma_use
lemma_use_sound c close ps y e =
    let r0 = bound (field (known_name c.names) close ps) _ y e in
    let r1 = bound (field (list_of (term_in c.later)) close r0.0.1) _ y r0.2 in
    let r2 = bound (field (list_of small) close r1.0.1) _ y r1.2 in
    let end = ended_sound _ r2.0.1 y r2.2 in
    (r0.0.0, r1.0.0, r2.0.0, end.0, field_sound (known_exact c.names) close ps r0.0 r0.1 (ListedBy (shape.term c.later) r1.0.0 ∷ ListedBy shape.small r2.0.0 ∷ []) (field_sound (list_exact (term_exact c.later)) close r0.0.1 r1.0 r1.1 (ListedBy shape.small r2.0.0 ∷ []) (field_sound (list_exact small_exact) close r1.0.1 r2.0 r2.1 ([]) (end.1))))

lemma_use_whole : (c : Setting) (close : ℕ) (ps : Parts) (n : List ℕ) (ts : List Term) (fs : List ℕ) → FitAll (KnownName c n ∷ ListedBy (shape.term c.later) ts ∷ ListedBy shape.small fs ∷ []) ps →
    lemma_use c close ps ≡ Ok (moves.Lemma n ts fs)
unfolding lemma_use
lemma_use_whole c close ps n ts fs fits =
    let r0 = field_whole (known_exact c.names) close ps n (ListedBy (shape.term c.later) ts ∷ ListedBy shape.small fs ∷ []) fits in
    let r1 = field_whole (list_exact (term_exact c.later)) close r0.0 ts (ListedBy shape.small fs ∷ []) r0.2 in
    let r2 = field_whole (list_exact small_exact) close r1.0 fs ([]) r1.2 in
    goes (field (known_name c.names) close ps) _ (n, r0.0) (moves.Lemma n ts fs) r0.1
    (goes (field (list_of (term_in c.later)) close r0.0) _ (ts, r1.0) (moves.Lemma n ts fs) r1.1
    (goes (field (list_of small) close r1.0) _ (fs, r2.0) (moves.Lemma n ts fs) r2.1
    (ended_whole (moves.Lemma n ts fs) r2.0 r2.2)))

-- a known name as a part of a list that is only where it is known
known_fits : (c : Setting) (n : List ℕ) (xs : List Shape) (h : Headed) (k : Head) (q : Part) → Heads h k q → c.later ≡ true → FitAll (KnownName c n ∷ xs) h.rest →
    Fits (where_so (c.later && is_among c.names n) (listed (shape.word (head_name k) ∷ shape.name n ∷ xs))) q
known_fits c n xs h k q g t f = by_rest h.rest f (λ f. g (shape.name n ∷ xs) f)
  where
    from_both : (x y : Bool) → x ≡ true → y ≡ true → (x && y) ≡ true
    from_both x y e f = rw (e, f) refl

    by_rest : (ps : Parts) → FitAll (KnownName c n ∷ xs) ps → (FitAll (shape.name n ∷ xs) ps → Fits (listed (shape.word (head_name k) ∷ shape.name n ∷ xs)) q) →
        Fits (where_so (c.later && is_among c.names n) (listed (shape.word (head_name k) ∷ shape.name n ∷ xs))) q
    by_rest Nil f go = absurd f
    by_rest (Cons p ps) f go =
        let s = fits_so (is_among c.names n) (shape.name n) p f.0 in
        so_fits (c.later && is_among c.names n) (listed (shape.word (head_name k) ∷ shape.name n ∷ xs)) q (from_both c.later (is_among c.names n) t s.0) (go (s.1, f.1))

fits_known : (c : Setting) (n : List ℕ) (xs : List Shape) (ps : Parts) → is_among c.names n ≡ true → FitAll (shape.name n ∷ xs) ps → FitAll (KnownName c n ∷ xs) ps
fits_known c n xs Nil t f = absurd f
fits_known c n xs (Cons p ps) t f = (so_fits (is_among c.names n) (shape.name n) p t f.0, f.1)

heap_is : (c : Setting) (h : Headed) (k : Head) (q : Part) (y : Move) → Heads h k q → (heap_at c.later h k >>= λ m. Ok (moves.Heap m)) ≡ Ok y → Fits (move_shape c y) q
unfolding move_shape
heap_is c h k q y g e =
    let m = bound (heap_at c.later h k) (λ m. Ok (moves.Heap m)) y e in
    subst (λ y. Fits (move_shape c y) q) (ok_same (moves.Heap m.0) y m.2) (heap_sound c.later h k q m.0 g m.1)

pub move_sound : (c : Setting) (h : Headed) (k : Head) (q : Part) (y : Move) → Heads h k q → move_at c h k ≡ Ok y → Fits (move_shape c y) q
unfolding move_at move_shape
move_sound c h head.Have q y g e = let s = have_sound c.later h.close h.rest y e in subst (λ y. Fits (move_shape c y) q) s.2 (g (shape.formula c.later s.0 ∷ shape.steps c.later s.1) s.3)
move_sound c h head.Name q y g e =
    let p = bound (field (place_in c.later) h.close h.rest) (λ p. ended (moves.Name p.0) p.1) y e in
    let end = ended_sound (moves.Name p.0.0) p.0.1 y p.2 in
    subst (λ y. Fits (move_shape c y) q) end.0 (g (shape.place c.later p.0.0 ∷ []) (field_sound (place_exact c.later) h.close h.rest p.0 p.1 [] end.1))
move_sound c h head.Let q y g e =
    let t = bound (field (term_in c.later) h.close h.rest) (λ t. ended (moves.Let t.0) t.1) y e in
    let end = ended_sound (moves.Let t.0.0) t.0.1 y t.2 in
    subst (λ y. Fits (move_shape c y) q) end.0 (g (shape.term c.later t.0.0 ∷ []) (field_sound (term_exact c.later) h.close h.rest t.0 t.1 [] end.1))
move_sound c h head.Put q y g e = let s = put_sound c.later h.close h.rest y e in subst (λ y. Fits (move_shape c y) q) s.3 (g (shape.place c.later s.0 ∷ shape.term c.later s.1 ∷ shape.small s.2 ∷ []) s.4)
move_sound c h head.Each q y g e =
    let t = second_sound c.later h.at (each_list c.later h.close h.rest) y e in
    let s = each_sound c.later h.close h.rest y t.1 in
    subst (λ y. Fits (move_shape c y) q) s.3 (so_fits c.later (listed (shape.word (head_name head.Each) ∷ shape.small s.0 ∷ shape.formula c.later s.1 ∷ shape.steps c.later s.2)) q t.0 (g (shape.small s.0 ∷ shape.formula c.later s.1 ∷ shape.steps c.later s.2) s.4))
move_sound c h head.Use q y g e =
    let t = second_sound c.later h.at (lemma_use c h.close h.rest) y e in
    let s = lemma_use_sound c h.close h.rest y t.1 in
    subst (λ y. Fits (move_shape c y) q) s.3 (known_fits c s.0 (ListedBy (shape.term c.later) s.1 ∷ ListedBy shape.small s.2 ∷ []) h head.Use q g t.0 s.4)
move_sound c h k q y g e = heap_is c h k q y g e

pub move_exact : (c : Setting) → Exact (move_in c) (move_shape c)
unfolding move_in move_at move_shape
move_exact c = record { sound = sound; whole = whole_way }
  where
    sound : (q : Part) (y : Move) → move_in c q ≡ Ok y → Fits (move_shape c y) q
    sound q y e =
        let h = bound (headed q) (λ h. move_at c h h.head) y e in
        move_sound c h.0 h.0.head q y (headed_heads q h.0 h.1) h.2

    whole_way : (q : Part) (y : Move) → Fits (move_shape c y) q → move_in c q ≡ Ok y
    whole_way q (moves.Have f0 ss) f = by_head_whole (move_at c) head.Have q (shape.formula c.later f0 ∷ shape.steps c.later ss) (moves.Have f0 ss) f (λ h g. have_whole c.later h.close h.rest f0 ss g)
    whole_way q (moves.Name p) f =
        by_head_whole (move_at c) head.Name q (shape.place c.later p ∷ []) (moves.Name p) f (λ h g.
        let r = field_whole (place_exact c.later) h.close h.rest p [] g in
        goes (field (place_in c.later) h.close h.rest) (λ p. ended (moves.Name p.0) p.1) (p, r.0) (moves.Name p) r.1 (ended_whole (moves.Name p) r.0 r.2))
    whole_way q (moves.Let t) f =
        by_head_whole (move_at c) head.Let q (shape.term c.later t ∷ []) (moves.Let t) f (λ h g.
        let r = field_whole (term_exact c.later) h.close h.rest t [] g in
        goes (field (term_in c.later) h.close h.rest) (λ t. ended (moves.Let t.0) t.1) (t, r.0) (moves.Let t) r.1 (ended_whole (moves.Let t) r.0 r.2))
    whole_way q (moves.Put p t f0) f = by_head_whole (move_at c) head.Put q (shape.place c.later p ∷ shape.term c.later t ∷ shape.small f0 ∷ []) (moves.Put p t f0) f (λ h g. put_whole c.later h.close h.rest p t f0 g)
    whole_way q (moves.Heap m) f =
        let w = heap_whole c.later q m f in
        by_head_whole (move_at c) w.0 q w.1 (moves.Heap m) w.2 (λ h g. w.3 c refl h g ∙ goes (heap_at c.later h w.0) (λ m. Ok (moves.Heap m)) m (moves.Heap m) (w.4 h g) refl)
    whole_way q (moves.Each k f0 ss) f =
        let t = fits_so c.later (listed (shape.word (head_name head.Each) ∷ shape.small k ∷ shape.formula c.later f0 ∷ shape.steps c.later ss)) q f in
        by_head_whole (move_at c) head.Each q (shape.small k ∷ shape.formula c.later f0 ∷ shape.steps c.later ss) (moves.Each k f0 ss) t.1
        (λ h g. second_whole c.later h.at (each_list c.later h.close h.rest) (moves.Each k f0 ss) t.0 (each_whole c.later h.close h.rest k f0 ss g))
    whole_way q (moves.Lemma n ts fs) f =
        let t = fits_so (c.later && is_among c.names n) (listed (shape.word (head_name head.Use) ∷ shape.name n ∷ ListedBy (shape.term c.later) ts ∷ ListedBy shape.small fs ∷ [])) q f in
        let two = both c.later (is_among c.names n) t.0 in
        by_head_whole (move_at c) head.Use q (shape.name n ∷ ListedBy (shape.term c.later) ts ∷ ListedBy shape.small fs ∷ []) (moves.Lemma n ts fs) t.1
        (λ h g. second_whole c.later h.at (lemma_use c h.close h.rest) (moves.Lemma n ts fs) two.0
        (lemma_use_whole c h.close h.rest n ts fs (fits_known c n (ListedBy (shape.term c.later) ts ∷ ListedBy shape.small fs ∷ []) h.rest two.1 g)))

-- takes

take_parts_sound : (c : Setting) (close : ℕ) (ps : Parts) (y : Take) → take_list c close ps ≡ Ok y →
    (ms : List Move) × (w : With) × (record { moves = ms; with = w } ≡ y) × FitAll (ListedBy (move_shape c) ms ∷ with_shape c.later w ∷ []) ps
unfolding take_list
take_parts_sound c close ps y e =
    let r0 = bound (field (list_of (move_in c)) close ps) _ y e in
    let r1 = bound (field (with_in c.later) close r0.0.1) _ y r0.2 in
    let end = ended_sound _ r1.0.1 y r1.2 in
    (r0.0.0, r1.0.0, end.0, field_sound (list_exact (move_exact c)) close ps r0.0 r0.1 (with_shape c.later r1.0.0 ∷ []) (field_sound (with_exact c.later) close r0.0.1 r1.0 r1.1 ([]) (end.1)))

take_parts_whole : (c : Setting) (close : ℕ) (ps : Parts) (ms : List Move) (w : With) → FitAll (ListedBy (move_shape c) ms ∷ with_shape c.later w ∷ []) ps →
    take_list c close ps ≡ Ok (record { moves = ms; with = w })
unfolding take_list
take_parts_whole c close ps ms w fits =
    let r0 = field_whole (list_exact (move_exact c)) close ps ms (with_shape c.later w ∷ []) fits in
    let r1 = field_whole (with_exact c.later) close r0.0 w ([]) r0.2 in
    goes (field (list_of (move_in c)) close ps) _ (ms, r0.0) (record { moves = ms; with = w }) r0.1
    (goes (field (with_in c.later) close r0.0) _ (w, r1.0) (record { moves = ms; with = w }) r1.1
    (ended_whole (record { moves = ms; with = w }) r1.0 r1.2))

abbrev pub TakeParts : Setting → Take → List Shape
TakeParts c t = ListedBy (move_shape c) t.moves ∷ with_shape c.later t.with ∷ []

pub take_rest_sound : (c : Setting) (close : ℕ) (ps : Parts) (t : Take) → take_list c close ps ≡ Ok t → FitAll (TakeParts c t) ps
take_rest_sound c close ps t e = let s = take_parts_sound c close ps t e in subst (λ t. FitAll (TakeParts c t) ps) s.2 s.3

pub take_rest_whole : (c : Setting) (close : ℕ) (ps : Parts) (t : Take) → FitAll (TakeParts c t) ps → take_list c close ps ≡ Ok t
take_rest_whole c close ps t f = take_parts_whole c close ps t.moves t.with f

pub take_exact : (c : Setting) → Exact (take_in c) (take_shape c)
unfolding take_in take_shape
take_exact c = record { sound = sound; whole = whole_way }
  where
    sound : (p : Part) (t : Take) → take_in c p ≡ Ok t → Fits (take_shape c t) p
    sound p t e =
        let l = bound (tagged (codes "take") p) (λ l. take_list c l.1 l.0) t e in
        tagged_sound (codes "take") p l.0 l.1 (TakeParts c t) (take_rest_sound c l.0.1 l.0.0 t l.2)

    whole_way : (p : Part) (t : Take) → Fits (take_shape c t) p → take_in c p ≡ Ok t
    whole_way p t f =
        let l = tagged_whole (codes "take") p (TakeParts c t) f in
        goes (tagged (codes "take") p) (λ l. take_list c l.1 l.0) l.0 t l.1 (take_rest_whole c l.0.1 l.0.0 t l.2)

-- uses

pub both_sound : (later : Bool) (close : ℕ) (ps : Parts) (y : Use) → both_list later close ps ≡ Ok y →
    (v : With) × (w : With) × (used.Both v w ≡ y) × FitAll (with_shape later v ∷ with_shape later w ∷ []) ps
unfolding both_list
both_sound later close ps y e =
    let r0 = bound (field (with_in later) close ps) _ y e in
    let r1 = bound (field (with_in later) close r0.0.1) _ y r0.2 in
    let end = ended_sound _ r1.0.1 y r1.2 in
    (r0.0.0, r1.0.0, end.0, field_sound (with_exact later) close ps r0.0 r0.1 (with_shape later r1.0.0 ∷ []) (field_sound (with_exact later) close r0.0.1 r1.0 r1.1 ([]) (end.1)))

pub both_whole : (later : Bool) (close : ℕ) (ps : Parts) (v : With) (w : With) → FitAll (with_shape later v ∷ with_shape later w ∷ []) ps →
    both_list later close ps ≡ Ok (used.Both v w)
unfolding both_list
both_whole later close ps v w fits =
    let r0 = field_whole (with_exact later) close ps v (with_shape later w ∷ []) fits in
    let r1 = field_whole (with_exact later) close r0.0 w ([]) r0.2 in
    goes (field (with_in later) close ps) _ (v, r0.0) (used.Both v w) r0.1
    (goes (field (with_in later) close r0.0) _ (w, r1.0) (used.Both v w) r1.1
    (ended_whole (used.Both v w) r1.0 r1.2))

pub loop_sound : (later : Bool) (close : ℕ) (ps : Parts) (y : Use) → loop_list later close ps ≡ Ok y →
    (a0 : Assertion) × (w : With) × (used.Loop a0 w ≡ y) × FitAll (assertion_shape later a0 ∷ with_shape later w ∷ []) ps
unfolding loop_list
loop_sound later close ps y e =
    let r0 = bound (field (assertion_in later) close ps) _ y e in
    let r1 = bound (field (with_in later) close r0.0.1) _ y r0.2 in
    let end = ended_sound _ r1.0.1 y r1.2 in
    (r0.0.0, r1.0.0, end.0, field_sound (assertion_exact later) close ps r0.0 r0.1 (with_shape later r1.0.0 ∷ []) (field_sound (with_exact later) close r0.0.1 r1.0 r1.1 ([]) (end.1)))

pub loop_whole : (later : Bool) (close : ℕ) (ps : Parts) (a0 : Assertion) (w : With) → FitAll (assertion_shape later a0 ∷ with_shape later w ∷ []) ps →
    loop_list later close ps ≡ Ok (used.Loop a0 w)
unfolding loop_list
loop_whole later close ps a0 w fits =
    let r0 = field_whole (assertion_exact later) close ps a0 (with_shape later w ∷ []) fits in
    let r1 = field_whole (with_exact later) close r0.0 w ([]) r0.2 in
    goes (field (assertion_in later) close ps) _ (a0, r0.0) (used.Loop a0 w) r0.1
    (goes (field (with_in later) close r0.0) _ (w, r1.0) (used.Loop a0 w) r1.1
    (ended_whole (used.Loop a0 w) r1.0 r1.2))

pub skip_sound : (c : Setting) (close : ℕ) (ps : Parts) (y : Use) → skip_list c close ps ≡ Ok y →
    (a0 : Assertion) × (t : Take) × (used.Skip a0 t ≡ y) × FitAll (assertion_shape c.later a0 ∷ take_shape c t ∷ []) ps
unfolding skip_list
skip_sound c close ps y e =
    let r0 = bound (field (assertion_in c.later) close ps) _ y e in
    let r1 = bound (field (take_in c) close r0.0.1) _ y r0.2 in
    let end = ended_sound _ r1.0.1 y r1.2 in
    (r0.0.0, r1.0.0, end.0, field_sound (assertion_exact c.later) close ps r0.0 r0.1 (take_shape c r1.0.0 ∷ []) (field_sound (take_exact c) close r0.0.1 r1.0 r1.1 ([]) (end.1)))

pub skip_whole : (c : Setting) (close : ℕ) (ps : Parts) (a0 : Assertion) (t : Take) → FitAll (assertion_shape c.later a0 ∷ take_shape c t ∷ []) ps →
    skip_list c close ps ≡ Ok (used.Skip a0 t)
unfolding skip_list
skip_whole c close ps a0 t fits =
    let r0 = field_whole (assertion_exact c.later) close ps a0 (take_shape c t ∷ []) fits in
    let r1 = field_whole (take_exact c) close r0.0 t ([]) r0.2 in
    goes (field (assertion_in c.later) close ps) _ (a0, r0.0) (used.Skip a0 t) r0.1
    (goes (field (take_in c) close r0.0) _ (t, r1.0) (used.Skip a0 t) r1.1
    (ended_whole (used.Skip a0 t) r1.0 r1.2))

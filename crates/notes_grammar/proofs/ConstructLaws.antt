-- Chunks, assertions, moves, uses and what holds them are read exactly.
use Rattle.std.proofs.Common.{◌≡◌, ℕ, Bool, true, false, cond, List, [], ◌∷◌, Result, Ok, refl, ap, ◌∙◌, subst}
use Rattle.std.specs.Prelude.{map, codes}
use Rattle.term_trees.specs.declared.term.Place.{Place}
use Rattle.term_trees.specs.declared.term.Term.{Term}
use Rattle.term_trees.specs.declared.term.Formula.{Formula}
use Rattle.bitvector_rules.specs.declared.step.Step.{Step}
use Rattle.notes.specs.declared.chunk.Chunk.{Chunk}
use Rattle.notes.specs.declared.chunk.Chunk.TheVariants as chunks
use Rattle.notes.specs.declared.heap_move.HeapMove.{HeapMove}
use Rattle.notes.specs.declared.heap_move.HeapMove.TheVariants as heap
use Rattle.notes.specs.declared.assertion.Assertion.{Assertion}
use Rattle.notes.specs.declared.uses.With.{With}
use Rattle.notes.specs.declared.moves.Move.{Move}
use Rattle.notes.specs.declared.moves.Move.TheVariants as moves
use Rattle.sexp_text.specs.declared.fault.TextFault.{TextFault}
use Rattle.sexp_text.specs.declared.fault.TextWord.TheVariants as fault
use Rattle.sexp_text.specs.Reading.{◌>>=◌, refused}
use Rattle.notes_grammar.specs.declared.head.Head.{Head}
use Rattle.notes_grammar.specs.declared.head.Head.TheVariants as head
use Rattle.notes_grammar.specs.Parts.{Part, Parts, Name}
use Rattle.notes_grammar.specs.Parts as part
use Rattle.notes_grammar.specs.Shapes.{Shape, Setting, listed, where_so, is_among, chunk as chunk_shape, assertion as assertion_shape, with as with_shape, heap_move as heap_shape}
use Rattle.notes_grammar.specs.Shapes as shape
use Rattle.notes_grammar.specs.Words.{head_name}
use Rattle.notes_grammar.specs.Reading.{field, list_of, small, width, Headed, headed, tagged, place_in, term_in, formula_in, steps_in, row_list, cell_list, region_list, chunk_at, chunk_in, assertion_in, with_list, with_in, one_small, three_small, small_term_small, small_term_two, enrow_list, rows_list, heap_at, name_in, known_name, have_list, put_list, each_list, move_at}
use Rattle.notes_grammar.proofs.Exactness.{no_form, bound, goes, Fits, FitAll, so_fits, fits_so, Exact, field_sound, field_whole, ended_sound, ended_whole, list_exact, tagged_sound, tagged_whole}
use Rattle.notes_grammar.proofs.LeafLaws.{small_exact, width_exact, name_exact, second_sound, second_whole, Heads, headed_heads, by_head_whole, place_exact}
use Rattle.notes_grammar.proofs.TermLaws.{term_exact, formula_exact}
use Rattle.notes_grammar.proofs.StepLaws.{derivation_sound, derivation_whole}

ok_same : {A : Type 0} (x y : A) → ◌≡◌ {A = Result A TextFault} (Ok x) (Ok y) → x ≡ y
ok_same x y e = cc

abbrev pub ListedBy : {A : Type 0} → (A → Shape) → List A → Shape
ListedBy shape xs = listed (map shape xs)

-- chunks

row_sound : (later : Bool) (close : ℕ) (ps : Parts) (y : Chunk) → row_list later close ps ≡ Ok y →
    (w : ℕ) × (a : Term) × (n : Term) × (f : Formula) × (chunks.Row w a n f ≡ y) × FitAll (shape.width w ∷ shape.term later a ∷ shape.term later n ∷ shape.formula later f ∷ []) ps
unfolding row_list
row_sound later close ps y e =
    let r0 = bound (field width close ps) _ y e in
    let r1 = bound (field (term_in later) close r0.0.1) _ y r0.2 in
    let r2 = bound (field (term_in later) close r1.0.1) _ y r1.2 in
    let r3 = bound (field (formula_in later) close r2.0.1) _ y r2.2 in
    let end = ended_sound _ r3.0.1 y r3.2 in
    (r0.0.0, r1.0.0, r2.0.0, r3.0.0, end.0, field_sound width_exact close ps r0.0 r0.1 (shape.term later r1.0.0 ∷ shape.term later r2.0.0 ∷ shape.formula later r3.0.0 ∷ []) (field_sound (term_exact later) close r0.0.1 r1.0 r1.1 (shape.term later r2.0.0 ∷ shape.formula later r3.0.0 ∷ []) (field_sound (term_exact later) close r1.0.1 r2.0 r2.1 (shape.formula later r3.0.0 ∷ []) (field_sound (formula_exact later) close r2.0.1 r3.0 r3.1 ([]) (end.1)))))

row_whole : (later : Bool) (close : ℕ) (ps : Parts) (w : ℕ) (a : Term) (n : Term) (f : Formula) → FitAll (shape.width w ∷ shape.term later a ∷ shape.term later n ∷ shape.formula later f ∷ []) ps →
    row_list later close ps ≡ Ok (chunks.Row w a n f)
unfolding row_list
row_whole later close ps w a n f fits =
    let r0 = field_whole width_exact close ps w (shape.term later a ∷ shape.term later n ∷ shape.formula later f ∷ []) fits in
    let r1 = field_whole (term_exact later) close r0.0 a (shape.term later n ∷ shape.formula later f ∷ []) r0.2 in
    let r2 = field_whole (term_exact later) close r1.0 n (shape.formula later f ∷ []) r1.2 in
    let r3 = field_whole (formula_exact later) close r2.0 f ([]) r2.2 in
    goes (field width close ps) _ (w, r0.0) (chunks.Row w a n f) r0.1
    (goes (field (term_in later) close r0.0) _ (a, r1.0) (chunks.Row w a n f) r1.1
    (goes (field (term_in later) close r1.0) _ (n, r2.0) (chunks.Row w a n f) r2.1
    (goes (field (formula_in later) close r2.0) _ (f, r3.0) (chunks.Row w a n f) r3.1
    (ended_whole (chunks.Row w a n f) r3.0 r3.2))))

cell_sound : (later : Bool) (close : ℕ) (ps : Parts) (y : Chunk) → cell_list later close ps ≡ Ok y →
    (w : ℕ) × (a : Term) × (v : Term) × (chunks.Cell w a v ≡ y) × FitAll (shape.width w ∷ shape.term later a ∷ shape.term later v ∷ []) ps
unfolding cell_list
cell_sound later close ps y e =
    let r0 = bound (field width close ps) _ y e in
    let r1 = bound (field (term_in later) close r0.0.1) _ y r0.2 in
    let r2 = bound (field (term_in later) close r1.0.1) _ y r1.2 in
    let end = ended_sound _ r2.0.1 y r2.2 in
    (r0.0.0, r1.0.0, r2.0.0, end.0, field_sound width_exact close ps r0.0 r0.1 (shape.term later r1.0.0 ∷ shape.term later r2.0.0 ∷ []) (field_sound (term_exact later) close r0.0.1 r1.0 r1.1 (shape.term later r2.0.0 ∷ []) (field_sound (term_exact later) close r1.0.1 r2.0 r2.1 ([]) (end.1))))

cell_whole : (later : Bool) (close : ℕ) (ps : Parts) (w : ℕ) (a : Term) (v : Term) → FitAll (shape.width w ∷ shape.term later a ∷ shape.term later v ∷ []) ps →
    cell_list later close ps ≡ Ok (chunks.Cell w a v)
unfolding cell_list
cell_whole later close ps w a v fits =
    let r0 = field_whole width_exact close ps w (shape.term later a ∷ shape.term later v ∷ []) fits in
    let r1 = field_whole (term_exact later) close r0.0 a (shape.term later v ∷ []) r0.2 in
    let r2 = field_whole (term_exact later) close r1.0 v ([]) r1.2 in
    goes (field width close ps) _ (w, r0.0) (chunks.Cell w a v) r0.1
    (goes (field (term_in later) close r0.0) _ (a, r1.0) (chunks.Cell w a v) r1.1
    (goes (field (term_in later) close r1.0) _ (v, r2.0) (chunks.Cell w a v) r2.1
    (ended_whole (chunks.Cell w a v) r2.0 r2.2)))

region_sound : (later : Bool) (close : ℕ) (ps : Parts) (y : Chunk) → region_list later close ps ≡ Ok y →
    (a : Term) × (n : Term) × (chunks.Region a n ≡ y) × FitAll (shape.term later a ∷ shape.term later n ∷ []) ps
unfolding region_list
region_sound later close ps y e =
    let r0 = bound (field (term_in later) close ps) _ y e in
    let r1 = bound (field (term_in later) close r0.0.1) _ y r0.2 in
    let end = ended_sound _ r1.0.1 y r1.2 in
    (r0.0.0, r1.0.0, end.0, field_sound (term_exact later) close ps r0.0 r0.1 (shape.term later r1.0.0 ∷ []) (field_sound (term_exact later) close r0.0.1 r1.0 r1.1 ([]) (end.1)))

region_whole : (later : Bool) (close : ℕ) (ps : Parts) (a : Term) (n : Term) → FitAll (shape.term later a ∷ shape.term later n ∷ []) ps →
    region_list later close ps ≡ Ok (chunks.Region a n)
unfolding region_list
region_whole later close ps a n fits =
    let r0 = field_whole (term_exact later) close ps a (shape.term later n ∷ []) fits in
    let r1 = field_whole (term_exact later) close r0.0 n ([]) r0.2 in
    goes (field (term_in later) close ps) _ (a, r0.0) (chunks.Region a n) r0.1
    (goes (field (term_in later) close r0.0) _ (n, r1.0) (chunks.Region a n) r1.1
    (ended_whole (chunks.Region a n) r1.0 r1.2))

chunk_sound : (later : Bool) (h : Headed) (k : Head) (q : Part) (y : Chunk) → Heads h k q → chunk_at later h k ≡ Ok y → Fits (chunk_shape later y) q
unfolding chunk_at chunk_shape
chunk_sound later h head.Cell q y g e =
    let s = cell_sound later h.close h.rest y e in
    subst (λ y. Fits (chunk_shape later y) q) s.3 (g (shape.width s.0 ∷ shape.term later s.1 ∷ shape.term later s.2 ∷ []) s.4)
chunk_sound later h head.Region q y g e =
    let s = region_sound later h.close h.rest y e in
    subst (λ y. Fits (chunk_shape later y) q) s.2 (g (shape.term later s.0 ∷ shape.term later s.1 ∷ []) s.3)
chunk_sound later h head.Row q y g e =
    let t = second_sound later h.at (row_list later h.close h.rest) y e in
    let s = row_sound later h.close h.rest y t.1 in
    subst (λ y. Fits (chunk_shape later y) q) s.4 (so_fits later (listed (shape.word (head_name head.Row) ∷ shape.width s.0 ∷ shape.term later s.1 ∷ shape.term later s.2 ∷ shape.formula later s.3 ∷ [])) q t.0 (g (shape.width s.0 ∷ shape.term later s.1 ∷ shape.term later s.2 ∷ shape.formula later s.3 ∷ []) s.5))
chunk_sound later h k q y g e = absurd (no_form h.at y e)

pub chunk_exact : (later : Bool) → Exact (chunk_in later) (chunk_shape later)
unfolding chunk_in chunk_at chunk_shape
chunk_exact later = record { sound = sound; whole = whole_way }
  where
    sound : (q : Part) (y : Chunk) → chunk_in later q ≡ Ok y → Fits (chunk_shape later y) q
    sound q y e =
        let h = bound (headed q) (λ h. chunk_at later h h.head) y e in
        chunk_sound later h.0 h.0.head q y (headed_heads q h.0 h.1) h.2

    whole_way : (q : Part) (y : Chunk) → Fits (chunk_shape later y) q → chunk_in later q ≡ Ok y
    whole_way q (chunks.Cell w a v) f = by_head_whole (chunk_at later) head.Cell q (shape.width w ∷ shape.term later a ∷ shape.term later v ∷ []) (chunks.Cell w a v) f (λ h g. cell_whole later h.close h.rest w a v g)
    whole_way q (chunks.Region a n) f = by_head_whole (chunk_at later) head.Region q (shape.term later a ∷ shape.term later n ∷ []) (chunks.Region a n) f (λ h g. region_whole later h.close h.rest a n g)
    whole_way q (chunks.Row w a n f0) f =
        let t = fits_so later (listed (shape.word (head_name head.Row) ∷ shape.width w ∷ shape.term later a ∷ shape.term later n ∷ shape.formula later f0 ∷ [])) q f in
        by_head_whole (chunk_at later) head.Row q (shape.width w ∷ shape.term later a ∷ shape.term later n ∷ shape.formula later f0 ∷ []) (chunks.Row w a n f0) t.1
        (λ h g. second_whole later h.at (row_list later h.close h.rest) (chunks.Row w a n f0) t.0 (row_whole later h.close h.rest w a n f0 g))

pub assertion_exact : (later : Bool) → Exact (assertion_in later) (assertion_shape later)
unfolding assertion_in assertion_shape
assertion_exact later = record { sound = sound; whole = whole_way }
  where
    sound : (p : Part) (a : Assertion) → assertion_in later p ≡ Ok a → Fits (assertion_shape later a) p
    sound p a e =
        let l = bound (tagged (codes "assert") p) _ a e in
        let r0 = bound (field small l.0.1 l.0.0) _ a l.2 in
        let r1 = bound (field (list_of (formula_in later)) l.0.1 r0.0.1) _ a r0.2 in
        let r2 = bound (field (list_of (chunk_in later)) l.0.1 r1.0.1) _ a r1.2 in
        let end = ended_sound _ r2.0.1 a r2.2 in
        subst (λ z. Fits (assertion_shape later z) p) end.0 (tagged_sound (codes "assert") p l.0 l.1 (shape.small r0.0.0 ∷ ListedBy (shape.formula later) r1.0.0 ∷ ListedBy (chunk_shape later) r2.0.0 ∷ []) (field_sound small_exact l.0.1 l.0.0 r0.0 r0.1 (ListedBy (shape.formula later) r1.0.0 ∷ ListedBy (chunk_shape later) r2.0.0 ∷ []) (field_sound (list_exact (formula_exact later)) l.0.1 r0.0.1 r1.0 r1.1 (ListedBy (chunk_shape later) r2.0.0 ∷ []) (field_sound (list_exact (chunk_exact later)) l.0.1 r1.0.1 r2.0 r2.1 ([]) (end.1)))))

    whole_way : (p : Part) (a : Assertion) → Fits (assertion_shape later a) p → assertion_in later p ≡ Ok a
    whole_way p a fits =
        let l = tagged_whole (codes "assert") p (shape.small a.own ∷ ListedBy (shape.formula later) a.formulas ∷ ListedBy (chunk_shape later) a.chunks ∷ []) fits in
        let r0 = field_whole small_exact l.0.1 l.0.0 a.own (ListedBy (shape.formula later) a.formulas ∷ ListedBy (chunk_shape later) a.chunks ∷ []) l.2 in
        let r1 = field_whole (list_exact (formula_exact later)) l.0.1 r0.0 a.formulas (ListedBy (chunk_shape later) a.chunks ∷ []) r0.2 in
        let r2 = field_whole (list_exact (chunk_exact later)) l.0.1 r1.0 a.chunks ([]) r1.2 in
        goes (tagged (codes "assert") p) _ l.0 a l.1
        (goes (field small l.0.1 l.0.0) _ (a.own, r0.0) a r0.1
        (goes (field (list_of (formula_in later)) l.0.1 r0.0) _ (a.formulas, r1.0) a r1.1
        (goes (field (list_of (chunk_in later)) l.0.1 r1.0) _ (a.chunks, r2.0) a r2.1
        (ended_whole a r2.0 r2.2))))

with_parts_sound : (later : Bool) (close : ℕ) (ps : Parts) (y : With) → with_list later close ps ≡ Ok y →
    (ts : List Term) × (fs : List ℕ) × (cs : List ℕ) × (record { terms = ts; facts = fs; chunks = cs } ≡ y) × FitAll (ListedBy (shape.term later) ts ∷ ListedBy (shape.small) fs ∷ ListedBy (shape.small) cs ∷ []) ps
unfolding with_list
with_parts_sound later close ps y e =
    let r0 = bound (field (list_of (term_in later)) close ps) _ y e in
    let r1 = bound (field (list_of small) close r0.0.1) _ y r0.2 in
    let r2 = bound (field (list_of small) close r1.0.1) _ y r1.2 in
    let end = ended_sound _ r2.0.1 y r2.2 in
    (r0.0.0, r1.0.0, r2.0.0, end.0, field_sound (list_exact (term_exact later)) close ps r0.0 r0.1 (ListedBy (shape.small) r1.0.0 ∷ ListedBy (shape.small) r2.0.0 ∷ []) (field_sound (list_exact small_exact) close r0.0.1 r1.0 r1.1 (ListedBy (shape.small) r2.0.0 ∷ []) (field_sound (list_exact small_exact) close r1.0.1 r2.0 r2.1 ([]) (end.1))))

with_parts_whole : (later : Bool) (close : ℕ) (ps : Parts) (ts : List Term) (fs : List ℕ) (cs : List ℕ) → FitAll (ListedBy (shape.term later) ts ∷ ListedBy (shape.small) fs ∷ ListedBy (shape.small) cs ∷ []) ps →
    with_list later close ps ≡ Ok (record { terms = ts; facts = fs; chunks = cs })
unfolding with_list
with_parts_whole later close ps ts fs cs fits =
    let r0 = field_whole (list_exact (term_exact later)) close ps ts (ListedBy (shape.small) fs ∷ ListedBy (shape.small) cs ∷ []) fits in
    let r1 = field_whole (list_exact small_exact) close r0.0 fs (ListedBy (shape.small) cs ∷ []) r0.2 in
    let r2 = field_whole (list_exact small_exact) close r1.0 cs ([]) r1.2 in
    goes (field (list_of (term_in later)) close ps) _ (ts, r0.0) (record { terms = ts; facts = fs; chunks = cs }) r0.1
    (goes (field (list_of small) close r0.0) _ (fs, r1.0) (record { terms = ts; facts = fs; chunks = cs }) r1.1
    (goes (field (list_of small) close r1.0) _ (cs, r2.0) (record { terms = ts; facts = fs; chunks = cs }) r2.1
    (ended_whole (record { terms = ts; facts = fs; chunks = cs }) r2.0 r2.2)))

pub one_sound : (close : ℕ) (ps : Parts) (y : ℕ) → one_small close ps ≡ Ok y →
    (c : ℕ) × (c ≡ y) × FitAll (shape.small c ∷ []) ps
unfolding one_small
one_sound close ps y e =
    let r0 = bound (field small close ps) _ y e in
    let end = ended_sound _ r0.0.1 y r0.2 in
    (r0.0.0, end.0, field_sound small_exact close ps r0.0 r0.1 ([]) (end.1))

pub one_whole : (close : ℕ) (ps : Parts) (c : ℕ) → FitAll (shape.small c ∷ []) ps →
    one_small close ps ≡ Ok (c)
unfolding one_small
one_whole close ps c fits =
    let r0 = field_whole small_exact close ps c ([]) fits in
    goes (field small close ps) _ (c, r0.0) (c) r0.1
    (ended_whole (c) r0.0 r0.2)

three_sound : (close : ℕ) (ps : Parts) (y : ℕ × ℕ × ℕ) → three_small close ps ≡ Ok y →
    (c : ℕ) × (d : ℕ) × (f : ℕ) × ((c, d, f) ≡ y) × FitAll (shape.small c ∷ shape.small d ∷ shape.small f ∷ []) ps
unfolding three_small
three_sound close ps y e =
    let r0 = bound (field small close ps) _ y e in
    let r1 = bound (field small close r0.0.1) _ y r0.2 in
    let r2 = bound (field small close r1.0.1) _ y r1.2 in
    let end = ended_sound _ r2.0.1 y r2.2 in
    (r0.0.0, r1.0.0, r2.0.0, end.0, field_sound small_exact close ps r0.0 r0.1 (shape.small r1.0.0 ∷ shape.small r2.0.0 ∷ []) (field_sound small_exact close r0.0.1 r1.0 r1.1 (shape.small r2.0.0 ∷ []) (field_sound small_exact close r1.0.1 r2.0 r2.1 ([]) (end.1))))

three_whole : (close : ℕ) (ps : Parts) (c : ℕ) (d : ℕ) (f : ℕ) → FitAll (shape.small c ∷ shape.small d ∷ shape.small f ∷ []) ps →
    three_small close ps ≡ Ok (c, d, f)
unfolding three_small
three_whole close ps c d f fits =
    let r0 = field_whole small_exact close ps c (shape.small d ∷ shape.small f ∷ []) fits in
    let r1 = field_whole small_exact close r0.0 d (shape.small f ∷ []) r0.2 in
    let r2 = field_whole small_exact close r1.0 f ([]) r1.2 in
    goes (field small close ps) _ (c, r0.0) (c, d, f) r0.1
    (goes (field small close r0.0) _ (d, r1.0) (c, d, f) r1.1
    (goes (field small close r1.0) _ (f, r2.0) (c, d, f) r2.1
    (ended_whole (c, d, f) r2.0 r2.2)))

term_one_sound : (later : Bool) (close : ℕ) (ps : Parts) (y : ℕ × Term × ℕ) → small_term_small later close ps ≡ Ok y →
    (c : ℕ) × (t : Term) × (f : ℕ) × ((c, t, f) ≡ y) × FitAll (shape.small c ∷ shape.term later t ∷ shape.small f ∷ []) ps
unfolding small_term_small
term_one_sound later close ps y e =
    let r0 = bound (field small close ps) _ y e in
    let r1 = bound (field (term_in later) close r0.0.1) _ y r0.2 in
    let r2 = bound (field small close r1.0.1) _ y r1.2 in
    let end = ended_sound _ r2.0.1 y r2.2 in
    (r0.0.0, r1.0.0, r2.0.0, end.0, field_sound small_exact close ps r0.0 r0.1 (shape.term later r1.0.0 ∷ shape.small r2.0.0 ∷ []) (field_sound (term_exact later) close r0.0.1 r1.0 r1.1 (shape.small r2.0.0 ∷ []) (field_sound small_exact close r1.0.1 r2.0 r2.1 ([]) (end.1))))

term_one_whole : (later : Bool) (close : ℕ) (ps : Parts) (c : ℕ) (t : Term) (f : ℕ) → FitAll (shape.small c ∷ shape.term later t ∷ shape.small f ∷ []) ps →
    small_term_small later close ps ≡ Ok (c, t, f)
unfolding small_term_small
term_one_whole later close ps c t f fits =
    let r0 = field_whole small_exact close ps c (shape.term later t ∷ shape.small f ∷ []) fits in
    let r1 = field_whole (term_exact later) close r0.0 t (shape.small f ∷ []) r0.2 in
    let r2 = field_whole small_exact close r1.0 f ([]) r1.2 in
    goes (field small close ps) _ (c, r0.0) (c, t, f) r0.1
    (goes (field (term_in later) close r0.0) _ (t, r1.0) (c, t, f) r1.1
    (goes (field small close r1.0) _ (f, r2.0) (c, t, f) r2.1
    (ended_whole (c, t, f) r2.0 r2.2)))

term_two_sound : (later : Bool) (close : ℕ) (ps : Parts) (y : ℕ × Term × ℕ × ℕ) → small_term_two later close ps ≡ Ok y →
    (c : ℕ) × (t : Term) × (f : ℕ) × (g : ℕ) × ((c, t, f, g) ≡ y) × FitAll (shape.small c ∷ shape.term later t ∷ shape.small f ∷ shape.small g ∷ []) ps
unfolding small_term_two
term_two_sound later close ps y e =
    let r0 = bound (field small close ps) _ y e in
    let r1 = bound (field (term_in later) close r0.0.1) _ y r0.2 in
    let r2 = bound (field small close r1.0.1) _ y r1.2 in
    let r3 = bound (field small close r2.0.1) _ y r2.2 in
    let end = ended_sound _ r3.0.1 y r3.2 in
    (r0.0.0, r1.0.0, r2.0.0, r3.0.0, end.0, field_sound small_exact close ps r0.0 r0.1 (shape.term later r1.0.0 ∷ shape.small r2.0.0 ∷ shape.small r3.0.0 ∷ []) (field_sound (term_exact later) close r0.0.1 r1.0 r1.1 (shape.small r2.0.0 ∷ shape.small r3.0.0 ∷ []) (field_sound small_exact close r1.0.1 r2.0 r2.1 (shape.small r3.0.0 ∷ []) (field_sound small_exact close r2.0.1 r3.0 r3.1 ([]) (end.1)))))

term_two_whole : (later : Bool) (close : ℕ) (ps : Parts) (c : ℕ) (t : Term) (f : ℕ) (g : ℕ) → FitAll (shape.small c ∷ shape.term later t ∷ shape.small f ∷ shape.small g ∷ []) ps →
    small_term_two later close ps ≡ Ok (c, t, f, g)
unfolding small_term_two
term_two_whole later close ps c t f g fits =
    let r0 = field_whole small_exact close ps c (shape.term later t ∷ shape.small f ∷ shape.small g ∷ []) fits in
    let r1 = field_whole (term_exact later) close r0.0 t (shape.small f ∷ shape.small g ∷ []) r0.2 in
    let r2 = field_whole small_exact close r1.0 f (shape.small g ∷ []) r1.2 in
    let r3 = field_whole small_exact close r2.0 g ([]) r2.2 in
    goes (field small close ps) _ (c, r0.0) (c, t, f, g) r0.1
    (goes (field (term_in later) close r0.0) _ (t, r1.0) (c, t, f, g) r1.1
    (goes (field small close r1.0) _ (f, r2.0) (c, t, f, g) r2.1
    (goes (field small close r2.0) _ (g, r3.0) (c, t, f, g) r3.1
    (ended_whole (c, t, f, g) r3.0 r3.2))))

enrow_sound : (later : Bool) (close : ℕ) (ps : Parts) (y : HeapMove) → enrow_list later close ps ≡ Ok y →
    (c : ℕ) × (e0 : Formula) × (f : ℕ) × (heap.Enrow c e0 f ≡ y) × FitAll (shape.small c ∷ shape.formula later e0 ∷ shape.small f ∷ []) ps
unfolding enrow_list
enrow_sound later close ps y e =
    let r0 = bound (field small close ps) _ y e in
    let r1 = bound (field (formula_in later) close r0.0.1) _ y r0.2 in
    let r2 = bound (field small close r1.0.1) _ y r1.2 in
    let end = ended_sound _ r2.0.1 y r2.2 in
    (r0.0.0, r1.0.0, r2.0.0, end.0, field_sound small_exact close ps r0.0 r0.1 (shape.formula later r1.0.0 ∷ shape.small r2.0.0 ∷ []) (field_sound (formula_exact later) close r0.0.1 r1.0 r1.1 (shape.small r2.0.0 ∷ []) (field_sound small_exact close r1.0.1 r2.0 r2.1 ([]) (end.1))))

enrow_whole : (later : Bool) (close : ℕ) (ps : Parts) (c : ℕ) (e0 : Formula) (f : ℕ) → FitAll (shape.small c ∷ shape.formula later e0 ∷ shape.small f ∷ []) ps →
    enrow_list later close ps ≡ Ok (heap.Enrow c e0 f)
unfolding enrow_list
enrow_whole later close ps c e0 f fits =
    let r0 = field_whole small_exact close ps c (shape.formula later e0 ∷ shape.small f ∷ []) fits in
    let r1 = field_whole (formula_exact later) close r0.0 e0 (shape.small f ∷ []) r0.2 in
    let r2 = field_whole small_exact close r1.0 f ([]) r1.2 in
    goes (field small close ps) _ (c, r0.0) (heap.Enrow c e0 f) r0.1
    (goes (field (formula_in later) close r0.0) _ (e0, r1.0) (heap.Enrow c e0 f) r1.1
    (goes (field small close r1.0) _ (f, r2.0) (heap.Enrow c e0 f) r2.1
    (ended_whole (heap.Enrow c e0 f) r2.0 r2.2)))

rows_sound : (later : Bool) (close : ℕ) (ps : Parts) (y : HeapMove) → rows_list later close ps ≡ Ok y →
    (c : ℕ) × (w : ℕ) × (e0 : Formula) × (heap.Rows c w e0 ≡ y) × FitAll (shape.small c ∷ shape.width w ∷ shape.formula later e0 ∷ []) ps
unfolding rows_list
rows_sound later close ps y e =
    let r0 = bound (field small close ps) _ y e in
    let r1 = bound (field width close r0.0.1) _ y r0.2 in
    let r2 = bound (field (formula_in later) close r1.0.1) _ y r1.2 in
    let end = ended_sound _ r2.0.1 y r2.2 in
    (r0.0.0, r1.0.0, r2.0.0, end.0, field_sound small_exact close ps r0.0 r0.1 (shape.width r1.0.0 ∷ shape.formula later r2.0.0 ∷ []) (field_sound width_exact close r0.0.1 r1.0 r1.1 (shape.formula later r2.0.0 ∷ []) (field_sound (formula_exact later) close r1.0.1 r2.0 r2.1 ([]) (end.1))))

rows_whole : (later : Bool) (close : ℕ) (ps : Parts) (c : ℕ) (w : ℕ) (e0 : Formula) → FitAll (shape.small c ∷ shape.width w ∷ shape.formula later e0 ∷ []) ps →
    rows_list later close ps ≡ Ok (heap.Rows c w e0)
unfolding rows_list
rows_whole later close ps c w e0 fits =
    let r0 = field_whole small_exact close ps c (shape.width w ∷ shape.formula later e0 ∷ []) fits in
    let r1 = field_whole width_exact close r0.0 w (shape.formula later e0 ∷ []) r0.2 in
    let r2 = field_whole (formula_exact later) close r1.0 e0 ([]) r1.2 in
    goes (field small close ps) _ (c, r0.0) (heap.Rows c w e0) r0.1
    (goes (field width close r0.0) _ (w, r1.0) (heap.Rows c w e0) r1.1
    (goes (field (formula_in later) close r1.0) _ (e0, r2.0) (heap.Rows c w e0) r2.1
    (ended_whole (heap.Rows c w e0) r2.0 r2.2)))

pub put_sound : (later : Bool) (close : ℕ) (ps : Parts) (y : Move) → put_list later close ps ≡ Ok y →
    (p0 : Place) × (t : Term) × (f : ℕ) × (moves.Put p0 t f ≡ y) × FitAll (shape.place later p0 ∷ shape.term later t ∷ shape.small f ∷ []) ps
unfolding put_list
put_sound later close ps y e =
    let r0 = bound (field (place_in later) close ps) _ y e in
    let r1 = bound (field (term_in later) close r0.0.1) _ y r0.2 in
    let r2 = bound (field small close r1.0.1) _ y r1.2 in
    let end = ended_sound _ r2.0.1 y r2.2 in
    (r0.0.0, r1.0.0, r2.0.0, end.0, field_sound (place_exact later) close ps r0.0 r0.1 (shape.term later r1.0.0 ∷ shape.small r2.0.0 ∷ []) (field_sound (term_exact later) close r0.0.1 r1.0 r1.1 (shape.small r2.0.0 ∷ []) (field_sound small_exact close r1.0.1 r2.0 r2.1 ([]) (end.1))))

pub put_whole : (later : Bool) (close : ℕ) (ps : Parts) (p0 : Place) (t : Term) (f : ℕ) → FitAll (shape.place later p0 ∷ shape.term later t ∷ shape.small f ∷ []) ps →
    put_list later close ps ≡ Ok (moves.Put p0 t f)
unfolding put_list
put_whole later close ps p0 t f fits =
    let r0 = field_whole (place_exact later) close ps p0 (shape.term later t ∷ shape.small f ∷ []) fits in
    let r1 = field_whole (term_exact later) close r0.0 t (shape.small f ∷ []) r0.2 in
    let r2 = field_whole small_exact close r1.0 f ([]) r1.2 in
    goes (field (place_in later) close ps) _ (p0, r0.0) (moves.Put p0 t f) r0.1
    (goes (field (term_in later) close r0.0) _ (t, r1.0) (moves.Put p0 t f) r1.1
    (goes (field small close r1.0) _ (f, r2.0) (moves.Put p0 t f) r2.1
    (ended_whole (moves.Put p0 t f) r2.0 r2.2)))

abbrev pub WithParts : Bool → With → List Shape
WithParts later w = ListedBy (shape.term later) w.terms ∷ ListedBy shape.small w.facts ∷ ListedBy shape.small w.chunks ∷ []

pub with_rest_sound : (later : Bool) (close : ℕ) (ps : Parts) (w : With) → with_list later close ps ≡ Ok w → FitAll (WithParts later w) ps
with_rest_sound later close ps w e = let s = with_parts_sound later close ps w e in subst (λ w. FitAll (WithParts later w) ps) s.3 s.4

pub with_rest_whole : (later : Bool) (close : ℕ) (ps : Parts) (w : With) → FitAll (WithParts later w) ps → with_list later close ps ≡ Ok w
with_rest_whole later close ps w f = with_parts_whole later close ps w.terms w.facts w.chunks f

pub with_exact : (later : Bool) → Exact (with_in later) (with_shape later)
unfolding with_in with_shape
with_exact later = record { sound = sound; whole = whole_way }
  where
    sound : (p : Part) (w : With) → with_in later p ≡ Ok w → Fits (with_shape later w) p
    sound p w e =
        let l = bound (tagged (codes "with") p) (λ l. with_list later l.1 l.0) w e in
        tagged_sound (codes "with") p l.0 l.1 (WithParts later w) (with_rest_sound later l.0.1 l.0.0 w l.2)

    whole_way : (p : Part) (w : With) → Fits (with_shape later w) p → with_in later p ≡ Ok w
    whole_way p w f =
        let l = tagged_whole (codes "with") p (WithParts later w) f in
        goes (tagged (codes "with") p) (λ l. with_list later l.1 l.0) l.0 w l.1 (with_rest_whole later l.0.1 l.0.0 w l.2)

-- moves on chunks

pub heap_sound : (later : Bool) (h : Headed) (k : Head) (q : Part) (y : HeapMove) → Heads h k q → heap_at later h k ≡ Ok y → Fits (heap_shape later y) q
unfolding heap_at heap_shape
heap_sound later h head.Split q y g e =
    let x = bound (small_term_two later h.close h.rest) (λ x. Ok (heap.Split x.0 x.1 x.2 x.3)) y e in
    let s = term_two_sound later h.close h.rest x.0 x.1 in
    let same : (heap.Split s.0 s.1 s.2 s.3) ≡ y = ap (λ x. (heap.Split x.0 x.1 x.2 x.3)) s.4 ∙ ok_same _ y x.2 in
    subst (λ y. Fits (heap_shape later y) q) same (g (shape.small s.0 ∷ shape.term later s.1 ∷ shape.small s.2 ∷ shape.small s.3 ∷ []) s.5)
heap_sound later h head.Merge q y g e =
    let x = bound (three_small h.close h.rest) (λ x. Ok (heap.Merge x.0 x.1 x.2)) y e in
    let s = three_sound h.close h.rest x.0 x.1 in
    let same : (heap.Merge s.0 s.1 s.2) ≡ y = ap (λ x. (heap.Merge x.0 x.1 x.2)) s.3 ∙ ok_same _ y x.2 in
    subst (λ y. Fits (heap_shape later y) q) same (g (shape.small s.0 ∷ shape.small s.1 ∷ shape.small s.2 ∷ []) s.4)
heap_sound later h head.Forget q y g e =
    let x = bound (one_small h.close h.rest) (λ x. Ok (heap.Forget x)) y e in
    let s = one_sound h.close h.rest x.0 x.1 in
    let same : (heap.Forget s.0) ≡ y = ap (λ x. (heap.Forget x)) s.1 ∙ ok_same _ y x.2 in
    subst (λ y. Fits (heap_shape later y) q) same (g (shape.small s.0 ∷ []) s.2)
heap_sound later h head.View q y g e =
    let x = bound (one_small h.close h.rest) (λ x. Ok (heap.View x)) y e in
    let s = one_sound h.close h.rest x.0 x.1 in
    let same : (heap.View s.0) ≡ y = ap (λ x. (heap.View x)) s.1 ∙ ok_same _ y x.2 in
    subst (λ y. Fits (heap_shape later y) q) same (g (shape.small s.0 ∷ []) s.2)
heap_sound later h head.Halve q y g e =
    let x = bound (one_small h.close h.rest) (λ x. Ok (heap.Halve x)) y e in
    let s = one_sound h.close h.rest x.0 x.1 in
    let same : (heap.Halve s.0) ≡ y = ap (λ x. (heap.Halve x)) s.1 ∙ ok_same _ y x.2 in
    subst (λ y. Fits (heap_shape later y) q) same (g (shape.small s.0 ∷ []) s.2)
heap_sound later h head.Unite q y g e =
    let x = bound (three_small h.close h.rest) (λ x. Ok (heap.Unite x.0 x.1 x.2)) y e in
    let s = three_sound h.close h.rest x.0 x.1 in
    let same : (heap.Unite s.0 s.1 s.2) ≡ y = ap (λ x. (heap.Unite x.0 x.1 x.2)) s.3 ∙ ok_same _ y x.2 in
    subst (λ y. Fits (heap_shape later y) q) same (g (shape.small s.0 ∷ shape.small s.1 ∷ shape.small s.2 ∷ []) s.4)
heap_sound later h head.Readdr q y g e =
    let x = bound (small_term_small later h.close h.rest) (λ x. Ok (heap.Readdr x.0 x.1 x.2)) y e in
    let s = term_one_sound later h.close h.rest x.0 x.1 in
    let same : (heap.Readdr s.0 s.1 s.2) ≡ y = ap (λ x. (heap.Readdr x.0 x.1 x.2)) s.3 ∙ ok_same _ y x.2 in
    subst (λ y. Fits (heap_shape later y) q) same (g (shape.small s.0 ∷ shape.term later s.1 ∷ shape.small s.2 ∷ []) s.4)
heap_sound later h head.Reval q y g e =
    let x = bound (small_term_small later h.close h.rest) (λ x. Ok (heap.Reval x.0 x.1 x.2)) y e in
    let s = term_one_sound later h.close h.rest x.0 x.1 in
    let same : (heap.Reval s.0 s.1 s.2) ≡ y = ap (λ x. (heap.Reval x.0 x.1 x.2)) s.3 ∙ ok_same _ y x.2 in
    subst (λ y. Fits (heap_shape later y) q) same (g (shape.small s.0 ∷ shape.term later s.1 ∷ shape.small s.2 ∷ []) s.4)
heap_sound later h head.Relen q y g e =
    let x = bound (small_term_small later h.close h.rest) (λ x. Ok (heap.Relen x.0 x.1 x.2)) y e in
    let s = term_one_sound later h.close h.rest x.0 x.1 in
    let same : (heap.Relen s.0 s.1 s.2) ≡ y = ap (λ x. (heap.Relen x.0 x.1 x.2)) s.3 ∙ ok_same _ y x.2 in
    subst (λ y. Fits (heap_shape later y) q) same (g (shape.small s.0 ∷ shape.term later s.1 ∷ shape.small s.2 ∷ []) s.4)
heap_sound later h head.Pick q y g e =
    let t = second_sound later h.at (small_term_two later h.close h.rest >>= λ x. Ok (heap.Pick x.0 x.1 x.2 x.3)) y e in
    let x = bound (small_term_two later h.close h.rest) (λ x. Ok (heap.Pick x.0 x.1 x.2 x.3)) y t.1 in
    let s = term_two_sound later h.close h.rest x.0 x.1 in
    let same : (heap.Pick s.0 s.1 s.2 s.3) ≡ y = ap (λ x. (heap.Pick x.0 x.1 x.2 x.3)) s.4 ∙ ok_same _ y x.2 in
    subst (λ y. Fits (heap_shape later y) q) same (so_fits later (listed (shape.word (head_name head.Pick) ∷ shape.small s.0 ∷ shape.term later s.1 ∷ shape.small s.2 ∷ shape.small s.3 ∷ [])) q t.0 (g (shape.small s.0 ∷ shape.term later s.1 ∷ shape.small s.2 ∷ shape.small s.3 ∷ []) s.5))
heap_sound later h head.Join q y g e =
    let t = second_sound later h.at (three_small h.close h.rest >>= λ x. Ok (heap.Join x.0 x.1 x.2)) y e in
    let x = bound (three_small h.close h.rest) (λ x. Ok (heap.Join x.0 x.1 x.2)) y t.1 in
    let s = three_sound h.close h.rest x.0 x.1 in
    let same : (heap.Join s.0 s.1 s.2) ≡ y = ap (λ x. (heap.Join x.0 x.1 x.2)) s.3 ∙ ok_same _ y x.2 in
    subst (λ y. Fits (heap_shape later y) q) same (so_fits later (listed (shape.word (head_name head.Join) ∷ shape.small s.0 ∷ shape.small s.1 ∷ shape.small s.2 ∷ [])) q t.0 (g (shape.small s.0 ∷ shape.small s.1 ∷ shape.small s.2 ∷ []) s.4))
heap_sound later h head.Enrow q y g e =
    let t = second_sound later h.at (enrow_list later h.close h.rest) y e in
    let s = enrow_sound later h.close h.rest y t.1 in
    subst (λ y. Fits (heap_shape later y) q) s.3 (so_fits later (listed (shape.word (head_name head.Enrow) ∷ shape.small s.0 ∷ shape.formula later s.1 ∷ shape.small s.2 ∷ [])) q t.0 (g (shape.small s.0 ∷ shape.formula later s.1 ∷ shape.small s.2 ∷ []) s.4))
heap_sound later h head.Rows q y g e =
    let t = second_sound later h.at (rows_list later h.close h.rest) y e in
    let s = rows_sound later h.close h.rest y t.1 in
    subst (λ y. Fits (heap_shape later y) q) s.3 (so_fits later (listed (shape.word (head_name head.Rows) ∷ shape.small s.0 ∷ shape.width s.1 ∷ shape.formula later s.2 ∷ [])) q t.0 (g (shape.small s.0 ∷ shape.width s.1 ∷ shape.formula later s.2 ∷ []) s.4))
heap_sound later h k q y g e = absurd (no_form h.at y e)

-- the head of a move on chunks, and the other parts of its list
pub heap_whole : (later : Bool) (q : Part) (y : HeapMove) → Fits (heap_shape later y) q → (k : Head) × (xs : List Shape) × Fits (listed (shape.word (head_name k) ∷ xs)) q ×
    ((c : Setting) → c.later ≡ later → (h : Headed) → FitAll xs h.rest → move_at c h k ≡ (heap_at later h k >>= λ m. Ok (moves.Heap m))) × ((h : Headed) → FitAll xs h.rest → heap_at later h k ≡ Ok y)
unfolding heap_at heap_shape move_at
heap_whole later q (heap.Split c t f0 g0) f = (head.Split, shape.small c ∷ shape.term later t ∷ shape.small f0 ∷ shape.small g0 ∷ [], f, (λ c l h g. ap (λ b. heap_at b h head.Split >>= λ m. Ok (moves.Heap m)) l), λ h g. goes (small_term_two later h.close h.rest) (λ x. Ok (heap.Split x.0 x.1 x.2 x.3)) (c, t, f0, g0) (heap.Split c t f0 g0) (term_two_whole later h.close h.rest c t f0 g0 g) refl)
heap_whole later q (heap.Merge c d f0) f = (head.Merge, shape.small c ∷ shape.small d ∷ shape.small f0 ∷ [], f, (λ c l h g. ap (λ b. heap_at b h head.Merge >>= λ m. Ok (moves.Heap m)) l), λ h g. goes (three_small h.close h.rest) (λ x. Ok (heap.Merge x.0 x.1 x.2)) (c, d, f0) (heap.Merge c d f0) (three_whole h.close h.rest c d f0 g) refl)
heap_whole later q (heap.Forget c) f = (head.Forget, shape.small c ∷ [], f, (λ c l h g. ap (λ b. heap_at b h head.Forget >>= λ m. Ok (moves.Heap m)) l), λ h g. goes (one_small h.close h.rest) (λ x. Ok (heap.Forget x)) c (heap.Forget c) (one_whole h.close h.rest c g) refl)
heap_whole later q (heap.View c) f = (head.View, shape.small c ∷ [], f, (λ c l h g. ap (λ b. heap_at b h head.View >>= λ m. Ok (moves.Heap m)) l), λ h g. goes (one_small h.close h.rest) (λ x. Ok (heap.View x)) c (heap.View c) (one_whole h.close h.rest c g) refl)
heap_whole later q (heap.Halve c) f = (head.Halve, shape.small c ∷ [], f, (λ c l h g. ap (λ b. heap_at b h head.Halve >>= λ m. Ok (moves.Heap m)) l), λ h g. goes (one_small h.close h.rest) (λ x. Ok (heap.Halve x)) c (heap.Halve c) (one_whole h.close h.rest c g) refl)
heap_whole later q (heap.Unite c d f0) f = (head.Unite, shape.small c ∷ shape.small d ∷ shape.small f0 ∷ [], f, (λ c l h g. ap (λ b. heap_at b h head.Unite >>= λ m. Ok (moves.Heap m)) l), λ h g. goes (three_small h.close h.rest) (λ x. Ok (heap.Unite x.0 x.1 x.2)) (c, d, f0) (heap.Unite c d f0) (three_whole h.close h.rest c d f0 g) refl)
heap_whole later q (heap.Readdr c t f0) f = (head.Readdr, shape.small c ∷ shape.term later t ∷ shape.small f0 ∷ [], f, (λ c l h g. ap (λ b. heap_at b h head.Readdr >>= λ m. Ok (moves.Heap m)) l), λ h g. goes (small_term_small later h.close h.rest) (λ x. Ok (heap.Readdr x.0 x.1 x.2)) (c, t, f0) (heap.Readdr c t f0) (term_one_whole later h.close h.rest c t f0 g) refl)
heap_whole later q (heap.Reval c t f0) f = (head.Reval, shape.small c ∷ shape.term later t ∷ shape.small f0 ∷ [], f, (λ c l h g. ap (λ b. heap_at b h head.Reval >>= λ m. Ok (moves.Heap m)) l), λ h g. goes (small_term_small later h.close h.rest) (λ x. Ok (heap.Reval x.0 x.1 x.2)) (c, t, f0) (heap.Reval c t f0) (term_one_whole later h.close h.rest c t f0 g) refl)
heap_whole later q (heap.Relen c t f0) f = (head.Relen, shape.small c ∷ shape.term later t ∷ shape.small f0 ∷ [], f, (λ c l h g. ap (λ b. heap_at b h head.Relen >>= λ m. Ok (moves.Heap m)) l), λ h g. goes (small_term_small later h.close h.rest) (λ x. Ok (heap.Relen x.0 x.1 x.2)) (c, t, f0) (heap.Relen c t f0) (term_one_whole later h.close h.rest c t f0 g) refl)
heap_whole later q (heap.Pick c t0 f0 g0) f =
    let t = fits_so later (listed (shape.word (head_name head.Pick) ∷ shape.small c ∷ shape.term later t0 ∷ shape.small f0 ∷ shape.small g0 ∷ [])) q f in
    (head.Pick, shape.small c ∷ shape.term later t0 ∷ shape.small f0 ∷ shape.small g0 ∷ [], t.1, (λ c l h g. ap (λ b. heap_at b h head.Pick >>= λ m. Ok (moves.Heap m)) l), λ h g. second_whole later h.at (small_term_two later h.close h.rest >>= λ x. Ok (heap.Pick x.0 x.1 x.2 x.3)) (heap.Pick c t0 f0 g0) t.0 (goes (small_term_two later h.close h.rest) (λ x. Ok (heap.Pick x.0 x.1 x.2 x.3)) (c, t0, f0, g0) (heap.Pick c t0 f0 g0) (term_two_whole later h.close h.rest c t0 f0 g0 g) refl))
heap_whole later q (heap.Join c d f0) f =
    let t = fits_so later (listed (shape.word (head_name head.Join) ∷ shape.small c ∷ shape.small d ∷ shape.small f0 ∷ [])) q f in
    (head.Join, shape.small c ∷ shape.small d ∷ shape.small f0 ∷ [], t.1, (λ c l h g. ap (λ b. heap_at b h head.Join >>= λ m. Ok (moves.Heap m)) l), λ h g. second_whole later h.at (three_small h.close h.rest >>= λ x. Ok (heap.Join x.0 x.1 x.2)) (heap.Join c d f0) t.0 (goes (three_small h.close h.rest) (λ x. Ok (heap.Join x.0 x.1 x.2)) (c, d, f0) (heap.Join c d f0) (three_whole h.close h.rest c d f0 g) refl))
heap_whole later q (heap.Enrow c e0 f0) f =
    let t = fits_so later (listed (shape.word (head_name head.Enrow) ∷ shape.small c ∷ shape.formula later e0 ∷ shape.small f0 ∷ [])) q f in
    (head.Enrow, shape.small c ∷ shape.formula later e0 ∷ shape.small f0 ∷ [], t.1, (λ c l h g. ap (λ b. heap_at b h head.Enrow >>= λ m. Ok (moves.Heap m)) l), λ h g. second_whole later h.at (enrow_list later h.close h.rest) (heap.Enrow c e0 f0) t.0 (enrow_whole later h.close h.rest c e0 f0 g))
heap_whole later q (heap.Rows c w e0) f =
    let t = fits_so later (listed (shape.word (head_name head.Rows) ∷ shape.small c ∷ shape.width w ∷ shape.formula later e0 ∷ [])) q f in
    (head.Rows, shape.small c ∷ shape.width w ∷ shape.formula later e0 ∷ [], t.1, (λ c l h g. ap (λ b. heap_at b h head.Rows >>= λ m. Ok (moves.Heap m)) l), λ h g. second_whole later h.at (rows_list later h.close h.rest) (heap.Rows c w e0) t.0 (rows_whole later h.close h.rest c w e0 g))

-- moves

pub have_sound : (later : Bool) (close : ℕ) (ps : Parts) (y : Move) → have_list later close ps ≡ Ok y → (f : Formula) × (ss : List Step) × (moves.Have f ss ≡ y) × FitAll (shape.formula later f ∷ shape.steps later ss) ps
unfolding have_list
have_sound later close ps y e =
    let f = bound (field (formula_in later) close ps) _ y e in
    let ss = bound (steps_in later f.0.1 0) _ y f.2 in
    (f.0.0, ss.0, ok_same _ y ss.2, field_sound (formula_exact later) close ps f.0 f.1 (shape.steps later ss.0) (derivation_sound later f.0.1 ss.0 ss.1))

pub have_whole : (later : Bool) (close : ℕ) (ps : Parts) (f : Formula) (ss : List Step) → FitAll (shape.formula later f ∷ shape.steps later ss) ps → have_list later close ps ≡ Ok (moves.Have f ss)
unfolding have_list
have_whole later close ps f ss fits =
    let r = field_whole (formula_exact later) close ps f (shape.steps later ss) fits in
    goes (field (formula_in later) close ps) _ (f, r.0) (moves.Have f ss) r.1
    (goes (steps_in later r.0 0) _ ss (moves.Have f ss) (derivation_whole later r.0 ss r.2) refl)

pub each_sound : (later : Bool) (close : ℕ) (ps : Parts) (y : Move) → each_list later close ps ≡ Ok y → (c : ℕ) × (f : Formula) × (ss : List Step) × (moves.Each c f ss ≡ y) × FitAll (shape.small c ∷ shape.formula later f ∷ shape.steps later ss) ps
unfolding each_list
each_sound later close ps y e =
    let c = bound (field small close ps) _ y e in
    let f = bound (field (formula_in later) close c.0.1) _ y c.2 in
    let ss = bound (steps_in later f.0.1 0) _ y f.2 in (
      c.0.0,
      f.0.0,
      ss.0,
      ok_same _ y ss.2,
      field_sound small_exact close ps c.0 c.1 (shape.formula later f.0.0 ∷ shape.steps later ss.0)
          (field_sound (formula_exact later) close c.0.1 f.0 f.1 (shape.steps later ss.0) (derivation_sound later f.0.1 ss.0 ss.1)),
    )

pub each_whole : (later : Bool) (close : ℕ) (ps : Parts) (c : ℕ) (f : Formula) (ss : List Step) → FitAll (shape.small c ∷ shape.formula later f ∷ shape.steps later ss) ps → each_list later close ps ≡ Ok (moves.Each c f ss)
unfolding each_list
each_whole later close ps c f ss fits =
    let k = field_whole small_exact close ps c (shape.formula later f ∷ shape.steps later ss) fits in
    let r = field_whole (formula_exact later) close k.0 f (shape.steps later ss) k.2 in
    goes (field small close ps) _ (c, k.0) (moves.Each c f ss) k.1
    (goes (field (formula_in later) close k.0) _ (f, r.0) (moves.Each c f ss) r.1
    (goes (steps_in later r.0 0) _ ss (moves.Each c f ss) (derivation_whole later r.0 ss r.2) refl))

-- a name that some lemma has
pub known_exact : (names : List (List ℕ)) → Exact (known_name names) (λ n. where_so (is_among names n) (shape.name n))
unfolding known_name
known_exact names = record { sound = sound; whole = whole_way }
  where
    sound : (p : Part) (n : List ℕ) → known_name names p ≡ Ok n → Fits (where_so (is_among names n) (shape.name n)) p
    sound p n e =
        let m = bound (name_in p) (λ m. cond (is_among names m) (Ok m) (refused (part.place p) fault.Name)) n e in
        by_known m.0 (is_among names m.0) refl m.1 m.2
      where
        by_known : (m : List ℕ) (v : Bool) → is_among names m ≡ v → name_in p ≡ Ok m → cond v (Ok m) (refused (part.place p) fault.Name) ≡ Ok n → Fits (where_so (is_among names n) (shape.name n)) p
        by_known m true t s e = subst (λ k. Fits (where_so (is_among names k) (shape.name k)) p) (ok_same m n e) (so_fits (is_among names m) (shape.name m) p t (name_exact.sound p m s))
        by_known m false t s e = let none : ⊥ = cc in absurd none

    whole_way : (p : Part) (n : List ℕ) → Fits (where_so (is_among names n) (shape.name n)) p → known_name names p ≡ Ok n
    whole_way p n f =
        let t = fits_so (is_among names n) (shape.name n) p f in
        goes (name_in p) (λ m. cond (is_among names m) (Ok m) (refused (part.place p) fault.Name)) n n (name_exact.whole p n t.1) (ap (λ v. cond v (Ok n) (refused (part.place p) fault.Name)) t.0)

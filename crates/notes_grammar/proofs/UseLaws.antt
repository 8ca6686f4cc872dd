-- Uses and the notes of instructions are read exactly.
use Rattle.std.proofs.Common.{◌≡◌, ℕ, suc, Bool, true, eqb, ◌||◌, List, [], ◌∷◌, ◌++◌, length, Option, Some, None, Result, Ok, refl, ap, ◌∙◌, subst, arith}
use Rattle.std.specs.Prelude.{map, codes}
use Rattle.notes.specs.declared.uses.Take.{Take}
use Rattle.notes.specs.declared.moves.Move.{Move}
use Rattle.notes.specs.declared.uses.Use.{Use}
use Rattle.notes.specs.declared.uses.Use.TheVariants as used
use Rattle.notes.specs.declared.outline.Note.{Note}
use Rattle.sexp_text.specs.declared.fault.TextFault.{TextFault}
use Rattle.sexp_text.specs.Reading.{◌>>=◌}
use Rattle.notes_grammar.specs.declared.head.Head.{Head}
use Rattle.notes_grammar.specs.declared.head.Head.TheVariants as head
use Rattle.notes_grammar.specs.Parts.{Part, Parts, Nil, Cons}
use Rattle.notes_grammar.specs.Shapes.{Shape, Setting, listed, assertion as assertion_shape, with as with_shape, move as move_shape, take as take_shape, use_of as use_shape, note as note_shape}
use Rattle.notes_grammar.specs.Shapes as shape
use Rattle.notes_grammar.specs.Words.{head_name}
use Rattle.notes_grammar.specs.Reading.{ended, field, all_of, small, Headed, headed, tagged, assertion_in, with_list, with_in, one_small, heap_at, move_at, move_in, take_list, take_in, safe_list, more_safe, both_list, loop_list, skip_list, use_at, use_or, note_list, note_in}
use Rattle.notes_grammar.proofs.Exactness.{bound, goes, Fits, FitAll, so_fits, fits_so, Exact, field_sound, field_whole, ended_sound, ended_whole, all_sound, all_whole, tagged_sound, tagged_whole}
use Rattle.notes_grammar.proofs.LeafLaws.{small_exact, Heads, headed_heads}
use Rattle.notes_grammar.proofs.ConstructLaws.{WithParts, assertion_exact, with_rest_sound, with_rest_whole, with_exact, one_sound, one_whole}
use Rattle.std.proofs.lemmas.Bool.Decides.{nat_tests}
use Rattle.notes_grammar.proofs.Exactness.{headed_whole}
use Rattle.notes_grammar.proofs.MoveLaws.{move_sound, move_exact, TakeParts, take_rest_sound, take_rest_whole, take_exact, both_sound, both_whole, loop_sound, loop_whole, skip_sound, skip_whole}

ok_same : {A : Type 0} (x y : A) → ◌≡◌ {A = Result A TextFault} (Ok x) (Ok y) → x ≡ y
ok_same x y e = cc

some_same : {A : Type 0} (x y : A) → ◌≡◌ {A = Option A} (Some x) (Some y) → x ≡ y
some_same x y e = cc

-- facts that are safe

abbrev OneOrTwo : List ℕ → Bool
OneOrTwo ks = eqb (length ks) 1 || eqb (length ks) 2

no_three : (n : ℕ) → (eqb (suc (suc (suc n))) 1 || eqb (suc (suc (suc n))) 2) ≡ true → ⊥
no_three n h = grind (arith, nat_tests)

more_sound : (f : ℕ) (ps : Parts) (y : Use) → more_safe f ps ≡ Ok y → (ks : List ℕ) × (used.Safe (f ∷ ks) ≡ y) × (OneOrTwo (f ∷ ks) ≡ true) × FitAll (map shape.small ks) ps
more_sound f Nil y e = ([], ok_same (used.Safe (f ∷ [])) y e, refl, tt)
more_sound f (Cons p ps) y e =
    let g = bound (small p) (λ g. ended (used.Safe (f ∷ g ∷ [])) ps) y e in
    let end = ended_sound (used.Safe (f ∷ g.0 ∷ [])) ps y g.2 in
    (g.0 ∷ [], end.0, refl, (small_exact.sound p g.0 g.1, end.1))

more_whole : (f : ℕ) (ps : Parts) (ks : List ℕ) → OneOrTwo (f ∷ ks) ≡ true → FitAll (map shape.small ks) ps → more_safe f ps ≡ Ok (used.Safe (f ∷ ks))
more_whole f Nil [] t h = refl
more_whole f Nil (g ∷ gs) t h = absurd h
more_whole f (Cons p ps) [] t h = absurd h
more_whole f (Cons p ps) (g ∷ []) t h = goes (small p) (λ g. ended (used.Safe (f ∷ g ∷ [])) ps) g (used.Safe (f ∷ g ∷ [])) (small_exact.whole p g h.0) (ended_whole (used.Safe (f ∷ g ∷ [])) ps h.1)
more_whole f (Cons p ps) (g ∷ k ∷ ks) t h = absurd (no_three (length ks) t)

safe_sound : (close : ℕ) (ps : Parts) (y : Use) → safe_list close ps ≡ Ok y → (ks : List ℕ) × (used.Safe ks ≡ y) × (OneOrTwo ks ≡ true) × FitAll (map shape.small ks) ps
unfolding safe_list
safe_sound close ps y e =
    let f = bound (field small close ps) (λ f. more_safe f.0 f.1) y e in
    let m = more_sound f.0.0 f.0.1 y f.2 in
    (f.0.0 ∷ m.0, m.1, m.2, field_sound small_exact close ps f.0 f.1 (map shape.small m.0) m.3)

safe_whole : (close : ℕ) (ps : Parts) (ks : List ℕ) → OneOrTwo ks ≡ true → FitAll (map shape.small ks) ps → safe_list close ps ≡ Ok (used.Safe ks)
unfolding safe_list
safe_whole close ps [] t h = cc
safe_whole close ps (f ∷ ks) t h =
    let r = field_whole small_exact close ps f (map shape.small ks) h in
    goes (field small close ps) (λ f. more_safe f.0 f.1) (f, r.0) (used.Safe (f ∷ ks)) r.1 (more_whole f r.0 ks t r.2)

-- uses

table_sound : (c : Setting) (ps : Parts) (u : Use) → (all_of (take_in c) ps >>= λ ts. Ok (used.Table ts)) ≡ Ok u → (ts : List Take) × (used.Table ts ≡ u) × FitAll (map (take_shape c) ts) ps
table_sound c ps u e =
    let ts = bound (all_of (take_in c) ps) (λ ts. Ok (used.Table ts)) u e in
    (ts.0, ok_same (used.Table ts.0) u ts.2, all_sound (take_exact c) ps ts.0 ts.1)

use_sound : (c : Setting) (h : Headed) (k : Head) (q : Part) (r : Result Use TextFault) (u : Use) → Heads h k q → use_at c h k ≡ Some r → r ≡ Ok u → FitAll (use_shape c u) (Cons q Nil)
unfolding use_at use_shape with_shape take_shape
use_sound c h head.With q r u g s e =
    let w = bound (with_list c.later h.close h.rest) (λ w. Ok (used.With w)) u (some_same (with_list c.later h.close h.rest >>= λ w. Ok (used.With w)) r s ∙ e) in
    subst (λ u. FitAll (use_shape c u) (Cons q Nil)) (ok_same (used.With w.0) u w.2) (g (WithParts c.later w.0) (with_rest_sound c.later h.close h.rest w.0 w.1), tt)
use_sound c h head.Cell q r u g s e =
    let k = bound (one_small h.close h.rest) (λ k. Ok (used.Cell k)) u (some_same (one_small h.close h.rest >>= λ k. Ok (used.Cell k)) r s ∙ e) in
    let t = one_sound h.close h.rest k.0 k.1 in
    subst (λ u. FitAll (use_shape c u) (Cons q Nil)) (ap used.Cell t.1 ∙ ok_same (used.Cell k.0) u k.2) (g (shape.small t.0 ∷ []) t.2, tt)
use_sound c h head.Safe q r u g s e =
    let t = safe_sound h.close h.rest u (some_same (safe_list h.close h.rest) r s ∙ e) in
    subst (λ u. FitAll (use_shape c u) (Cons q Nil)) t.1 (so_fits (OneOrTwo t.0) (listed (shape.word (head_name head.Safe) ∷ map shape.small t.0)) q t.2 (g (map shape.small t.0) t.3), tt)
use_sound c h head.Trap q r u g s e =
    let w = bound (field (with_in c.later) h.close h.rest) (λ w. ended (used.Trap w.0) w.1) u (some_same (field (with_in c.later) h.close h.rest >>= λ w. ended (used.Trap w.0) w.1) r s ∙ e) in
    let end = ended_sound (used.Trap w.0.0) w.0.1 u w.2 in
    subst (λ u. FitAll (use_shape c u) (Cons q Nil)) end.0 (g (with_shape c.later w.0.0 ∷ []) (field_sound (with_exact c.later) h.close h.rest w.0 w.1 [] end.1), tt)
use_sound c h head.Take q r u g s e =
    let t = bound (take_list c h.close h.rest) (λ t. Ok (used.Take t)) u (some_same (take_list c h.close h.rest >>= λ t. Ok (used.Take t)) r s ∙ e) in
    subst (λ u. FitAll (use_shape c u) (Cons q Nil)) (ok_same (used.Take t.0) u t.2) (g (TakeParts c t.0) (take_rest_sound c h.close h.rest t.0 t.1), tt)
use_sound c h head.Table q r u g s e =
    let t = table_sound c h.rest u (some_same (all_of (take_in c) h.rest >>= λ ts. Ok (used.Table ts)) r s ∙ e) in
    subst (λ u. FitAll (use_shape c u) (Cons q Nil)) t.1 (g (map (take_shape c) t.0) t.2, tt)
use_sound c h head.Both q r u g s e =
    let t = both_sound c.later h.close h.rest u (some_same (both_list c.later h.close h.rest) r s ∙ e) in
    subst (λ u. FitAll (use_shape c u) (Cons q Nil)) t.2 (g (with_shape c.later t.0 ∷ with_shape c.later t.1 ∷ []) t.3, tt)
use_sound c h head.Label q r u g s e =
    let a = bound (field (assertion_in c.later) h.close h.rest) (λ a. ended (used.Label a.0) a.1) u (some_same (field (assertion_in c.later) h.close h.rest >>= λ a. ended (used.Label a.0) a.1) r s ∙ e) in
    let end = ended_sound (used.Label a.0.0) a.0.1 u a.2 in
    subst (λ u. FitAll (use_shape c u) (Cons q Nil)) end.0 (g (assertion_shape c.later a.0.0 ∷ []) (field_sound (assertion_exact c.later) h.close h.rest a.0 a.1 [] end.1), tt)
use_sound c h head.Loop q r u g s e =
    let t = loop_sound c.later h.close h.rest u (some_same (loop_list c.later h.close h.rest) r s ∙ e) in
    subst (λ u. FitAll (use_shape c u) (Cons q Nil)) t.2 (g (assertion_shape c.later t.0 ∷ with_shape c.later t.1 ∷ []) t.3, tt)
use_sound c h head.Skip q r u g s e =
    let t = skip_sound c h.close h.rest u (some_same (skip_list c h.close h.rest) r s ∙ e) in
    subst (λ u. FitAll (use_shape c u) (Cons q Nil)) t.2 (g (assertion_shape c.later t.0 ∷ take_shape c t.1 ∷ []) t.3, tt)
use_sound c h k q r u g s e = let none : ⊥ = cc in absurd none

-- the part is read as this use
abbrev UseRead : Setting → Part → Use → Type 0
UseRead c q u = (h : Headed) × (headed q ≡ Ok h) × (r : Result Use TextFault) × (use_at c h h.head ≡ Some r) × (r ≡ Ok u)

by_use : (c : Setting) (k : Head) (q : Part) (xs : List Shape) (u : Use) → Fits (listed (shape.word (head_name k) ∷ xs)) q →
    ((h : Headed) → FitAll xs h.rest → (r : Result Use TextFault) × (use_at c h k ≡ Some r) × (r ≡ Ok u)) → UseRead c q u
by_use c k q xs u f g =
    let h = headed_whole k q xs f in
    let r = g h.0 h.3 in
    (h.0, h.1, r.0, ap (use_at c h.0) h.2 ∙ r.1, r.2)

abbrev Something : Use → Type 0
Something u = u ≡ used.Nothing → ⊥

use_whole : (c : Setting) (q : Part) (ps : Parts) (u : Use) → Something u → FitAll (use_shape c u) (Cons q ps) → UseRead c q u × FitAll [] ps
unfolding use_at use_shape with_shape take_shape
use_whole c q ps used.Nothing n f = absurd f
use_whole c q ps (used.With w) n f =
    (by_use c head.With q (WithParts c.later w) (used.With w) f.0 (λ h g. (with_list c.later h.close h.rest >>= (λ w. Ok (used.With w)), refl, goes (with_list c.later h.close h.rest) (λ w. Ok (used.With w)) w (used.With w) (with_rest_whole c.later h.close h.rest w g) refl)), f.1)
use_whole c q ps (used.Cell k) n f =
    (by_use c head.Cell q (shape.small k ∷ []) (used.Cell k) f.0 (λ h g. (one_small h.close h.rest >>= (λ k. Ok (used.Cell k)), refl, goes (one_small h.close h.rest) (λ k. Ok (used.Cell k)) k (used.Cell k) (one_whole h.close h.rest k g) refl)), f.1)
use_whole c q ps (used.Safe ks) n f =
    let t = fits_so (OneOrTwo ks) (listed (shape.word (head_name head.Safe) ∷ map shape.small ks)) q f.0 in
    (by_use c head.Safe q (map shape.small ks) (used.Safe ks) t.1 (λ h g. (safe_list h.close h.rest, refl, safe_whole h.close h.rest ks t.0 g)), f.1)
use_whole c q ps (used.Trap w) n f = (
  by_use c head.Trap q (with_shape c.later w ∷ []) (used.Trap w) f.0 (λ h g.
      let r = field_whole (with_exact c.later) h.close h.rest w [] g in
      (field (with_in c.later) h.close h.rest >>= (λ w. ended (used.Trap w.0) w.1), refl, goes (field (with_in c.later) h.close h.rest) (λ w. ended (used.Trap w.0) w.1) (w, r.0) (used.Trap w) r.1 (ended_whole (used.Trap w) r.0 r.2))),
  f.1,
)
use_whole c q ps (used.Take t) n f =
    (by_use c head.Take q (TakeParts c t) (used.Take t) f.0 (λ h g. (take_list c h.close h.rest >>= (λ t. Ok (used.Take t)), refl, goes (take_list c h.close h.rest) (λ t. Ok (used.Take t)) t (used.Take t) (take_rest_whole c h.close h.rest t g) refl)), f.1)
use_whole c q ps (used.Table ts) n f =
    (by_use c head.Table q (map (take_shape c) ts) (used.Table ts) f.0 (λ h g. (all_of (take_in c) h.rest >>= (λ ts. Ok (used.Table ts)), refl, goes (all_of (take_in c) h.rest) (λ ts. Ok (used.Table ts)) ts (used.Table ts) (all_whole (take_exact c) h.rest ts g) refl)), f.1)
use_whole c q ps (used.Both v w) n f =
    (by_use c head.Both q (with_shape c.later v ∷ with_shape c.later w ∷ []) (used.Both v w) f.0 (λ h g. (both_list c.later h.close h.rest, refl, both_whole c.later h.close h.rest v w g)), f.1)
use_whole c q ps (used.Label a) n f = (
  by_use c head.Label q (assertion_shape c.later a ∷ []) (used.Label a) f.0 (λ h g.
      let r = field_whole (assertion_exact c.later) h.close h.rest a [] g in
      (field (assertion_in c.later) h.close h.rest >>= (λ a. ended (used.Label a.0) a.1), refl, goes (field (assertion_in c.later) h.close h.rest) (λ a. ended (used.Label a.0) a.1) (a, r.0) (used.Label a) r.1 (ended_whole (used.Label a) r.0 r.2))),
  f.1,
)
use_whole c q ps (used.Loop a w) n f =
    (by_use c head.Loop q (assertion_shape c.later a ∷ with_shape c.later w ∷ []) (used.Loop a w) f.0 (λ h g. (loop_list c.later h.close h.rest, refl, loop_whole c.later h.close h.rest a w g)), f.1)
use_whole c q ps (used.Skip a t) n f =
    (by_use c head.Skip q (assertion_shape c.later a ∷ take_shape c t ∷ []) (used.Skip a t) f.0 (λ h g. (skip_list c h.close h.rest, refl, skip_whole c h.close h.rest a t g)), f.1)

-- a head that moves begin with is none of uses
move_no_use : (c : Setting) (h : Headed) (k : Head) (m : Move) → move_at c h k ≡ Ok m → use_at c h k ≡ None
unfolding move_at heap_at use_at
move_no_use c h head.With m e = let none : ⊥ = cc in absurd none
move_no_use c h head.Cell m e = let none : ⊥ = cc in absurd none
move_no_use c h head.Safe m e = let none : ⊥ = cc in absurd none
move_no_use c h head.Trap m e = let none : ⊥ = cc in absurd none
move_no_use c h head.Take m e = let none : ⊥ = cc in absurd none
move_no_use c h head.Table m e = let none : ⊥ = cc in absurd none
move_no_use c h head.Both m e = let none : ⊥ = cc in absurd none
move_no_use c h head.Label m e = let none : ⊥ = cc in absurd none
move_no_use c h head.Loop m e = let none : ⊥ = cc in absurd none
move_no_use c h head.Skip m e = let none : ⊥ = cc in absurd none
move_no_use c h k m e = refl

-- moves and a use

abbrev NoteParts : Setting → List Move × Use → List Shape
NoteParts c n = map (move_shape c) n.0 ++ use_shape c n.1

abbrev Behind : Setting → Parts → Headed → Result (List Move × Use) TextFault
Behind c ps h = use_or (use_at c h h.head) (λ u. ended ([], u) ps) (move_at c h h.head >>= λ m. note_list c ps >>= λ more. Ok (m ∷ more.0, more.1))

only_use : (c : Setting) (u : Use) (p : Part) (ps : Parts) → FitAll (use_shape c u) (Cons p Nil) → FitAll [] ps → FitAll (use_shape c u) (Cons p ps)
only_use c u p Nil f g = f
only_use c u p (Cons q qs) f g = absurd g

note_sound : (c : Setting) (ps : Parts) (y : List Move × Use) → note_list c ps ≡ Ok y → FitAll (NoteParts c y) ps
unfolding use_shape
note_sound c Nil y e = subst (λ y. FitAll (NoteParts c y) Nil) (ok_same ([], used.Nothing) y e) tt
note_sound c (Cons p ps) y e =
    let h = bound (headed p) (Behind c ps) y e in
    by_kind h.0 (headed_heads p h.0 h.1) (use_at c h.0 h.0.head) refl (λ m e. note_sound c ps m e) h.2
  where
    by_kind : (h : Headed) → Heads h h.head p → (o : Option (Result Use TextFault)) → use_at c h h.head ≡ o → ((m : List Move × Use) → note_list c ps ≡ Ok m → FitAll (NoteParts c m) ps) →
        use_or o (λ u. ended ([], u) ps) (move_at c h h.head >>= λ m. note_list c ps >>= λ more. Ok (m ∷ more.0, more.1)) ≡ Ok y → FitAll (NoteParts c y) (Cons p ps)
    by_kind h g (Some r) s more e =
        let u = bound r (λ u. ended ([], u) ps) y e in
        let end = ended_sound ([], u.0) ps y u.2 in
        subst (λ y. FitAll (NoteParts c y) (Cons p ps)) end.0 (only_use c u.0 p ps (use_sound c h h.head p r u.0 g s u.1) end.1)
    by_kind h g None s more e =
        let m = bound (move_at c h h.head) (λ m. note_list c ps >>= λ more. Ok (m ∷ more.0, more.1)) y e in
        let rest = bound (note_list c ps) (λ more. Ok (m.0 ∷ more.0, more.1)) y m.2 in
        subst (λ y. FitAll (NoteParts c y) (Cons p ps)) (ok_same (m.0 ∷ rest.0.0, rest.0.1) y rest.2) (move_sound c h h.head p m.0 g m.1, more rest.0 rest.1)

use_only : (c : Setting) (ps : Parts) (u : Use) → FitAll (use_shape c u) ps → note_list c ps ≡ Ok ([], u)
unfolding use_shape
use_only c Nil used.Nothing f = refl
use_only c (Cons p ps) used.Nothing f = absurd f
use_only c Nil (used.With w) f = absurd f
use_only c Nil (used.Cell k) f = absurd f
use_only c Nil (used.Safe ks) f = absurd f
use_only c Nil (used.Trap w) f = absurd f
use_only c Nil (used.Take t) f = absurd f
use_only c Nil (used.Table ts) f = absurd f
use_only c Nil (used.Both v w) f = absurd f
use_only c Nil (used.Label a) f = absurd f
use_only c Nil (used.Loop a w) f = absurd f
use_only c Nil (used.Skip a t) f = absurd f
use_only c (Cons p ps) u f = by_read (use_whole c p ps u (something u f) f)
  where
    something : (u : Use) → FitAll (use_shape c u) (Cons p ps) → u ≡ used.Nothing → ⊥
    something u f e = absurd (subst (λ u. FitAll (use_shape c u) (Cons p ps)) e f)

    by_read : UseRead c p u × FitAll [] ps → note_list c (Cons p ps) ≡ Ok ([], u)
    by_read w =
        let r = w.0 in
        goes (headed p) (Behind c ps) r.0 ([], u) r.1
        (ap (λ o. use_or o (λ u. ended ([], u) ps) (move_at c r.0 r.0.head >>= λ m. note_list c ps >>= λ more. Ok (m ∷ more.0, more.1))) r.3 ∙
        goes r.2 (λ u. ended ([], u) ps) u ([], u) r.4 (ended_whole ([], u) ps w.1))

note_whole : (c : Setting) (ps : Parts) (ms : List Move) (u : Use) → FitAll (map (move_shape c) ms ++ use_shape c u) ps → note_list c ps ≡ Ok (ms, u)
unfolding move_in
note_whole c ps [] u f = use_only c ps u f
note_whole c Nil (m ∷ ms) u f = absurd f
note_whole c (Cons p ps) (m ∷ ms) u f =
    let h = bound (headed p) (λ h. move_at c h h.head) m ((move_exact c).whole p m f.0) in
    goes (headed p) (Behind c ps) h.0 (m ∷ ms, u) h.1
    (ap (λ o. use_or o (λ u. ended ([], u) ps) (move_at c h.0 h.0.head >>= λ m. note_list c ps >>= λ more. Ok (m ∷ more.0, more.1))) (move_no_use c h.0 h.0.head m h.2) ∙
    goes (move_at c h.0 h.0.head) (λ m. note_list c ps >>= λ more. Ok (m ∷ more.0, more.1)) m (m ∷ ms, u) h.2
    (goes (note_list c ps) (λ more. Ok (m ∷ more.0, more.1)) (ms, u) (m ∷ ms, u) (note_whole c ps ms u f.1) refl))

pub note_exact : (c : Setting) → Exact (note_in c) (note_shape c)
unfolding note_in note_shape
note_exact c = record { sound = sound; whole = whole_way }
  where
    sound : (p : Part) (n : Note) → note_in c p ≡ Ok n → Fits (note_shape c n) p
    sound p n e =
        let l = bound (tagged (codes "at") p) _ n e in
        let i = bound (field small l.0.1 l.0.0) _ n l.2 in
        let more = bound (note_list c i.0.1) _ n i.2 in
        subst (λ z. Fits (note_shape c z) p) (ok_same _ n more.2)
        (tagged_sound (codes "at") p l.0 l.1 (shape.small i.0.0 ∷ NoteParts c more.0)
        (field_sound small_exact l.0.1 l.0.0 i.0 i.1 (NoteParts c more.0) (note_sound c i.0.1 more.0 more.1)))

    whole_way : (p : Part) (n : Note) → Fits (note_shape c n) p → note_in c p ≡ Ok n
    whole_way p n f =
        let l = tagged_whole (codes "at") p (shape.small n.at ∷ NoteParts c (n.moves, n.used)) f in
        let i = field_whole small_exact l.0.1 l.0.0 n.at (NoteParts c (n.moves, n.used)) l.2 in
        goes (tagged (codes "at") p) _ l.0 n l.1
        (goes (field small l.0.1 l.0.0) _ (n.at, i.0) n i.1
        (goes (note_list c i.0) _ (n.moves, n.used) n (note_whole c i.0 n.moves n.used i.2) refl))

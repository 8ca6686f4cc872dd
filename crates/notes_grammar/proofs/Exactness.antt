-- Exact readers: what is read has the shape of its value, and what has the shape of a value is read as it.
use Rattle.std.proofs.Common.{◌≡◌, ℕ, Bool, true, false, cond, ◌&&◌, List, [], ◌∷◌, Option, Some, None, Result, Ok, Err, refl, sym, ap, ◌∙◌, subst}
use Rattle.std.specs.Prelude.{map}
use Rattle.std.proofs.lemmas.Slice.Eq.{bytes_eq-Decides}
use Rattle.sexp_text.specs.declared.fault.TextFault.{TextFault}
use Rattle.sexp_text.specs.Printing as tree
use Rattle.sexp_text.specs.Printing.{Tree, Trees}
use Rattle.sexp_text.specs.Reading.{◌>>=◌}
use Rattle.notes_grammar.specs.declared.head.Head.{Head}
use Rattle.notes_grammar.specs.Parts.{Part, Parts, Number, Name, Quote, Branch, Nil, Cons, tree_of, trees_of}
use Rattle.notes_grammar.specs.Shapes.{Shape, trees_in, all_fit, listed, where_so}
use Rattle.notes_grammar.specs.Shapes as shape
use Rattle.notes_grammar.specs.Reading.{form, ended, field, all_of, list_of, or_form, Headed, headed, tagged}
use Rattle.notes_grammar.specs.Words.{head_name, head_named, same_word}
use Rattle.notes_grammar.proofs.WordLemmas.{named_head, head_found}

-- what reads nothing

pub no_form : {A : Type 0} (at : ℕ) (x : A) → form at ≡ Ok x → ⊥
no_form at x e = cc

pub bound : {A B : Type 0} (r : Result A TextFault) (f : A → Result B TextFault) (y : B) → (r >>= f) ≡ Ok y → (x : A) × (r ≡ Ok x) × (f x ≡ Ok y)
bound (Ok x) f y e = (x, refl, e)
bound (Err d) f y e = cc

pub goes : {A B : Type 0} (r : Result A TextFault) (f : A → Result B TextFault) (x : A) (y : B) → r ≡ Ok x → f x ≡ Ok y → (r >>= f) ≡ Ok y
goes r f x y e d = ap (λ s. s >>= f) e ∙ d

ok_same : {A : Type 0} (x y : A) → ◌≡◌ {A = Result A TextFault} (Ok x) (Ok y) → x ≡ y
ok_same x y e = cc

-- a part that has a shape

abbrev pub Fits : Shape → Part → Type 0
Fits x p = (tree_of p ≡ x.tree) × (x.fits ≡ true)

abbrev pub FitAll : List Shape → Parts → Type 0
FitAll [] Nil = Unit {0}
FitAll [] (Cons p ps) = ⊥
FitAll (x ∷ xs) Nil = ⊥
FitAll (x ∷ xs) (Cons p ps) = Fits x p × FitAll xs ps

pub both : (x y : Bool) → (x && y) ≡ true → (x ≡ true) × (y ≡ true)
both true y e = (refl, e)
both false y e = cc

pub from_both : (x y : Bool) → x ≡ true → y ≡ true → (x && y) ≡ true
from_both x y e f = rw (e, f) refl

cons_same : (a c : Tree) (b d : Trees) → tree.Cons a b ≡ tree.Cons c d → (a ≡ c) × (b ≡ d)
cons_same a c b d e = (cc, cc)

all_trees : (xs : List Shape) (ps : Parts) → FitAll xs ps → (trees_of ps ≡ trees_in xs) × (all_fit xs ≡ true)
all_trees [] Nil h = (refl, refl)
all_trees [] (Cons p ps) h = absurd h
all_trees (x ∷ xs) Nil h = absurd h
all_trees (x ∷ xs) (Cons p ps) h =
    let more = all_trees xs ps h.1 in
    ((λ i. tree.Cons (h.0.0 i) (more.0 i)), from_both x.fits (all_fit xs) h.0.1 more.1)

trees_all : (xs : List Shape) (ps : Parts) → trees_of ps ≡ trees_in xs → all_fit xs ≡ true → FitAll xs ps
trees_all [] Nil e h = tt
trees_all [] (Cons p ps) e h = cc
trees_all (x ∷ xs) Nil e h = cc
trees_all (x ∷ xs) (Cons p ps) e h =
    let same = cons_same (tree_of p) x.tree (trees_of ps) (trees_in xs) e in
    let fit = both x.fits (all_fit xs) h in
    ((same.0, fit.0), trees_all xs ps same.1 fit.1)

pub listed_fits : (xs : List Shape) (at close : ℕ) (ps : Parts) → FitAll xs ps → Fits (listed xs) (Branch at ps close)
listed_fits xs at close ps h = let t = all_trees xs ps h in (ap tree.Branch t.0, t.1)

pub fits_listed : (xs : List Shape) (p : Part) → Fits (listed xs) p → (at : ℕ) × (ps : Parts) × (close : ℕ) × (p ≡ Branch at ps close) × FitAll xs ps
fits_listed xs (Number at z) h = let e = h.0 in cc
fits_listed xs (Name at w) h = let e = h.0 in cc
fits_listed xs (Quote at s) h = let e = h.0 in cc
fits_listed xs (Branch at ps close) h = (at, ps, close, refl, trees_all xs ps (branch_same (trees_of ps) (trees_in xs) h.0) h.1)
  where
    branch_same : (a b : Trees) → tree.Branch a ≡ tree.Branch b → a ≡ b
    branch_same a b e = cc

pub so_fits : (b : Bool) (x : Shape) (p : Part) → b ≡ true → Fits x p → Fits (where_so b x) p
so_fits b x p h f = (f.0, from_both b x.fits h f.1)

pub fits_so : (b : Bool) (x : Shape) (p : Part) → Fits (where_so b x) p → (b ≡ true) × Fits x p
fits_so b x p f = let t = both b x.fits f.1 in (t.0, (f.0, t.1))

-- exact readers

pub record Exact {A : Type 0} (read : Part → Result A TextFault) (shape : A → Shape) : Type 0 where
  pub sound : (p : Part) (a : A) → read p ≡ Ok a → Fits (shape a) p
  pub whole : (p : Part) (a : A) → Fits (shape a) p → read p ≡ Ok a

pub field_sound : {A : Type 0} {read : Part → Result A TextFault} {shape : A → Shape} → Exact read shape → (close : ℕ) (ps : Parts) (y : A × Parts) →
    field read close ps ≡ Ok y → (xs : List Shape) → FitAll xs y.1 → FitAll (shape y.0 ∷ xs) ps
field_sound {A} {read} {shape} x close Nil y e xs h = let none : ⊥ = cc in absurd none
field_sound {A} {read} {shape} x close (Cons p ps) y e xs h =
    let one = bound (read p) (λ a. Ok (a, ps)) y e in
    let same : (one.0, ps) ≡ y = ok_same (one.0, ps) y one.2 in
    let fits : FitAll xs y.1 → FitAll (shape y.0 ∷ xs) (Cons p ps) =
    subst (λ z. FitAll xs z.1 → FitAll (shape z.0 ∷ xs) (Cons p ps)) same (λ h. (x.sound p one.0 one.1, h)) in
    fits h

pub field_whole : {A : Type 0} {read : Part → Result A TextFault} {shape : A → Shape} → Exact read shape → (close : ℕ) (ps : Parts) (a : A) (xs : List Shape) →
    FitAll (shape a ∷ xs) ps → (rest : Parts) × (field read close ps ≡ Ok (a, rest)) × FitAll xs rest
field_whole {A} {read} {shape} x close Nil a xs h = absurd h
field_whole {A} {read} {shape} x close (Cons p ps) a xs h =
    (ps, goes (read p) (λ b. Ok (b, ps)) a (a, ps) (x.whole p a h.0) refl, h.1)

pub ended_sound : {A : Type 0} (x : A) (ps : Parts) (y : A) → ended x ps ≡ Ok y → (x ≡ y) × FitAll [] ps
ended_sound x Nil y e = (ok_same x y e, tt)
ended_sound x (Cons p ps) y e = cc

pub ended_whole : {A : Type 0} (x : A) (ps : Parts) → FitAll [] ps → ended x ps ≡ Ok x
ended_whole x Nil h = refl
ended_whole x (Cons p ps) h = absurd h

pub all_sound : {A : Type 0} {read : Part → Result A TextFault} {shape : A → Shape} → Exact read shape → (ps : Parts) (xs : List A) → all_of read ps ≡ Ok xs → FitAll (map shape xs) ps
all_sound {A} {read} {shape} x Nil xs e = let same : [] ≡ xs = ok_same [] xs e in subst (λ ys. FitAll (map shape ys) Nil) same tt
all_sound {A} {read} {shape} x (Cons p ps) xs e =
    let one = bound (read p) (λ a. all_of read ps >>= λ bs. Ok (a ∷ bs)) xs e in
    let two = bound (all_of read ps) (λ bs. Ok (one.0 ∷ bs)) xs one.2 in
    let same : one.0 ∷ two.0 ≡ xs = ok_same (one.0 ∷ two.0) xs two.2 in
    subst (λ ys. FitAll (map shape ys) (Cons p ps)) same (x.sound p one.0 one.1, all_sound x ps two.0 two.1)

pub all_whole : {A : Type 0} {read : Part → Result A TextFault} {shape : A → Shape} → Exact read shape → (ps : Parts) (xs : List A) → FitAll (map shape xs) ps → all_of read ps ≡ Ok xs
all_whole x Nil [] h = refl
all_whole x Nil (a ∷ bs) h = absurd h
all_whole x (Cons p ps) [] h = absurd h
all_whole {A} {read} {shape} x (Cons p ps) (a ∷ bs) h =
    goes (read p) (λ b. all_of read ps >>= λ bs. Ok (b ∷ bs)) a (a ∷ bs) (x.whole p a h.0)
    (goes (all_of read ps) (λ bs. Ok (a ∷ bs)) bs (a ∷ bs) (all_whole x ps bs h.1) refl)

pub list_exact : {A : Type 0} {read : Part → Result A TextFault} {shape : A → Shape} → Exact read shape → Exact (list_of read) (λ xs. listed (map shape xs))
list_exact {A} {read} {shape} x = record { sound = sound; whole = whole }
  where
    sound : (p : Part) (xs : List A) → list_of read p ≡ Ok xs → Fits (listed (map shape xs)) p
    sound (Number at z) xs e = cc
    sound (Name at w) xs e = cc
    sound (Quote at s) xs e = cc
    sound (Branch at ps close) xs e = listed_fits (map shape xs) at close ps (all_sound x ps xs e)

    whole : (p : Part) (xs : List A) → Fits (listed (map shape xs)) p → list_of read p ≡ Ok xs
    whole p xs h =
        let l = fits_listed (map shape xs) p h in
        ap (list_of read) l.3 ∙ all_whole x l.1 xs l.4

-- lists that begin with a word

same_of : (v w : List ℕ) → same_word v w ≡ true → v ≡ w
same_of v w e = (bytes_eq-Decides v w).0 e

same_self : (w : List ℕ) → same_word w w ≡ true
same_self w = (bytes_eq-Decides w w).1 refl

pub tagged_sound : (tag : List ℕ) (p : Part) (l : Parts × ℕ) → tagged tag p ≡ Ok l → (xs : List Shape) → FitAll xs l.0 → Fits (listed (shape.word tag ∷ xs)) p
unfolding tagged
tagged_sound tag (Number at z) l e xs h = let none : ⊥ = cc in absurd none
tagged_sound tag (Name at w) l e xs h = let none : ⊥ = cc in absurd none
tagged_sound tag (Quote at s) l e xs h = let none : ⊥ = cc in absurd none
tagged_sound tag (Branch at Nil close) l e xs h = let none : ⊥ = cc in absurd none
tagged_sound tag (Branch at (Cons (Number from z) ps) close) l e xs h = let none : ⊥ = cc in absurd none
tagged_sound tag (Branch at (Cons (Quote from z) ps) close) l e xs h = let none : ⊥ = cc in absurd none
tagged_sound tag (Branch at (Cons (Branch from qs end) ps) close) l e xs h = let none : ⊥ = cc in absurd none
tagged_sound tag (Branch at (Cons (Name from w) ps) close) l e xs h = by_word (same_word w tag) refl e
  where
    by_word : (v : Bool) → same_word w tag ≡ v → cond v (Ok (ps, close)) (form from) ≡ Ok l → Fits (listed (shape.word tag ∷ xs)) (Branch at (Cons (Name from w) ps) close)
    by_word true t e =
        let same : (ps, close) ≡ l = ok_same (ps, close) l e in
        let fits : FitAll xs ps = subst (λ z. FitAll xs z.0) (sym same) h in
        listed_fits (shape.word tag ∷ xs) at close (Cons (Name from w) ps) ((ap tree.Name (same_of w tag t), refl), fits)
    by_word false t e = absurd (no_form from l e)

pub tagged_whole : (tag : List ℕ) (p : Part) (xs : List Shape) → Fits (listed (shape.word tag ∷ xs)) p → (l : Parts × ℕ) × (tagged tag p ≡ Ok l) × FitAll xs l.0
unfolding tagged
tagged_whole tag p xs h =
    let l = fits_listed (shape.word tag ∷ xs) p h in
    let inner = by_parts l.0 l.2 l.1 l.4 in
    (inner.0, ap (tagged tag) l.3 ∙ inner.1, inner.2)
  where
    by_parts : (at close : ℕ) (ps : Parts) → FitAll (shape.word tag ∷ xs) ps → (l : Parts × ℕ) × (tagged tag (Branch at ps close) ≡ Ok l) × FitAll xs l.0
    by_parts at close Nil h = absurd h
    by_parts at close (Cons (Number from z) ps) h = let e = h.0.0 in let none : ⊥ = cc in absurd none
    by_parts at close (Cons (Quote from z) ps) h = let e = h.0.0 in let none : ⊥ = cc in absurd none
    by_parts at close (Cons (Branch from qs end) ps) h = let e = h.0.0 in let none : ⊥ = cc in absurd none
    by_parts at close (Cons (Name from w) ps) h =
        let same : w ≡ tag = name_same w tag h.0.0 in
        ((ps, close), ap (λ b. cond b (Ok (ps, close)) (form from)) (ap (λ v. same_word v tag) same ∙ same_self tag), h.1)
      where
        name_same : (v w : List ℕ) → tree.Name v ≡ tree.Name w → v ≡ w
        name_same v w e = cc

pub headed_sound : (p : Part) (h : Headed) → headed p ≡ Ok h → (xs : List Shape) → FitAll xs h.rest → Fits (listed (shape.word (head_name h.head) ∷ xs)) p
unfolding headed
headed_sound (Number at z) h e xs f = let none : ⊥ = cc in absurd none
headed_sound (Name at w) h e xs f = let none : ⊥ = cc in absurd none
headed_sound (Quote at s) h e xs f = let none : ⊥ = cc in absurd none
headed_sound (Branch at Nil close) h e xs f = let none : ⊥ = cc in absurd none
headed_sound (Branch at (Cons (Number from z) ps) close) h e xs f = let none : ⊥ = cc in absurd none
headed_sound (Branch at (Cons (Quote from z) ps) close) h e xs f = let none : ⊥ = cc in absurd none
headed_sound (Branch at (Cons (Branch from qs end) ps) close) h e xs f = let none : ⊥ = cc in absurd none
headed_sound (Branch at (Cons (Name from w) ps) close) h e xs f = by_head (head_named w) refl e
  where
    by_head : (o : Option Head) → head_named w ≡ o → (or_form from o >>= λ k. Ok (record { at = from; head = k; rest = ps; close = close })) ≡ Ok h →
        Fits (listed (shape.word (head_name h.head) ∷ xs)) (Branch at (Cons (Name from w) ps) close)
    by_head None t e = let none : ⊥ = cc in absurd none
    by_head (Some k) t e =
        let made : Headed = record { at = from; head = k; rest = ps; close = close } in
        let same : made ≡ h = ok_same made h e in
        let P : Headed → Type 0 = λ z. FitAll xs z.rest → Fits (listed (shape.word (head_name z.head) ∷ xs)) (Branch at (Cons (Name from w) ps) close) in
        let here : P made = λ g. listed_fits (shape.word (head_name k) ∷ xs) at close (Cons (Name from w) ps) ((ap tree.Name (named_head w k t), refl), g) in
        subst P same here f

pub headed_whole : (k : Head) (p : Part) (xs : List Shape) → Fits (listed (shape.word (head_name k) ∷ xs)) p →
    (h : Headed) × (headed p ≡ Ok h) × (h.head ≡ k) × FitAll xs h.rest
unfolding headed
headed_whole k p xs f =
    let l = fits_listed (shape.word (head_name k) ∷ xs) p f in
    let inner = by_parts l.0 l.2 l.1 l.4 in
    (inner.0, ap headed l.3 ∙ inner.1, inner.2, inner.3)
  where
    by_parts : (at close : ℕ) (ps : Parts) → FitAll (shape.word (head_name k) ∷ xs) ps → (h : Headed) × (headed (Branch at ps close) ≡ Ok h) × (h.head ≡ k) × FitAll xs h.rest
    by_parts at close Nil g = absurd g
    by_parts at close (Cons (Number from z) ps) g = let e = g.0.0 in let none : ⊥ = cc in absurd none
    by_parts at close (Cons (Quote from z) ps) g = let e = g.0.0 in let none : ⊥ = cc in absurd none
    by_parts at close (Cons (Branch from qs end) ps) g = let e = g.0.0 in let none : ⊥ = cc in absurd none
    by_parts at close (Cons (Name from w) ps) g =
        let same : w ≡ head_name k = name_same w (head_name k) g.0.0 in
        let made : Headed = record { at = from; head = k; rest = ps; close = close } in
        let found : head_named w ≡ Some k = ap head_named same ∙ head_found k in
        (made, ap (λ o. or_form from o >>= λ j. Ok (record { at = from; head = j; rest = ps; close = close })) found, refl, g.1)
      where
        name_same : (v w : List ℕ) → tree.Name v ≡ tree.Name w → v ≡ w
        name_same v w e = cc

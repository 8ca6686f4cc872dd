-- A plan is read to its end, or stops at the first item that is not accepted.
use Rattle.std.proofs.Common.{◌≡◌, ◌-◌, ◌≤◌, arith, Bool, true, false, length, List, [], ◌∷◌, Result, Ok, Err, ◌⊎◌, inl, inr, refl, sym, ap, subst, ◌∙◌}
use Rattle.binary_grammar.specs.declared.fault.DecodeFault.{DecodeFault}
use Rattle.std.specs.Result.{is_ok}
use Rattle.binary_grammar.specs.words.Reading.{◌>>=◌}
use Rattle.binary_grammar.specs.Readings.{Wanted, Given, Left, accept, Plan, Complete, Want, Item, place_of, Reads, StopsAt}

-- what a plan gives, and what is left then; or the fault at which it stops
abbrev pub run : {A : Type 0} → Plan A → Left → Result (A × Left) DecodeFault
run (Complete x) left = Ok (x, left)
run (Want k f) left = accept k left >>= λ x. run (f x.0) x.1

abbrev item : (k : Wanted) → Left → Left → Item
item k left after = record { kind = k; start = place_of left; len = place_of after - place_of left }

abbrev ok : {A : Type 0} → A → Result A DecodeFault
ok x = Ok x

ok_is : {A : Type 0} (x y : A) → ok x ≡ ok y → x ≡ y
ok_is x y e = cc

abbrev fault : {A : Type 0} → DecodeFault → Result A DecodeFault
fault d = Err d

same_fault : {A B : Type 0} (c d : DecodeFault) → fault {A = B} c ≡ fault d → fault {A = A} c ≡ fault d
same_fault c d e = let q : c ≡ d = cc in ap fault q

bind_ok : {A B : Type 0} (r : Result A DecodeFault) (f : A → Result B DecodeFault) (y : B) → (r >>= f) ≡ Ok y → (x : A) × (r ≡ Ok x) × (f x ≡ Ok y)
bind_ok (Ok x) f y e = (x, refl, e)
bind_ok (Err d) f y e = absurd cc

bind_err : {A B : Type 0} (r : Result A DecodeFault) (f : A → Result B DecodeFault) (d : DecodeFault) → (r >>= f) ≡ Err d → (r ≡ Err d) ⊎ ((x : A) × (r ≡ Ok x) × (f x ≡ Err d))
bind_err (Ok x) f d e = inr (x, refl, e)
bind_err {A} {B} (Err c) f d e = inl (same_fault c d e)

pub run_reads : {A : Type 0} (p : Plan A) (left : Left) (x : A) (after : Left) → run p left ≡ Ok (x, after) → (items : List Item) × Reads p left items (Complete x) after
run_reads {A} (Complete y) left x after e =
    let q = ok_is (y, left) (x, after) e in ([], (ap (λ (z : A × Left). Complete z.0) q, ap (λ (z : A × Left). z.1) q))
run_reads (Want k f) left x after e =
    let b = bind_ok (accept k left) (λ v. run (f v.0) v.1) (x, after) e in
    let r = run_reads (f b.0.0) b.0.1 x after b.2 in
    (item k left b.0.1 ∷ r.0, (refl, refl, b.0, b.1, refl, r.1))

pub reads_run : {A : Type 0} (p : Plan A) (left : Left) (items : List Item) (x : A) (after : Left) → Reads p left items (Complete x) after → run p left ≡ Ok (x, after)
reads_run p left [] x after h = ap (λ q. run q left) h.0 ∙ ap (λ l. Ok (x, l)) h.1
reads_run (Complete y) left (i ∷ is) x after h = absurd h
reads_run (Want k f) left (i ∷ is) x after h = rw h.3 (reads_run (f h.2.0) h.2.1 is x after h.5)

pub run_stops : {A : Type 0} (p : Plan A) (left : Left) (d : DecodeFault) → run p left ≡ Err d → StopsAt p left d
run_stops (Complete y) left d e = absurd cc
run_stops (Want k f) left d e =
    elim (bind_err (accept k left) (λ v. run (f v.0) v.1) d e) [
      | inl h ↦ ([], left, k, f, (refl, refl), h)
      | inr h ↦
          let s = run_stops (f h.0.0) h.0.1 d h.2 in
          (item k left h.0.1 ∷ s.0, s.1, s.2, s.3, (refl, refl, h.0, h.1, refl, s.4), s.5)
    ]

stopped : {A : Type 0} (p : Plan A) (left : Left) (items : List Item) (after : Left) (k : Wanted) (more : (Given k → Plan A)) (d : DecodeFault) →
    Reads p left items (Want k more) after → accept k after ≡ Err d → run p left ≡ Err d
stopped p left [] after k more d h e =
    ap (λ q. run q left) h.0 ∙ ap (run (Want k more)) h.1 ∙ ap (λ v. v >>= λ x. run (more x.0) x.1) e
stopped (Complete y) left (i ∷ is) after k more d h e = absurd h
stopped (Want j f) left (i ∷ is) after k more d h e = rw h.3 (stopped (f h.2.0) h.2.1 is after k more d h.5 e)

pub stops_run : {A : Type 0} (p : Plan A) (left : Left) (d : DecodeFault) → StopsAt p left d → run p left ≡ Err d
stops_run p left d h = stopped p left h.0 h.1 h.2 h.3 d h.4 h.5

-- whether an item is accepted next
abbrev is_accepted : {A : Type 0} → Plan A → Left → Bool
is_accepted (Complete x) left = false
is_accepted (Want k f) left = is_ok (accept k left)

-- no reading goes past an item that is not accepted
pub longest : {A : Type 0} (p : Plan A) (left : Left) (items others : List Item) (q : Plan A) (after stop : Left) (k : Wanted) (more : (Given k → Plan A)) (d : DecodeFault) →
    Reads p left items q after → Reads p left others (Want k more) stop → accept k stop ≡ Err d → length items ≤ length others
longest p left [] others q after stop k more d h g e = omega arith
longest (Complete x) left (i ∷ is) others q after stop k more d h g e = absurd h
longest (Want j f) left (i ∷ is) [] q after stop k more d h g e =
    let no : is_accepted (Want j f) left ≡ false = ap (λ r. is_accepted r left) g.0 ∙ ap (is_accepted (Want k more)) g.1 ∙ ap is_ok e in
    let taken : is_accepted (Want j f) left ≡ true = ap is_ok h.3 in
    absurd (let both : true ≡ false = sym taken ∙ no in cc)
longest {A} (Want j f) left (i ∷ is) (o ∷ os) q after stop k more d h g e =
    let same : h.2 ≡ g.2 = ok_is h.2 g.2 (sym h.3 ∙ g.3) in
    let next : Reads (f g.2.0) g.2.1 is q after = subst (λ (x : Given j × Left). Reads (f x.0) x.1 is q after) same h.5 in
    let r = longest (f g.2.0) g.2.1 is os q after stop k more d next g.5 e in
    omega (arith, r)

-- Lists some of whose items are changed: by no number, by one, and by two tests.
use Rattle.std.proofs.Common.{◌≡◌, refl, sym, ap, ◌∙◌, subst, ℕ, zero, suc, ◌+◌, ◌<◌, ◌≤◌, ◌==◌, Bool, true, false, ◌||◌, if◌then◌else◌, List, [], ◌∷◌, ◌++◌, length, map, take, drop, get_or, Option, arith, drop_of_length-le}
use Rattle.std.specs.Prelude.{slice_set, slice_index_or}
use Rattle.std.specs.List.{list_any, filter_map, cons_option}
use Rattle.std.proofs.lemmas.List.{at_drop_more, take_more, map-append}
use Rattle.std.proofs.lemmas.List.Elements.{filter_map-append}
use Rattle.std.proofs.lemmas.Bool.{true_from_ne_false, false_from_ne_true, eqb-false, eqb-true}
use Rattle.escape_analysis.specs.words.Changing.{changed_where}

-- Where two tests are the same from k on, the same items are changed.
pub changed-same : {A : Type 0} (change : A → A) (test other : ℕ → Bool) (k : ℕ) (xs : List A)
    → ((j : ℕ) → k ≤ j → test j ≡ other j) → changed_where change test k xs ≡ changed_where change other k xs
changed-same change test other k [] same = refl
changed-same change test other k (x ∷ xs) same =
    let here : (if test k then change x else x) ≡ (if other k then change x else x) = ap (λ b. if b then change x else x) (same k (omega arith)) in
    let later : changed_where change test (suc k) xs ≡ changed_where change other (suc k) xs =
    changed-same change test other (suc k) xs (λ j from. same j (omega (arith, from))) in
    cc

-- Where no number from k on passes, nothing is changed.
pub changed-none : {A : Type 0} (change : A → A) (test : ℕ → Bool) (k : ℕ) (xs : List A)
    → ((j : ℕ) → k ≤ j → test j ≡ false) → changed_where change test k xs ≡ xs
changed-none change test k [] none = refl
changed-none change test k (x ∷ xs) none =
    let here : (if test k then change x else x) ≡ x = ap (λ b. if b then change x else x) (none k (omega arith)) in
    let later : changed_where change test (suc k) xs ≡ xs = changed-none change test (suc k) xs (λ j from. none j (omega (arith, from))) in
    cc

-- one item by two tests, where a change that is made twice is made once
changed_twice : {A : Type 0} (change : A → A) (p q : Bool) (x : A) → (change (change x) ≡ change x)
    → (if p || q then change x else x) ≡ (if q then change (if p then change x else x) else (if p then change x else x))
changed_twice change true true x once = sym once
changed_twice change true false x once = refl
changed_twice change false true x once = refl
changed_twice change false false x once = refl

-- What passes one of two tests is changed by the one, and then by the other.
pub changed-or : {A : Type 0} (change : A → A) (p q : ℕ → Bool) (k : ℕ) (xs : List A)
    → ((x : A) → change (change x) ≡ change x)
    → changed_where change (λ j. p j || q j) k xs ≡ changed_where change q k (changed_where change p k xs)
changed-or change p q k [] once = refl
changed-or change p q k (x ∷ xs) once =
    let here : (if p k || q k then change x else x) ≡ (if q k then change (if p k then change x else x) else (if p k then change x else x)) =
    changed_twice change (p k) (q k) x (once x) in
    let later : changed_where change (λ j. p j || q j) (suc k) xs ≡ changed_where change q (suc k) (changed_where change p (suc k) xs) =
    changed-or change p q (suc k) xs once in
    cc

-- a number is itself
is_itself : (m k : ℕ) → m ≡ k → (m == k) ≡ true
is_itself m k same = true_from_ne_false (m == k) (λ wrong. eqb-false m k wrong same)

-- and no other
is_no_other : (m k : ℕ) → (m ≡ k → ⊥) → (m == k) ≡ false
is_no_other m k other = false_from_ne_true (m == k) (λ wrong. other (eqb-true m k wrong))

-- One number past the end changes nothing.
pub changed-past : {A : Type 0} (change : A → A) (m n k : ℕ) (xs : List A)
    → m ≡ k + n → length xs ≤ n → changed_where change (λ j. m == j) k xs ≡ xs
changed-past change m n k [] is past = refl
changed-past change m zero k (x ∷ xs) is past = absurd (omega (arith, past))
changed-past change m (suc n) k (x ∷ xs) is past =
    let here : (if m == k then change x else x) ≡ x = ap (λ b. if b then change x else x) (is_no_other m k (λ same. omega (arith, is, same))) in
    let later : changed_where change (λ j. m == j) (suc k) xs ≡ xs = changed-past change m n (suc k) xs (omega (arith, is)) (omega (arith, past)) in
    cc

-- One number changes the item there.
pub changed-set : {A : Type 0} (change : A → A) (m n k : ℕ) (d : A) (xs : List A)
    → m ≡ k + n → n < length xs → changed_where change (λ j. m == j) k xs ≡ slice_set xs n (change (slice_index_or xs n d))
changed-set change m n k d [] is there = refl
changed-set change m zero k d (x ∷ xs) is there =
    let here : (if m == k then change x else x) ≡ change x = ap (λ b. if b then change x else x) (is_itself m k (omega (arith, is))) in
    let later : changed_where change (λ j. m == j) (suc k) xs ≡ xs =
    changed-none change (λ j. m == j) (suc k) xs (λ j from. is_no_other m j (λ wrong. omega (arith, is, from, wrong))) in
    cc
changed-set change m (suc n) k d (x ∷ xs) is there =
    let here : (if m == k then change x else x) ≡ x = ap (λ b. if b then change x else x) (is_no_other m k (λ same. omega (arith, is, same))) in
    let later : changed_where change (λ j. m == j) (suc k) xs ≡ slice_set xs n (change (slice_index_or xs n d)) =
    changed-set change m n (suc k) d xs (omega (arith, is)) (omega (arith, there)) in
    cc

-- ---- loops

-- what is left of a list, one step on: what the item there passes is changed, and then what the rest does
pub changed-next : {A X : Type 0} (change : A → A) (one : X → ℕ → Bool) (xs : List X) (i : ℕ) (x : X) (now next goal : List A)
    → ((y : A) → change (change y) ≡ change y) → i < length xs → x ≡ get_or xs i x
    → next ≡ changed_where change (one x) 0 now
    → changed_where change (λ f. list_any (λ y. one y f) (drop i xs)) 0 now ≡ goal
    → changed_where change (λ f. list_any (λ y. one y f) (drop (i + 1) xs)) 0 next ≡ goal
changed-next {A} {X} change one xs i x now next goal once within read step so_far =
    let F : List X → List A = λ ys. changed_where change (λ f. list_any (λ y. one y f) ys) 0 now in
    let rest : ℕ → Bool = λ f. list_any (λ y. one y f) (drop (i + 1) xs) in
    ap (changed_where change rest 0) step
    ∙ sym (changed-or change (one x) rest 0 now once)
    ∙ ap (λ (z : X). F (z ∷ drop (i + 1) xs)) read
    ∙ sym (at_drop_more F xs i x within)
    ∙ so_far

-- at the end nothing is left
pub changed-end : {A X : Type 0} (change : A → A) (one : X → ℕ → Bool) (xs : List X) (i : ℕ) (now goal : List A)
    → length xs ≤ i → changed_where change (λ f. list_any (λ y. one y f) (drop i xs)) 0 now ≡ goal → now ≡ goal
changed-end {A} {X} change one xs i now goal past so_far =
    let F : List X → List A = λ ys. changed_where change (λ f. list_any (λ y. one y f) ys) 0 now in
    sym (changed-none change (λ f. false) 0 now (λ j from. refl))
    ∙ sym (ap F (drop_of_length-le xs past))
    ∙ so_far

-- What one more item gives.
pub gathered-next : {X Y Z : Type 0} (f : X → Option Y) (g : Y → Z) (xs : List X) (i : ℕ) (x : X) (gathered more : List Z)
    → i < length xs → x ≡ get_or xs i x → gathered ≡ map g (filter_map f (take i xs))
    → more ≡ gathered ++ map g (cons_option (f x) []) → more ≡ map g (filter_map f (take (i + 1) xs))
gathered-next {X} {Y} {Z} f g xs i x gathered more within read was is =
    is
    ∙ ap (λ zs. zs ++ map g (cons_option (f x) [])) was
    ∙ sym (map-append g (filter_map f (take i xs)) (cons_option (f x) []))
    ∙ ap (λ (z : X). map g (filter_map f (take i xs) ++ cons_option (f z) [])) read
    ∙ sym (ap (map g) (ap (filter_map f) (take_more xs i x within) ∙ filter_map-append f (take i xs) (get_or xs i x ∷ [])))

-- an entry of a list that is another's
pub gathered-of : {X Y Z : Type 0} (f : X → Option Y) (g : Y → Z) (xs ys : List X) (i : ℕ) (x : X) (gathered more : List Z)
    → ys ≡ xs → i < length ys → x ≡ get_or ys i x → gathered ≡ map g (filter_map f (take i xs))
    → more ≡ gathered ++ map g (cons_option (f x) []) → more ≡ map g (filter_map f (take (i + 1) xs))
gathered-of {X} f g xs ys i x gathered more e within read was is =
    gathered-next f g xs i x gathered more (subst (λ (zs : List X). i < length zs) e within) (read ∙ ap (λ (zs : List X). get_or zs i x) e) was is

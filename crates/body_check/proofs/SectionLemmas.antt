-- Walks over the entries of a section.
use Rattle.std.proofs.Common.{◌≡◌, ℕ, zero, suc, ◌+◌, ◌<◌, ◌≤◌, List, [], ◌∷◌, ◌++◌, length, take, if◌then◌else◌, slice_get, get_or, Option, Some, None, refl, sym, ap, ◌∙◌, subst, ◌⊎◌, inl, inr, arith}
use Rattle.std.specs.List.{filter_map, cons_option, All}
use Rattle.std.proofs.lemmas.List.Elements.{All-append}
use Rattle.std.proofs.lemmas.List.{take_all}
use Rattle.std.specs.Option.{is_some}
use Rattle.std.proofs.lemmas.List.{take_more, length-append}
use Rattle.std.proofs.lemmas.List.Elements.{filter_map-append}
use Rattle.std.proofs.lemmas.Option.{slice_get_within, slice_get-get_or}
use Rattle.wasm_typing.specs.declared.fault.ValidWord.{ValidWord}
use Rattle.wasm_typing.specs.faults.Faults.{NoFault, FirstFault}

-- no entry before the n-th has a fault
abbrev pub NoneBefore : {X : Type 0} → (ℕ → X → Option ValidWord) → List X → ℕ → Type 0
NoneBefore {X} fault xs n = (k : ℕ) (x : X) → k < n → slice_get xs k ≡ Some x → fault k x ≡ None

pub none_at_first : {X : Type 0} (fault : ℕ → X → Option ValidWord) (xs : List X) → NoneBefore fault xs 0
none_at_first fault xs k x h e = absurd (omega (arith, h))

same_entry : {X : Type 0} (xs : List X) (k n : ℕ) (x y : X) → k ≡ n → slice_get xs k ≡ Some x → slice_get xs n ≡ Some y → y ≡ x
same_entry xs k n x y e h g =
    let both : Some y ≡ Some x = sym g ∙ ap (slice_get xs) (sym e) ∙ h in cc

pub none_more : {X : Type 0} (fault : ℕ → X → Option ValidWord) (xs : List X) (n : ℕ) (y : X) →
    NoneBefore fault xs n → slice_get xs n ≡ Some y → fault n y ≡ None → NoneBefore fault xs (n + 1)
none_more fault xs n y none there here k x h e =
    elim (at_or_before k n h) [
      | inl before ↦ none k x before e
      | inr same ↦ ap (λ j. fault j x) same ∙ ap (fault n) (sym (same_entry xs k n x y same e there)) ∙ here
    ]
  where
    at_or_before : (k n : ℕ) → k < n + 1 → (k < n) ⊎ (k ≡ n)
    at_or_before k n h = grind arith

pub none_at_all : {X : Type 0} (fault : ℕ → X → Option ValidWord) (xs : List X) (n : ℕ) → length xs ≤ n →
    NoneBefore fault xs n → NoFault fault xs
none_at_all fault xs n h none k x e = none k x (let w = slice_get_within xs k x e in omega (arith, w, h)) e

pub first_fault : {X : Type 0} (fault : ℕ → X → Option ValidWord) (xs : List X) (places : List ℕ) (n : ℕ) (y : X) (w : ValidWord) →
    NoneBefore fault xs n → slice_get xs n ≡ Some y → fault n y ≡ Some w → length places ≡ length xs →
    FirstFault fault xs places (get_or places n 0) w
first_fault fault xs places n y w none there here same =
    record {
      entry = n;
      item = y;
      there = there;
      before = none;
      here = here;
      place = slice_get-get_or places n 0 (let i = slice_get_within xs n y there in omega (arith, i, same));
    }

-- the same, for items that a walk reads of a slice
pub none_more_read : {X : Type 0} (fault : ℕ → X → Option ValidWord) (xs ys : List X) (n : ℕ) (y : X) (o : Option ValidWord) →
    NoneBefore fault xs n → ys ≡ xs → n < length ys → y ≡ get_or ys n y → o ≡ fault n y → o ≡ None → NoneBefore fault xs (n + 1)
none_more_read fault xs ys n y o none e within read was is =
    none_more fault xs n y none (ap (λ zs. slice_get zs n) (sym e) ∙ slice_get-get_or ys n y within ∙ ap Some (sym read)) (sym was ∙ is)

pub none_at_end : {X : Type 0} (fault : ℕ → X → Option ValidWord) (xs ys : List X) (n : ℕ) → ys ≡ xs → length ys ≤ n →
    NoneBefore fault xs n → NoFault fault xs
none_at_end fault xs ys n e h none = none_at_all fault xs n (subst (λ (zs : List _). length zs ≤ n) e h) none

pub first_fault_read : {X : Type 0} (fault : ℕ → X → Option ValidWord) (xs ys : List X) (places : List ℕ) (n : ℕ) (y : X) (o : Option ValidWord) (w : ValidWord) →
    NoneBefore fault xs n → ys ≡ xs → n < length ys → y ≡ get_or ys n y → o ≡ fault n y → o ≡ Some w → length places ≡ length xs →
    FirstFault fault xs places (get_or places n 0) w
first_fault_read fault xs ys places n y o w none e within read was is same =
    first_fault fault xs places n y w none (ap (λ zs. slice_get zs n) (sym e) ∙ slice_get-get_or ys n y within ∙ ap Some (sym read)) (sym was ∙ is) same

-- the same, for an item that is read as the one at its number
pub none_more_at : {X : Type 0} (fault : ℕ → X → Option ValidWord) (xs ys : List X) (n : ℕ) (d : X) (o : Option ValidWord) →
    NoneBefore fault xs n → ys ≡ xs → n < length ys → o ≡ fault n (get_or ys n d) → o ≡ None → NoneBefore fault xs (n + 1)
none_more_at fault xs ys n d o none e within was is =
    none_more fault xs n (get_or ys n d) none (ap (λ zs. slice_get zs n) (sym e) ∙ slice_get-get_or ys n d within) (sym was ∙ is)

-- one more item that is counted or not
pub counted_more : {X Y : Type 0} (f : X → Option Y) (xs : List X) (n : ℕ) (y : X) (o : Option Y) → n < length xs → y ≡ get_or xs n y → f y ≡ o →
    length (filter_map f (take (n + 1) xs)) ≡ length (filter_map f (take n xs)) + (if is_some o then 1 else 0)
counted_more {X} {Y} f xs n y o within read e =
    ap (λ zs. length (filter_map f zs)) (take_more xs n y within) ∙
    ap length (filter_map-append f (take n xs) (get_or xs n y ∷ [])) ∙
    length-append (filter_map f (take n xs)) (filter_map f (get_or xs n y ∷ [])) ∙
    ap (λ k. length (filter_map f (take n xs)) + k) (ap (λ x. length (filter_map f (x ∷ []))) (sym read) ∙ one_of (f y) o e)
  where
    one_of : (p o : Option Y) → p ≡ o → length (cons_option p []) ≡ (if is_some o then 1 else 0)
    one_of None None e = refl
    one_of None (Some x) e = cc
    one_of (Some x) None e = cc
    one_of (Some x) (Some z) e = refl

pub counted_read : {X Y : Type 0} (f : X → Option Y) (xs ys : List X) (n : ℕ) (y : X) (count more : ℕ) → ys ≡ xs → n < length ys → y ≡ get_or ys n y →
    count ≡ length (filter_map f (take n xs)) → more ≡ (if is_some (f y) then 1 else 0) → count + more ≡ length (filter_map f (take (n + 1) xs))
counted_read {X} {Y} f xs ys n y count more e within read was is =
    let P : List X → Type 0 = λ zs. n < length zs in
    let inside : n < length xs = subst P e within in
    let one = counted_more f xs n y (f y) inside (read ∙ ap (λ (zs : List X). get_or zs n y) e) refl in
    ap (λ k. k + more) was ∙ ap (λ k. length (filter_map f (take n xs)) + k) is ∙ sym one

pub grown : {Y : Type 0} (o : Option Y) (count n more : ℕ) → count ≤ n → more ≡ (if is_some o then 1 else 0) → count + more ≤ n + 1
grown None count n more h is = let e : more ≡ 0 = is in omega (arith, h, e)
grown (Some y) count n more h is = let e : more ≡ 1 = is in omega (arith, h, e)

-- what one more item gives
pub gathered_read : {X Y : Type 0} (f : X → Option Y) (xs ys : List X) (n : ℕ) (y : X) (gathered more : List Y) → ys ≡ xs → n < length ys → y ≡ get_or ys n y →
    gathered ≡ filter_map f (take n xs) → more ≡ gathered ++ cons_option (f y) [] → more ≡ filter_map f (take (n + 1) xs)
gathered_read {X} {Y} f xs ys n y gathered more e within read was is =
    let P : List X → Type 0 = λ zs. n < length zs in
    let inside : n < length xs = subst P e within in
    is ∙ ap (λ zs. zs ++ cons_option (f y) []) was ∙ ap (λ (z : X). filter_map f (take n xs) ++ cons_option (f z) []) (read ∙ ap (λ (zs : List X). get_or zs n y) e) ∙
    sym (ap (filter_map f) (take_more xs n y inside) ∙ filter_map-append f (take n xs) (get_or xs n y ∷ []))

-- what holds of each item that a walk has read
pub each_more : {X : Type 0} (P : X → Type 0) (xs ys : List X) (n : ℕ) (y : X) → All P (take n xs) → ys ≡ xs → n < length ys → y ≡ get_or ys n y → P y → All P (take (n + 1) xs)
each_more {X} P xs ys n y all e within read here =
    let M : List X → Type 0 = λ zs. n < length zs in
    let inside : n < length xs = subst M e within in
    let same : y ≡ get_or xs n y = read ∙ ap (λ (zs : List X). get_or zs n y) e in
    let Q : List X → Type 0 = λ zs. All P zs in
    subst Q (sym (take_more xs n y inside)) (All-append P (take n xs) (get_or xs n y ∷ []) all (only (get_or xs n y) (subst P same here)))
  where
    only : (z : X) → P z → All P (z ∷ [])
    only z p zero d h = p
    only z p (suc k) d h = absurd (omega (arith, h))

pub each_all : {X : Type 0} (P : X → Type 0) (xs ys : List X) (n : ℕ) → All P (take n xs) → ys ≡ xs → length ys ≤ n → All P xs
each_all {X} P xs ys n all e h =
    let M : List X → Type 0 = λ zs. length zs ≤ n in
    let Q : List X → Type 0 = λ zs. All P zs in
    subst Q (take_all n xs (subst M e h)) all

pub of_item : {X : Type 0} (P : X → Type 0) (xs ys : List X) (n : ℕ) (y : X) → All P xs → ys ≡ xs → n < length ys → y ≡ get_or ys n y → P y
of_item {X} P xs ys n y all e within read =
    let M : List X → Type 0 = λ zs. n < length zs in
    let same : y ≡ get_or xs n y = read ∙ ap (λ (zs : List X). get_or zs n y) e in
    subst P (sym same) (all n y (subst M e within))

pub each_more_at : {X : Type 0} (P : X → Type 0) (xs : List X) (n : ℕ) (d : X) → All P (take n xs) → n < length xs → P (get_or xs n d) → All P (take (n + 1) xs)
each_more_at {X} P xs n d all within here =
    let Q : List X → Type 0 = λ zs. All P zs in
    subst Q (sym (take_more xs n d within)) (All-append P (take n xs) (get_or xs n d ∷ []) all (only (get_or xs n d) here))
  where
    only : (z : X) → P z → All P (z ∷ [])
    only z p zero e h = p
    only z p (suc k) e h = absurd (omega (arith, h))

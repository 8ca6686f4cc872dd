-- Lists under a function, and their items.
use Rattle.std.proofs.Common.{◌≡◌, ℕ, zero, suc, ◌<◌, if◌then◌else◌, Bool, true, false, List, [], ◌∷◌, ◌++◌, Option, Some, None, option_map, All, map, slice_get, get_or, set, reverse, sym, length, refl, ap, ◌∙◌, subst, arith}
use Rattle.std.proofs.lemmas.Option.{slice_get_within}
use Rattle.std.proofs.lemmas.List.{reverse-append, map-append}
use Rattle.std.proofs.lemmas.List.Elements.{All-nil, All-cons, All-append, All-head, All-tail}

module _ {A B : Type 0} (f : A → B) where
  -- What a list is whose image begins with y.
  pub record Cons (xs : List A) (y : B) (ys : List B) : Type 0 where
    pub first : A
    pub rest : List A
    pub is : xs ≡ first ∷ rest
    pub first_is : f first ≡ y
    pub rest_is : map f rest ≡ ys

  pub of_cons : (xs : List A) (y : B) (ys : List B) → map f xs ≡ y ∷ ys → Cons xs y ys
  of_cons [] y ys h = cc
  of_cons (x ∷ xs) y ys h = record { first = x; rest = xs; is = refl; first_is = cc; rest_is = cc }

  -- What a list is whose image has two parts.
  pub record Split (xs : List A) (ys zs : List B) : Type 0 where
    pub left : List A
    pub right : List A
    pub is : xs ≡ left ++ right
    pub left_is : map f left ≡ ys
    pub right_is : map f right ≡ zs

  pub of_append : (xs : List A) (ys zs : List B) → map f xs ≡ ys ++ zs → Split xs ys zs
  of_append xs [] zs h = record { left = []; right = xs; is = refl; left_is = refl; right_is = h }
  of_append xs (y ∷ ys) zs h =
      let c = of_cons xs y (ys ++ zs) h in
      let s = of_append c.rest ys zs c.rest_is in
      record {
        left = c.first ∷ s.left;
        right = s.right;
        is = c.is ∙ ap (λ r. c.first ∷ r) s.is;
        left_is = ap (λ x. x ∷ map f s.left) c.first_is ∙ ap (λ l. y ∷ l) s.left_is;
        right_is = s.right_is;
      }

  pub of_get : (xs : List A) (n : ℕ) (y : B) → slice_get (map f xs) n ≡ Some y → (x : A) × (slice_get xs n ≡ Some x) × (f x ≡ y)
  of_get [] n y h = cc
  of_get (x ∷ xs) zero y h = (x, refl, cc)
  of_get (x ∷ xs) (suc n) y h = of_get xs n y h

  pub get-map : (xs : List A) (n : ℕ) (x : A) → slice_get xs n ≡ Some x → slice_get (map f xs) n ≡ Some (f x)
  get-map [] n x h = cc
  get-map (y ∷ xs) zero x h = let e : y ≡ x = cc in ap (λ z. Some (f z)) e
  get-map (y ∷ xs) (suc n) x h = get-map xs n x h

  pub of_option_map : (o : Option A) (y : B) → option_map f o ≡ Some y → (x : A) × (o ≡ Some x) × (f x ≡ y)
  of_option_map None y h = cc
  of_option_map (Some x) y h = (x, refl, cc)

-- The item that is found at a place is the item there.
get_or-is : {A : Type 0} → (xs : List A) (n : ℕ) (x : A) → slice_get xs n ≡ Some x → get_or xs n x ≡ x
get_or-is [] n x h = cc
get_or-is (y ∷ xs) zero x h = cc
get_or-is (y ∷ xs) (suc n) x h = get_or-is xs n x h

-- What holds of all items holds of one that is found at a place.
pub all-get : {A : Type 0} → (P : A → Type 0) (xs : List A) (n : ℕ) (x : A) → All P xs → slice_get xs n ≡ Some x → P x
all-get P xs n x all h = subst P (get_or-is xs n x h) (all n x (slice_get_within xs n x h))

-- There is an item at each place below the length.
pub there : {A : Type 0} → (xs : List A) (n : ℕ) → n < length xs → (x : A) × (slice_get xs n ≡ Some x)
there [] n h = let no : ⊥ = omega arith in absurd no
there (x ∷ xs) zero h = (x, refl)
there (x ∷ xs) (suc n) h = there xs n (omega arith)

-- Two names for what is found are the same.
pub same_some : {A : Type 0} → (o : Option A) (x y : A) → o ≡ Some x → o ≡ Some y → x ≡ y
same_some o x y h k = cc

-- An item that is set to what it was.
pub set_same : {A : Type 0} → (xs : List A) (n : ℕ) (y : A) → slice_get xs n ≡ Some y → set xs n y ≡ xs
set_same [] n y h = cc
set_same (x ∷ xs) zero y h = let e : y ≡ x = cc in ap (λ z. z ∷ xs) e
set_same (x ∷ xs) (suc n) y h = ap (λ z. x ∷ z) (set_same xs n y h)

pub reverse-cons : {A : Type 0} → (x : A) (xs : List A) → reverse (x ∷ xs) ≡ reverse xs ++ x ∷ []
reverse-cons x xs = reverse-append (x ∷ []) xs

pub map-reverse : {A B : Type 0} → (f : A → B) (xs : List A) → map f (reverse xs) ≡ reverse (map f xs)
map-reverse f [] = refl
map-reverse f (x ∷ xs) =
    ap (map f) (reverse-cons x xs) ∙ map-append f (reverse xs) (x ∷ []) ∙ ap (λ l. l ++ f x ∷ []) (map-reverse f xs) ∙ sym (reverse-cons (f x) (map f xs))

pub All-reverse : {A : Type 0} → (P : A → Type 0) (xs : List A) → All P xs → All P (reverse xs)
All-reverse P [] h = All-nil P
All-reverse P (x ∷ xs) h =
    subst (All P) (sym (reverse-cons x xs)) (
    All-append P (reverse xs) (x ∷ []) (All-reverse P xs (All-tail P x xs h)) (All-cons P x [] (All-head P x xs h) (All-nil P))
    )

pub of_nil : {A B : Type 0} → (f : A → B) (xs : List A) → map f xs ≡ [] → xs ≡ []
of_nil f [] h = refl
of_nil f (x ∷ xs) h = cc

-- What holds of both choices holds of the choice.
pub chosen_has : {A : Type 0} → (P : A → Type 0) (b : Bool) (x y : A) → P x → P y → P (if b then x else y)
chosen_has P true x y h k = h
chosen_has P false x y h k = k

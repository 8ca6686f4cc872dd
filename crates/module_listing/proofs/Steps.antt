-- Lines that are written one after another: the step of each loop.
use Rattle.std.proofs.Common.{◌≡◌, ℕ, ◌+◌, ◌<◌, take, List, [], ◌∷◌, ◌++◌, length, get_or, Some, sym, refl, ap, ◌∙◌, arith}
use Rattle.std.specs.List.{slice_get, enumerate_from, flat_map, zip}
use Rattle.std.proofs.lemmas.List.{append-nil, flat_map_more, take_more, length-take-le}
use Rattle.std.proofs.lemmas.Option.{slice_get_within, slice_get_read, get_or_from_slice_get}
use Rattle.wasm_syntax.specs.declared.flat.Flat.{Flat}
use Rattle.wasm_syntax.specs.declared.module.Func.{Func}
use Rattle.module_listing.specs.Instructions.{item_line, items_text}
use Rattle.module_listing.specs.Listing.{entry_line, entries_text, func_code_text, code_text}

-- a front with the next element
take_next : {X : Type 0} (xs : List X) (i : ℕ) (x : X) → slice_get xs i ≡ Some x → take (i + 1) xs ≡ take i xs ++ x ∷ []
take_next xs i x g =
    take_more xs i x (slice_get_within xs i x g) ∙ ap (λ y. take i xs ++ y ∷ []) (get_or_from_slice_get xs i x x g)

-- a front has as many elements as are taken
length_front : {X : Type 0} (xs : List X) (i : ℕ) (x : X) → slice_get xs i ≡ Some x → length (take i xs) ≡ i
length_front xs i x g =
    let within : i < length xs = slice_get_within xs i x g in
    length-take-le i xs (omega arith)

-- one more element has the next number
enumerate-push : {X : Type 0} (first : ℕ) (xs : List X) (x : X) → enumerate_from first (xs ++ x ∷ []) ≡ enumerate_from first xs ++ (first + length xs, x) ∷ []
enumerate-push first [] x =
    let same : first ≡ first + 0 = omega arith in
    ap (λ n. (n, x) ∷ []) same
enumerate-push first (y ∷ ys) x =
    let same : first + 1 + length ys ≡ first + length (y ∷ ys) = omega arith in
    ap (λ l. (first, y) ∷ l) (enumerate-push (first + 1) ys x ∙ ap (λ n. enumerate_from (first + 1) ys ++ (n, x) ∷ []) same)

-- one more pair
zip-push : {X Y : Type 0} (xs : List X) (ys : List Y) (x : X) (y : Y) → length xs ≡ length ys → zip (xs ++ x ∷ []) (ys ++ y ∷ []) ≡ zip xs ys ++ (x, y) ∷ []
zip-push [] [] x y e = refl
zip-push [] (b ∷ bs) x y e =
    let no : ⊥ = omega arith in
    absurd no
zip-push (a ∷ rest) [] x y e =
    let no : ⊥ = omega arith in
    absurd no
zip-push (a ∷ rest) (b ∷ bs) x y e =
    let same : length rest ≡ length bs = omega arith in
    ap (λ l. (a, b) ∷ l) (zip-push rest bs x y same)

-- what is written for one more element
wrote_push : {X : Type 0} (f : X → List ℕ) (before out new : List ℕ) (xs more : List X) (x : X) → more ≡ xs ++ x ∷ [] → out ≡ before ++ flat_map f xs → new ≡ out ++ f x → new ≡ before ++ flat_map f more
wrote_push f before out new xs more x m w e =
    e ∙ ap (λ bs. bs ++ f x) w ∙ flat_map_more f before xs x ∙ ap (λ l. before ++ flat_map f l) (sym m)

-- nothing is written yet
pub no_entries : {A : Type 0} (word : List ℕ) (text : A → List ℕ) (first : ℕ) (before : List ℕ) → before ≡ before ++ entries_text word text first []
unfolding entries_text
no_entries word text first before = sym (append-nil before)

pub no_items : (before : List ℕ) → before ≡ before ++ items_text [] []
unfolding items_text
no_items before = sym (append-nil before)

pub no_code : (first : ℕ) (before : List ℕ) → before ≡ before ++ code_text first [] []
unfolding code_text
no_code first before = sym (append-nil before)

-- the next entry's line
pub next_entry : {A : Type 0} (word : List ℕ) (text : A → List ℕ) (first : ℕ) (before out new : List ℕ) (xs : List A) (i : ℕ) (x : A) → slice_get xs i ≡ Some x →
    out ≡ before ++ entries_text word text first (take i xs) → new ≡ out ++ entry_line word (first + i) (text x) →
    new ≡ before ++ entries_text word text first (take (i + 1) xs)
unfolding entries_text
next_entry word text first before out new xs i x g w e =
    let more : enumerate_from first (take (i + 1) xs) ≡ enumerate_from first (take i xs) ++ (first + i, x) ∷ [] =
    ap (λ l. enumerate_from first l) (take_next xs i x g) ∙ enumerate-push first (take i xs) x ∙
    ap (λ n. enumerate_from first (take i xs) ++ (first + n, x) ∷ []) (length_front xs i x g) in
    wrote_push (λ d. entry_line word d.0 (text d.1)) before out new (enumerate_from first (take i xs)) _ (first + i, x) more w e

-- fronts of two lists as pairs
zip_next : {X Y : Type 0} (xs : List X) (ys : List Y) (i : ℕ) (x : X) (y : Y) → slice_get xs i ≡ Some x → slice_get ys i ≡ Some y →
    zip (take (i + 1) xs) (take (i + 1) ys) ≡ zip (take i xs) (take i ys) ++ (x, y) ∷ []
zip_next xs ys i x y g h =
    ap (λ l. zip l (take (i + 1) ys)) (take_next xs i x g) ∙ ap (λ l. zip (take i xs ++ x ∷ []) l) (take_next ys i y h) ∙
    zip-push (take i xs) (take i ys) x y (length_front xs i x g ∙ sym (length_front ys i y h))

-- the next instruction's line
pub next_item : (before out new : List ℕ) (places : List ℕ) (items : List Flat) (i at : ℕ) (x : Flat) → slice_get places i ≡ Some at → slice_get items i ≡ Some x →
    out ≡ before ++ items_text (take i places) (take i items) → new ≡ out ++ item_line at x →
    new ≡ before ++ items_text (take (i + 1) places) (take (i + 1) items)
unfolding items_text
next_item before out new places items i at x g h w e =
    wrote_push (λ d. item_line d.0 d.1) before out new (zip (take i places) (take i items)) _ (at, x) (zip_next places items i at x g h) w e

-- how many pairs two lists of one length make
length_zip : {X Y : Type 0} (xs : List X) (ys : List Y) → length xs ≡ length ys → length (zip xs ys) ≡ length xs
length_zip [] ys e = refl
length_zip (x ∷ xs) [] e =
    let no : ⊥ = omega arith in
    absurd no
length_zip (x ∷ xs) (y ∷ ys) e =
    let rest : length xs ≡ length ys = omega arith in
    let same : length (zip xs ys) ≡ length xs = length_zip xs ys rest in
    omega (arith, same)

-- the next function's code
pub next_code : (first : ℕ) (before out new : List ℕ) (places : List (List ℕ)) (funcs : List Func) (i : ℕ) (at : List ℕ) (f : Func) → slice_get places i ≡ Some at → slice_get funcs i ≡ Some f →
    out ≡ before ++ code_text first (take i places) (take i funcs) → new ≡ out ++ func_code_text (first + i) at f →
    new ≡ before ++ code_text first (take (i + 1) places) (take (i + 1) funcs)
unfolding code_text
next_code first before out new places funcs i at f g h w e =
    let pairs : List (List ℕ × Func) = zip (take i places) (take i funcs) in
    let long : length (zip (take i places) (take i funcs)) ≡ i =
    length_zip (take i places) (take i funcs) (length_front places i at g ∙ sym (length_front funcs i f h)) ∙ length_front places i at g in
    let more : enumerate_from first (zip (take (i + 1) places) (take (i + 1) funcs)) ≡ enumerate_from first pairs ++ (first + i, (at, f)) ∷ [] =
    ap (λ l. enumerate_from first l) (zip_next places funcs i at f g h) ∙ enumerate-push first pairs (at, f) ∙
    ap (λ n. enumerate_from first pairs ++ (first + n, (at, f)) ∷ []) long in
    wrote_push (λ d. func_code_text d.0 d.1.0 d.1.1) before out new (enumerate_from first pairs) _ (first + i, (at, f)) more w e

-- an element that was read of a list that equals another one stands in that one
pub read_of : {X : Type 0} (items xs : List X) (i : ℕ) (x : X) → items ≡ xs → i < length items → x ≡ get_or items i x → slice_get xs i ≡ Some x
read_of items xs i x e within is = ap (λ l. slice_get l i) (sym e) ∙ slice_get_read items (length items) i x refl within is

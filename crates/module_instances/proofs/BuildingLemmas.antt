-- Lists that an instantiation makes, one item at a time, and what addresses are resolved to.
use Rattle.std.proofs.Common.{◌≡◌, ℕ, zero, suc, ◌+◌, ◌-◌, ◌<◌, ◌≤◌, List, [], ◌∷◌, ◌++◌, Option, Some, All, length, map, take, get_or, slice_get, refl, sym, ap, subst, ◌∙◌, arith, append_assoc}
use Rattle.std.specs.Prelude.{slice_index}
use Rattle.std.specs.List.{filter_map, cons_option, enumerate_from, range_with_len}
use Rattle.std.proofs.lemmas.List.{take_more, map-append, length-append}
use Rattle.std.proofs.Math.Seq.{get_or-append_right}
use Rattle.std.proofs.lemmas.List.FromFn.{get_or-range_with_len}
use Rattle.std.proofs.lemmas.List.Elements.{filter_map-append}
use Rattle.std.proofs.lemmas.Option.{slice_get-get_or}
use Rattle.wasm_syntax.specs.declared.module.FuncType.{FuncType}
use Rattle.wasm_syntax.specs.declared.module.Func.{Func as FuncOf}
use Rattle.wasm_syntax.specs.declared.module.Module.{Module}
use Rattle.wasm_typing.specs.Valid.{type_or_none, type_at}
use Rattle.wasm_store.specs.declared.store.FuncInst.{FuncInst}
use Rattle.wasm_store.specs.declared.store.FuncInst.TheVariants.{Code}
use Rattle.wasm_store.specs.declared.store.GlobalInst.{GlobalInst}
use Rattle.wasm_sessions.specs.Instantiation.{made_func, global_value}

range-more : (a n : ℕ) → range_with_len a (suc n) ≡ range_with_len a n ++ (a + n) ∷ []
range-more a zero = let e : a ≡ a + 0 = omega arith in ap (λ x. x ∷ []) e
range-more a (suc n) =
    let e : a + 1 + n ≡ a + suc n = omega arith in
    ap (λ l. a ∷ l) (range-more (a + 1) n ∙ ap (λ x. range_with_len (a + 1) n ++ x ∷ []) e)

-- One more address.
pub numbers_more : (start now next : List ℕ) (first k : ℕ) → now ≡ start ++ range_with_len first k → next ≡ now ++ (first + k) ∷ [] → next ≡ start ++ range_with_len first (k + 1)
numbers_more start now next first k was is =
    let shift : (start ++ range_with_len first k) ++ (first + k) ∷ [] ≡ start ++ (range_with_len first k ++ (first + k) ∷ []) = simp append_assoc in
    let e : suc k ≡ k + 1 = omega arith in
    is ∙ ap (λ l. l ++ (first + k) ∷ []) was ∙ shift ∙ ap (λ l. start ++ l) (sym (range-more first k) ∙ ap (range_with_len first) e)

-- What one more item gives.
pub gathered_more : {X Y : Type 0} → (f : X → Option Y) (xs : List X) (n : ℕ) (d : X) (gathered more : List Y) → n < length xs → gathered ≡ filter_map f (take n xs) → more ≡ gathered ++ cons_option (f (get_or xs n d)) [] → more ≡ filter_map f (take (n + 1) xs)
gathered_more f xs n d gathered more within was is =
    is ∙ ap (λ zs. zs ++ cons_option (f (get_or xs n d)) []) was
    ∙ sym (ap (filter_map f) (take_more xs n d within) ∙ filter_map-append f (take n xs) (get_or xs n d ∷ []))

enumerate-push : {X : Type 0} → (n : ℕ) (xs : List X) (y : X) → enumerate_from n (xs ++ y ∷ []) ≡ enumerate_from n xs ++ (n + length xs, y) ∷ []
enumerate-push n [] y = let e : n ≡ n + 0 = omega arith in ap (λ k. (k, y) ∷ []) e
enumerate-push n (x ∷ xs) y =
    let e : n + 1 + length xs ≡ n + length (x ∷ xs) = omega arith in
    ap (λ l. (n, x) ∷ l) (enumerate-push (n + 1) xs y ∙ ap (λ k. enumerate_from (n + 1) xs ++ (k, y) ∷ []) e)

length-take-within : {X : Type 0} → (k : ℕ) (xs : List X) → k < length xs → 0 + length (take k xs) ≡ k
length-take-within zero [] h = refl
length-take-within zero (x ∷ xs) h = refl
length-take-within (suc k) [] h = absurd (omega arith)
length-take-within (suc k) (x ∷ xs) h = let inner : k < length xs = omega arith in omega (arith, length-take-within k xs inner)

-- One more function of a module.
pub func_more : (m : Module) (n k : ℕ) (f : FuncOf) (slice : List FuncOf) (types : List FuncType) (r ty : FuncType) (made next : List FuncInst) → made ≡ map (made_func m n) (enumerate_from 0 (take k m.funcs)) → next ≡ made ++ Code ty n k ∷ [] → k < length slice → f ≡ get_or slice k f → slice ≡ m.funcs → ty ≡ r → r ≡ get_or types f.ty r → types ≡ m.types → All (λ (f : FuncOf). f.ty < length m.types) m.funcs → next ≡ map (made_func m n) (enumerate_from 0 (take (k + 1) m.funcs))
func_more m n k f slice types r ty made next was is within read same copied typed all known =
    let W : List FuncOf → Type 0 = λ l. k < length l in
    let inside : k < length m.funcs = subst W same within in
    let mine : f ≡ get_or m.funcs k f = read ∙ ap (λ l. get_or l k f) same in
    let K : FuncOf → Type 0 = λ f. f.ty < length m.types in
    let there : f.ty < length m.types = subst K (sym mine) (known k f inside) in
    let is_type : ty ≡ type_at m.types f.ty =
    copied ∙ typed ∙ ap (λ l. get_or l f.ty r) all ∙ sym (ap type_or_none (slice_get-get_or m.types f.ty r there))
    in
    let here : ty ≡ type_at m.types (get_or m.funcs k f).ty = is_type ∙ ap (λ (f : FuncOf). type_at m.types f.ty) mine in
    let one : enumerate_from 0 (take (k + 1) m.funcs) ≡ enumerate_from 0 (take k m.funcs) ++ (k, get_or m.funcs k f) ∷ [] =
    ap (enumerate_from 0) (take_more m.funcs k f inside) ∙ enumerate-push 0 (take k m.funcs) (get_or m.funcs k f)
    ∙ ap (λ j. enumerate_from 0 (take k m.funcs) ++ (j, get_or m.funcs k f) ∷ []) (length-take-within k m.funcs inside)
    in
    is ∙ ap (λ l. l ++ Code ty n k ∷ []) was
    ∙ ap (λ t. map (made_func m n) (enumerate_from 0 (take k m.funcs)) ++ Code t n k ∷ []) here
    ∙ sym (ap (map (made_func m n)) one ∙ map-append (made_func m n) (enumerate_from 0 (take k m.funcs)) ((k, get_or m.funcs k f) ∷ []))

-- ---- what an index is resolved to

-- The index of something new is resolved to it.
pub resolved_new : {A : Type 0} → (xs ys : List A) (imported : List ℕ) (x : ℕ) (y : A) → length imported ≤ x → x - length imported < length ys → y ≡ get_or ys (x - length imported) y → slice_get (xs ++ ys) (slice_index (imported ++ range_with_len (length xs) (length ys)) x) ≡ Some y
resolved_new xs ys imported x y past within is =
    let k = x - length imported in
    let address : slice_index (imported ++ range_with_len (length xs) (length ys)) x ≡ length xs + k =
    get_or-append_right imported (range_with_len (length xs) (length ys)) x 0 past ∙ get_or-range_with_len (length xs) (length ys) k 0 within
    in
    let inside : length xs + k < length (xs ++ ys) = omega (arith, length-append xs ys) in
    let beyond : length xs ≤ length xs + k = omega arith in
    let shift : length xs + k - length xs ≡ k = omega arith in
    ap (slice_get (xs ++ ys)) address ∙ slice_get-get_or (xs ++ ys) (length xs + k) y inside
    ∙ ap (λ v. Some v) (get_or-append_right xs ys (length xs + k) y beyond ∙ ap (λ j. get_or ys j y) shift ∙ sym is)

pub new_value : (xs ys : List GlobalInst) (imported : List ℕ) (x : ℕ) (y : GlobalInst) → length imported ≤ x → x - length imported < length ys → y ≡ get_or ys (x - length imported) y → y.value ≡ global_value (slice_get (xs ++ ys) (slice_index (imported ++ range_with_len (length xs) (length ys)) x))
new_value xs ys imported x y past within is = sym (ap global_value (resolved_new xs ys imported x y past within is))

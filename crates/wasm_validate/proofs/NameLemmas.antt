-- A set of names.
use denote.Ref.{Bor}
use Rattle.std.proofs.Common.{◌≡◌, ℕ, ◌+◌, ◌<◌, Bool, true, false, cond, not, ◌||◌, if◌then◌else◌, Some, None, List, [], ◌∷◌, ◌++◌, length, map, take, get_or, refl, sym, ap, subst, ◌∙◌}
use Rattle.std.specs.Ordering.{nat_cmp, is_eq}
use Rattle.std.specs.Cmp.Lexicographic.{slice_cmp, on_texts_equal}
use Rattle.std.specs.List.{list_any}
use Rattle.std.specs.Str.{bytes_eq}
use Rattle.std.specs.BTreeSet.{BTreeSet, contains_by}
use Rattle.std.specs.BTreeMap.{is_at}
use Rattle.std.proofs.lemmas.List.{take_more, map_push}
use Rattle.std.proofs.lemmas.List.Folds.{list_any-append}
use Rattle.std.proofs.lemmas.Map.Text.{is_eq-slice_cmp}
use Rattle.wasm_typing.specs.declared.fault.ValidWord.TheVariants as word
use Rattle.wasm_validate.specs.words.Names.{HasTexts}

pub none_seen : (set : BTreeSet (Bor (List ℕ))) → set.keys ≡ [] → HasTexts set []
none_seen set e text = ap (list_any (is_at (λ (k : Bor (List ℕ)). slice_cmp nat_cmp text.now k.now))) e

-- a text is the new name, or was there
either : (b c d : Bool) → b ≡ c → cond b true d ≡ (d || (c || false))
either true true d e = sym (with_true d)
  where
    with_true : (d : Bool) → (d || true) ≡ true
    with_true true = refl
    with_true false = refl
either false false true e = refl
either false false false e = refl
either true false d e = absurd cc
either false true d e = absurd cc

pub one_more : (set new : BTreeSet (Bor (List ℕ))) (name : Bor (List ℕ)) (texts : List (List ℕ)) → HasTexts set texts →
    ((q : Bor (List ℕ)) → contains_by (λ (k : Bor (List ℕ)). slice_cmp nat_cmp q.now k.now) new
    ≡ cond (is_eq (slice_cmp nat_cmp name.now q.now)) true (contains_by (λ (k : Bor (List ℕ)). slice_cmp nat_cmp q.now k.now) set)) →
    HasTexts new (texts ++ name.now ∷ [])
one_more set new name texts has updates q =
    let same : is_eq (slice_cmp nat_cmp name.now q.now) ≡ bytes_eq q.now name.now =
    is_eq-slice_cmp name.now q.now ∙ (on_texts_equal (λ (t : List ℕ). t)).symm name.now q.now in
    let old = contains_by (λ (k : Bor (List ℕ)). slice_cmp nat_cmp q.now k.now) set in
    updates q ∙ (either (is_eq (slice_cmp nat_cmp name.now q.now)) (bytes_eq q.now name.now) old same
    ∙ (ap (λ b. b || (bytes_eq q.now name.now || false)) (has q) ∙ sym (list_any-append (bytes_eq q.now) texts (name.now ∷ []))))

-- the names up to one more
pub names_more : {X : Type 0} (f : X → List ℕ) (xs ys : List X) (n : ℕ) (y : X) (set : BTreeSet (Bor (List ℕ))) → ys ≡ xs → n < length ys → y ≡ get_or ys n y →
    HasTexts set (map f (take n xs) ++ f y ∷ []) → HasTexts set (map f (take (n + 1) xs))
names_more {X} f xs ys n y set e within read has =
    let P : List X → Type 0 = λ zs. n < length zs in
    let inside : n < length xs = subst P e within in
    let item : y ≡ get_or xs n y = read ∙ ap (λ (zs : List X). get_or zs n y) e in
    let Q : List (List ℕ) → Type 0 = λ names. HasTexts set names in
    subst Q (ap (λ (z : X). map f (take n xs) ++ f z ∷ []) item ∙ sym (ap (map f) (take_more xs n y inside) ∙ map_push f (take n xs) (get_or xs n y))) has

-- an export that names something by a new name has no fault, and its name is added
pub new_row : (there fresh : Bool) (text name : List ℕ) (set : BTreeSet (Bor (List ℕ))) (seen : List (List ℕ)) {names : Bool} → text ≡ name → names ≡ there → names ≡ true →
    fresh ≡ not (list_any (bytes_eq text) seen) → fresh ≡ true → HasTexts set (seen ++ text ∷ []) →
    (None ≡ (if there then (if not (list_any (bytes_eq name) seen) then None else Some word.Export) else Some word.Index)) × HasTexts set (seen ++ name ∷ [])
new_row there fresh text name set seen same is found was new has =
    let Q : List ℕ → Type 0 = λ n. HasTexts set (seen ++ n ∷ []) in
    (no_fault there (list_any (bytes_eq name) seen) (sym is ∙ found) (sym (was ∙ ap (λ n. not (list_any (bytes_eq n) seen)) same) ∙ new), subst Q same has)
  where
    no_fault : (there used : Bool) → there ≡ true → not used ≡ true → None ≡ (if there then (if not used then None else Some word.Export) else Some word.Index)
    no_fault true false e f = refl
    no_fault true true e f = absurd cc
    no_fault false used e f = absurd cc

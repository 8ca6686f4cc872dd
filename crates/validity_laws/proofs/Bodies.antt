-- A body is valid, or has a first fault.
use Rattle.std.proofs.Common.{◌≡◌, ℕ, zero, suc, ◌+◌, ◌<◌, false, List, [], ◌∷◌, ◌++◌, length, slice_get, get_or, Some, None, refl, sym, ap, ◌∙◌, subst, add-one, ◌⊎◌, inl, inr, arith}
use Rattle.std.proofs.lemmas.List.{length-append}
use Rattle.std.proofs.lemmas.Option.{slice_get-get_or}
use Rattle.std.proofs.Math.Seq.{get_or-append_seam}
use Rattle.wasm_syntax.specs.declared.instr.Instr.{Instr}
use Rattle.wasm_syntax.specs.declared.flat.Flat.{Flat}
use Rattle.wasm_syntax.specs.declared.flat.Flat.TheVariants as flat
use Rattle.wasm_syntax.specs.FlatForm.{flat_body}
use Rattle.wasm_syntax.specs.FlatForm as form
use Rattle.wasm_syntax.specs.Parts.{Part, own}
use Rattle.wasm_syntax.specs.Trees.{sequence_of}
use Rattle.wasm_typing.specs.declared.fault.ValidWord.{ValidWord}
use Rattle.wasm_typing.specs.Typing.{Context, BodyTyped}
use Rattle.wasm_typing.specs.faults.Open.{labels_of, PartsTyped, parts_before, TypedThrough}
use Rattle.wasm_typing.specs.faults.Faults.{item_word, BodyFault}
use Rattle.body_check.specs.words.Operands.{Are}
use Rattle.body_check.specs.words.Walks.{then_inner, IsOpen}
use Rattle.body_check.proofs.WalkLemmas.{open_typed, body_typed, body_untyped}
use Rattle.body_check.proofs.BodyLemmas.{first_parts, next_parts, whole_parts, simple_at, some_items, TypedBefore}
use Rattle.validity_laws.proofs.Known.{Decided}
use Rattle.validity_laws.proofs.Steps.{Stands, Passes, operands, are, passes}

-- a body has a first fault
abbrev pub Faulty : Context → List Instr → List ℕ → Type 0
Faulty c body places = (at : ℕ) × (w : ValidWord) × BodyFault c body places at w

-- up to a place it has a typing
abbrev Reached : Context → List Instr → ℕ → Type 0
Reached c body n = Stands c (parts_before body n) × TypedBefore c body n

begun : (c : Context) (body : List Instr) → Reached c body 0
begun c body =
    let M : List Part → Type 0 = λ ps. Stands c ps in
    let start : Stands c (own [] ∷ []) = record { here = operands [] [] false; opens = []; stand = (((λ ts a. sym a, λ ts a. sym a), tt), (refl, refl)) } in
    (subst M (sym (first_parts body)) start, λ k less. absurd (omega (arith, less)))

-- the item at a place is no fault
further : (c : Context) (body : List Instr) (n : ℕ) → n + 1 < length (flat_body body) → TypedBefore c body n → Stands c (parts_before body (n + 1)) → Reached c body (n + 1)
further c body n less before h = (h, λ k within. elim (at_or_before k within) [ inl b ↦ before k b | inr e ↦ here k e ])
  where
    at_or_before : (k : ℕ) → k < n + 1 → (k < n) ⊎ (k ≡ n)
    at_or_before k h = grind arith

    here : (k : ℕ) → k ≡ n → TypedThrough c body k
    here k e =
        let T : ℕ → Type 0 = λ m. TypedThrough c body m in
        subst T (sym e) ((λ _. open_typed c None h.here h.opens (parts_before body (n + 1)) h.stand), λ same. absurd (omega (arith, less, same)))

-- the item at a place is one
faulty_at : (c : Context) (body : List Instr) (places : List ℕ) (n : ℕ) (x : Flat) → length places ≡ length (flat_body body) → n < length (flat_body body) → slice_get (flat_body body) n ≡ Some x →
    TypedBefore c body n → (TypedThrough c body n → ⊥) → Faulty c body places
faulty_at c body places n x same within there before never =
    let w = item_word c (labels_of c (parts_before body n)) x in (
      get_or places n 0,
      w,
      record {
        number = n;
        item = x;
        there = there;
        before = before;
        here = never;
        word_is = refl;
        place = slice_get-get_or places n 0 (omega (arith, within, same));
      },
    )

next : (c : Context) (body : List Instr) (places : List ℕ) (n : ℕ) (x : Flat) → length places ≡ length (flat_body body) → n + 1 < length (flat_body body) → slice_get (flat_body body) n ≡ Some x →
    Reached c body n → Reached c body (n + 1) ⊎ Faulty c body places
next c body places n x same less there h = by_item (passes c (parts_before body n) x (simple_at body n x there) h.0)
  where
    by_item : Passes c (then_inner (parts_before body n) x) → Reached c body (n + 1) ⊎ Faulty c body places
    by_item (inl p) = let M : List Part → Type 0 = λ ps. Stands c ps in inl (further c body n less h.1 (subst M (sym (next_parts body n x there)) p))
    by_item (inr never) =
        let M : List Part → Type 0 = λ ps. PartsTyped c None ps in
        inr (faulty_at c body places n x same (omega (arith, less)) there h.1 (λ t. never (subst M (next_parts body n x there) (t.0 less))))

reached : (c : Context) (body : List Instr) (places : List ℕ) → length places ≡ length (flat_body body) → (n : ℕ) → n < length (flat_body body) → Reached c body n ⊎ Faulty c body places
reached c body places same zero less = inl (begun c body)
reached c body places same (suc n) less = by_before (reached c body places same n (omega (arith, less)))
  where
    by_before : Reached c body n ⊎ Faulty c body places → Reached c body (suc n) ⊎ Faulty c body places
    by_before (inr f) = inr f
    by_before (inl h) =
        let x = get_or (flat_body body) n flat.End in
        let R : ℕ → Type 0 = λ k. Reached c body k ⊎ Faulty c body places in
        subst R (add-one n) (next c body places n x same (omega (arith, less)) (slice_get-get_or (flat_body body) n flat.End (omega (arith, less))) h)

-- ---- the last `end`

last_of : (xs : List Flat) (x : Flat) (n : ℕ) → n + 1 ≡ length (xs ++ x ∷ []) → slice_get (xs ++ x ∷ []) n ≡ Some x
last_of xs x n e =
    let l = length-append xs (x ∷ []) in
    let m : n ≡ length xs = omega (arith, e, l) in
    slice_get-get_or (xs ++ x ∷ []) n x (omega (arith, e)) ∙ ap Some (ap (λ k. get_or (xs ++ x ∷ []) k x) m ∙ get_or-append_seam xs x [] x)

ended : (c : Context) (body : List Instr) (places : List ℕ) (n : ℕ) → length places ≡ length (flat_body body) → n + 1 ≡ length (flat_body body) → Reached c body n → BodyTyped c (sequence_of body) ⊎ Faulty c body places
ended c body places n same e h = by_results (are h.0.here c.results)
  where
    whole : IsOpen c None h.0.here h.0.opens (own body ∷ [])
    whole = let M : List Part → Type 0 = λ ps. IsOpen c None h.0.here h.0.opens ps in subst M (whole_parts body n e) h.0.stand

    by_results : Decided (Are h.0.here c.results) → BodyTyped c (sequence_of body) ⊎ Faulty c body places
    by_results (inl a) = inl (body_typed c h.0.here h.0.opens body whole a)
    by_results (inr never) =
        inr (faulty_at c body places n flat.End same (omega (arith, e)) (last_of (form.flat body) flat.End n e) h.1 (λ t. body_untyped c h.0.here h.0.opens body whole never (t.1 e)))

pub body_decided : (c : Context) (body : List Instr) (places : List ℕ) → length places ≡ length (flat_body body) → BodyTyped c (sequence_of body) ⊎ Faulty c body places
body_decided c body places same = by_last (length (flat_body body)) refl (some_items body)
  where
    by_last : (n : ℕ) → n ≡ length (flat_body body) → 0 < n → BodyTyped c (sequence_of body) ⊎ Faulty c body places
    by_last zero e some = absurd (omega (arith, some))
    by_last (suc n) e some = by_reached (reached c body places same n (omega (arith, e)))
      where
        by_reached : Reached c body n ⊎ Faulty c body places → BodyTyped c (sequence_of body) ⊎ Faulty c body places
        by_reached (inl h) = ended c body places n same (omega (arith, e)) h
        by_reached (inr f) = inr f

-- The walk over a whole body.
use Rattle.std.proofs.Common.{◌≡◌, ℕ, ◌+◌, ◌<◌, ◌⊎◌, inl, inr, List, [], ◌∷◌, ◌++◌, length, reverse, take, slice_get, get_or, Some, None, refl, sym, ap, ◌∙◌, subst, arith}
use Rattle.std.proofs.lemmas.Grind.{common_steps}
use Rattle.std.proofs.lemmas.List.{length-append}
use Rattle.std.proofs.Math.Seq.{get_or-append_seam}
use Rattle.std.proofs.lemmas.Option.{slice_get-get_or}
use Rattle.wasm_syntax.specs.declared.instr.Instr.{Instr}
use Rattle.wasm_syntax.specs.declared.flat.Flat.{Flat}
use Rattle.wasm_syntax.specs.declared.flat.Flat.TheVariants as flat
use Rattle.wasm_syntax.specs.FlatForm.{flat_body}
use Rattle.wasm_syntax.specs.FlatForm as form
use Rattle.wasm_syntax.specs.Trees.{sequence_of}
use Rattle.wasm_syntax.specs.Parts.{Part, own, parts_of}
use Rattle.wasm_syntax.proofs.PartLemmas.{parts_of-none}
use Rattle.wasm_syntax.proofs.PartLaws.{parts_of-flat, parts_of-take}
use Rattle.wasm_syntax.proofs.NextLaws.{OneAt-item}
use Rattle.wasm_typing.specs.declared.fault.ValidWord.{ValidWord}
use Rattle.wasm_typing.specs.declared.fault.ValidWord.TheVariants as word
use Rattle.body_check.specs.declared.walk.Walk.{Walk}
use Rattle.wasm_typing.specs.Typing.{Types, Context, BodyTyped}
use Rattle.wasm_typing.specs.faults.Open.{PartsTyped, parts_before, TypedThrough}
use Rattle.wasm_values.specs.declared.number.ValType.{ValType}
use Rattle.wasm_syntax.specs.declared.module.FuncType.{FuncType}
use Rattle.wasm_typing.specs.Valid.{type_at, type_or_none}
use Rattle.wasm_typing.specs.faults.Faults.{BodyFault}
use Rattle.body_check.specs.words.Operands.{Are}
use Rattle.body_check.specs.words.Walks.{then_inner, IsAt, Walked, IsOneSimple}
use Rattle.body_check.proofs.WalkLemmas.{inner_of, open_typed, body_typed, body_untyped}

pub first_parts : (body : List Instr) → parts_before body 0 ≡ own [] ∷ []
first_parts body = ap reverse (parts_of-none (take 0 (flat_body body)) refl)

pub next_parts : (body : List Instr) (n : ℕ) (x : Flat) → slice_get (flat_body body) n ≡ Some x → parts_before body (n + 1) ≡ then_inner (parts_before body n) x
next_parts body n x h = ap reverse (parts_of-take (flat_body body) n x h) ∙ inner_of (parts_of (take n (flat_body body))) x

taken_all : (xs : List Flat) (x : Flat) (n : ℕ) → n + 1 ≡ length (xs ++ x ∷ []) → take n (xs ++ x ∷ []) ≡ xs
taken_all xs x n e = grind (arith, common_steps)

last_of : (xs : List Flat) (x : Flat) (n : ℕ) → n + 1 ≡ length (xs ++ x ∷ []) → slice_get (xs ++ x ∷ []) n ≡ Some x
last_of xs x n e =
    let l = length-append xs (x ∷ []) in
    let m : n ≡ length xs = omega (arith, e, l) in
    slice_get-get_or (xs ++ x ∷ []) n x (omega (arith, e)) ∙ ap Some (ap (λ k. get_or (xs ++ x ∷ []) k x) m ∙ get_or-append_seam xs x [] x)

pub some_items : (body : List Instr) → 0 < length (flat_body body)
some_items body = let l = length-append (form.flat body) (flat.End ∷ []) in omega (arith, l)

pub whole_parts : (body : List Instr) (n : ℕ) → n + 1 ≡ length (flat_body body) → parts_before body n ≡ own body ∷ []
whole_parts body n e = ap (λ xs. reverse (parts_of xs)) (taken_all (form.flat body) flat.End n e) ∙ ap reverse (parts_of-flat body)

pub simple_at : (body : List Instr) (n : ℕ) (x : Flat) → slice_get (flat_body body) n ≡ Some x → IsOneSimple x
simple_at body n (flat.One i) h = (OneAt-item body n i h).simple
simple_at body n (flat.Block ty) h = tt
simple_at body n (flat.Loop ty) h = tt
simple_at body n (flat.If ty) h = tt
simple_at body n flat.Else h = tt
simple_at body n flat.End h = tt

abbrev pub TypedBefore : Context → List Instr → ℕ → Type 0
TypedBefore c body n = (k : ℕ) → k < n → TypedThrough c body k

pub begun_at : (c : Context) (w : Walk) (body : List Instr) → IsAt c w (own [] ∷ []) → IsAt c w (parts_before body 0) × TypedBefore c body 0
begun_at c w body h =
    ((let M : List Part → Type 0 = λ ps. IsAt c w ps in subst M (sym (first_parts body)) h), λ k less. absurd (omega (arith, less)))

pub further : (c : Context) (w n : Walk) (body : List Instr) (k : ℕ) (x : Flat) → k + 1 < length (flat_body body) → slice_get (flat_body body) k ≡ Some x →
    TypedBefore c body k → Walked None c n (parts_before body k) x → IsAt c n (parts_before body (k + 1)) × TypedBefore c body (k + 1)
further c w n body k x less there before h =
    let M : List Part → Type 0 = λ ps. IsAt c n ps in
    let at = subst M (sym (next_parts body k x there)) h in
    (at, λ j h'. elim (at_or_before j k h') [ inl b ↦ before j b | inr e ↦ here at j e ])
  where
    at_or_before : (j k : ℕ) → j < k + 1 → (j < k) ⊎ (j ≡ k)
    at_or_before j k h = grind arith

    here : IsAt c n (parts_before body (k + 1)) → (j : ℕ) → j ≡ k → TypedThrough c body j
    here at j e =
        let T : ℕ → Type 0 = λ m. TypedThrough c body m in
        subst T (sym e) ((λ _. open_typed c None n.operands _ (parts_before body (k + 1)) at.open_), λ same. absurd (omega (arith, less, same)))

pub fault_at : (c : Context) (n : Walk) (body : List Instr) (places : List ℕ) (k : ℕ) (x : Flat) (w : ValidWord) → k + 1 < length (flat_body body) → length places ≡ length (flat_body body) →
    slice_get (flat_body body) k ≡ Some x → TypedBefore c body k → Walked (Some w) c n (parts_before body k) x → BodyFault c body places (get_or places k 0) w
fault_at c n body places k x w less same there before h =
    record {
      number = k;
      item = x;
      there = there;
      before = before;
      here = λ t. h.0 (let M : List Part → Type 0 = λ ps. PartsTyped c None ps in subst M (next_parts body k x there) (t.0 less));
      word_is = h.1;
      place = slice_get-get_or places k 0 (omega (arith, less, same));
    }

pub ended : (c : Context) (w : Walk) (body : List Instr) (n : ℕ) → n + 1 ≡ length (flat_body body) → IsAt c w (parts_before body n) → Are w.operands c.results → BodyTyped c (sequence_of body)
ended c w body n e h a =
    let M : List Part → Type 0 = λ ps. IsAt c w ps in
    body_typed c w.operands _ body (subst M (whole_parts body n e) h).open_ a

pub fault_at_end : (c : Context) (w : Walk) (body : List Instr) (places : List ℕ) (n : ℕ) → n + 1 ≡ length (flat_body body) → length places ≡ length (flat_body body) →
    IsAt c w (parts_before body n) → TypedBefore c body n → (Are w.operands c.results → ⊥) → BodyFault c body places (get_or places n 0) word.Stack
fault_at_end c w body places n e same h before never =
    let M : List Part → Type 0 = λ ps. IsAt c w ps in
    record {
      number = n;
      item = flat.End;
      there = last_of (form.flat body) flat.End n e;
      before = before;
      here = λ t. body_untyped c w.operands _ body (subst M (whole_parts body n e) h).open_ never (t.1 e);
      word_is = refl;
      place = slice_get-get_or places n 0 (omega (arith, e, same));
    }

-- ---- what a function's body may name

type_at_is : (types : List FuncType) (t : ℕ) (ty : FuncType) → t < length types → ty ≡ get_or types t ty → type_at types t ≡ ty
type_at_is types t ty h read = ap type_or_none (slice_get-get_or types t ty h ∙ ap Some (sym read))

pub params_at : (types ys : List FuncType) (t : ℕ) (ty : FuncType) (params : List ValType) → ys ≡ types → t < length ys → ty ≡ get_or ys t ty → params ≡ ty.params → params ≡ (type_at types t).params
params_at types ys t ty params e h read same =
    same ∙ ap (λ (u : FuncType). u.params) (sym (type_at_is ys t ty h read)) ∙ ap (λ (us : List FuncType). (type_at us t).params) e

pub results_at : (types ys : List FuncType) (t : ℕ) (ty : FuncType) (results : Types) (listed : List ValType) → ys ≡ types → t < length ys → ty ≡ get_or ys t ty → listed ≡ ty.results →
    results ≡ reverse listed → results ≡ reverse (type_at types t).results
results_at types ys t ty results listed e h read same was =
    was ∙ ap reverse (same ∙ ap (λ (u : FuncType). u.results) (sym (type_at_is ys t ty h read)) ∙ ap (λ (us : List FuncType). (type_at us t).results) e)

-- Types of values, one by one.
use Rattle.std.proofs.Common.{◌≡◌, ℕ, ◌+◌, ◌<◌, zero, suc, true, arith, List, [], ◌∷◌, ◌++◌, All, length, take, get_or, sym, ap, subst, ◌∙◌}
use Rattle.std.proofs.lemmas.List.{take_more, map-append}
use Rattle.std.proofs.lemmas.List.Elements.{All-append}
use Rattle.wasm_values.specs.declared.number.Val.{Val}
use Rattle.wasm_values.specs.declared.number.ValType.{ValType}
use Rattle.wasm_values.specs.Operators.{type_of}
use Rattle.wasm_typing.specs.Valid.{ValInRange}
use Rattle.wasm_values.specs.Types.{is_same_type}
use Rattle.wasm_values.proofs.TypeLaws.{type-eq}
use Rattle.type_safety.specs.Shapes.{types}

only : {A : Type 0} → (P : A → Type 0) (x : A) → P x → All P (x ∷ [])
only P x h zero d w = h
only P x h (suc k) d w = absurd (omega arith)

-- The types of one more value.
pub have_more : (vs : List Val) (ts : List ValType) (k : ℕ) (v : Val) (t : ValType) → k < length vs → length vs ≡ length ts → is_same_type (type_of (get_or vs k v)) (get_or ts k t) ≡ true → ValInRange (get_or vs k v) → types (take k vs) ≡ take k ts → All ValInRange (take k vs) → (types (take (k + 1) vs) ≡ take (k + 1) ts) × All ValInRange (take (k + 1) vs)
have_more vs ts k v t within long same range before all =
    let inside : k < length ts = subst (λ n. k < n) long within in
    let one = type-eq (type_of (get_or vs k v)) (get_or ts k t) same in
    let P : List Val → Type 0 = λ l. All ValInRange l in (
      ap types (take_more vs k v within) ∙ map-append type_of (take k vs) (get_or vs k v ∷ []) ∙ ap (λ l. l ++ type_of (get_or vs k v) ∷ []) before
          ∙ ap (λ x. take k ts ++ x ∷ []) one ∙ sym (take_more ts k t inside),
      subst P (sym (take_more vs k v within)) (All-append ValInRange (take k vs) (get_or vs k v ∷ []) all (only ValInRange (get_or vs k v) range)),
    )

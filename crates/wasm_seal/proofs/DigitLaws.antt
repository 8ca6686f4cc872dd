-- The digits of a number, one more in front.
use Rattle.std.proofs.Common.{◌≡◌, ℕ, zero, suc, ◌+◌, ◌-◌, ◌/◌, ◌%◌, ◌≤◌, false, List, [], ◌∷◌, ◌++◌, Result, Ok, Err, refl, ap, append_assoc, ◌∙◌, arith}
use Rattle.std.specs.Prelude.{OnOk}
use Rattle.std.proofs.lemmas.Bool.{le-ltb}
use Rattle.wasm_write.specs.Shortest.{digits}

pub on_ok : {A E P Q : Type 0} (r : Result A E) → (P → Q) → OnOk r P → OnOk r Q
on_ok (Ok x) f h = f h
on_ok (Err e) f h = tt

more_digits : (more value : ℕ) → (more ≡ 0 → ⊥) → 128 ≤ value → (128 + value % 128) ∷ digits false 128 (more - 1) (value / 128) ≡ digits false 128 more value
unfolding digits
more_digits zero value some great = absurd (some refl)
more_digits (suc more) value some great = let e : suc more - 1 ≡ more = omega arith in rw (e, le-ltb value 128 great) refl

pub pushed_digits : (old mid new : List ℕ) (more value : ℕ) → (more ≡ 0 → ⊥) → 128 ≤ value → mid ≡ old ++ (128 + value % 128) ∷ [] → new ≡ mid ++ digits false 128 (more - 1) (value / 128) → new ≡ old ++ digits false 128 more value
pushed_digits old mid new more value some great e h =
    h ∙ ap (λ t. t ++ digits false 128 (more - 1) (value / 128)) e ∙ append_assoc old ((128 + value % 128) ∷ []) (digits false 128 (more - 1) (value / 128)) ∙
    ap (λ t. old ++ t) (more_digits more value some great)

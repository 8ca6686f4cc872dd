-- Walks over lists that change a state at each item, up to the first refusal.
use Rattle.std.proofs.Common.{◌≡◌, ℕ, ◌+◌, ◌<◌, ◌≤◌, List, [], ◌∷◌, length, drop, get_or, Option, Some, None, IfSome, refl, sym, ap, ◌∙◌}
use Rattle.std.specs.Prelude.{Ok, Err}
use Rattle.std.proofs.lemmas.List.{drop_more, drop_all}
use Rattle.wasm_values.specs.declared.number.ValType.{ValType}
use Rattle.outline_rules.specs.Refusals.{Ruling, Refusal, ◌>>=◌}
use Rattle.outline_rules.specs.States.{State, settled, fresh, with_typed}
use Rattle.outline_rules.specs.Entry.{with_new_local, params_entered, locals_entered}
use Rattle.outline_entry.specs.words.Parts.{local_entered}

-- a walk that is a step at each item
module _ {A : Type 0} (step : A → State → Ruling State) (walk : List A → State → Ruling State)
    (more : (x : A) (xs : List A) (s : State) → walk (x ∷ xs) s ≡ (step x s >>= walk xs))
    (whole : Ruling State) (xs : List A) (i : ℕ) (x : A) (s : State) (low : i < length xs) (at : x ≡ get_or xs i x) (is : whole ≡ walk (drop i xs) s) where
  here : whole ≡ (step x s >>= walk (drop (i + 1) xs))
  here = is ∙ ap (λ ys. walk ys s) (drop_more xs i x low) ∙ ap (λ y. walk (y ∷ drop (i + 1) xs) s) (sym at) ∙ more x (drop (i + 1) xs) s

  pub walk-next : (t : State) → step x s ≡ Ok t → whole ≡ walk (drop (i + 1) xs) t
  walk-next t gives = here ∙ ap (λ r. r >>= walk (drop (i + 1) xs)) gives

  pub walk-stop : (o : Option Refusal) → IfSome o (λ e. step x s ≡ Err e) → IfSome o (λ e. whole ≡ Err e)
  walk-stop None fails = tt
  walk-stop (Some e) fails = here ∙ ap (λ r. r >>= walk (drop (i + 1) xs)) fails

-- ---- locals

abbrev pub param_entered : ValType → State → Ruling State
param_entered ty s = settled [] (with_new_local ty (fresh s) (with_typed ty s))

module _ (whole : Ruling State) (tys : List ValType) (i : ℕ) (ty : ValType) (s : State) (low : i < length tys) (at : ty ≡ get_or tys i ty) where
  module _ (is : whole ≡ params_entered (drop i tys) s) where
    pub params-next : (t : State) → param_entered ty s ≡ Ok t → whole ≡ params_entered (drop (i + 1) tys) t
    params-next = walk-next param_entered params_entered (λ _ _ _. refl) whole tys i ty s low at is

    pub params-stop : (o : Option Refusal) → IfSome o (λ e. param_entered ty s ≡ Err e) → IfSome o (λ e. whole ≡ Err e)
    params-stop = walk-stop param_entered params_entered (λ _ _ _. refl) whole tys i ty s low at is

  module _ (is : whole ≡ locals_entered (drop i tys) s) where
    pub locals-next : (t : State) → local_entered ty s ≡ Ok t → whole ≡ locals_entered (drop (i + 1) tys) t
    locals-next = walk-next local_entered locals_entered (λ _ _ _. refl) whole tys i ty s low at is

    pub locals-stop : (o : Option Refusal) → IfSome o (λ e. local_entered ty s ≡ Err e) → IfSome o (λ e. whole ≡ Err e)
    locals-stop = walk-stop local_entered locals_entered (λ _ _ _. refl) whole tys i ty s low at is

pub params-end : (whole : Ruling State) (tys : List ValType) (i : ℕ) (s : State) → length tys ≤ i → whole ≡ params_entered (drop i tys) s → whole ≡ Ok s
params-end whole tys i s high is = is ∙ ap (λ ys. params_entered ys s) (drop_all i tys high)

pub locals-end : (whole : Ruling State) (tys : List ValType) (i : ℕ) (s : State) → length tys ≤ i → whole ≡ locals_entered (drop i tys) s → whole ≡ Ok s
locals-end whole tys i s high is = is ∙ ap (λ ys. locals_entered ys s) (drop_all i tys high)

-- What holds of each moment of a session.
use Rattle.std.proofs.Common.{◌≡◌, ℕ, zero, suc, ◌+◌, List, [], ◌∷◌, Some, slice_get, refl, sym, subst, ◌∙◌, arith, add-one, All}
use Rattle.wasm_store.specs.Configuration.{Configuration, started}
use Rattle.type_safety.specs.Typed.{Typed}
use Rattle.wasm_sessions.specs.Sessions.{IsSession}
use Rattle.wasm_sessions.specs.Safety.{ActionsPreserve, SessionsAreTyped}

-- Where there is an item after a place there is one at that place.
item_before : {A : Type 0} → (xs : List A) (k : ℕ) (y : A) → slice_get xs (suc k) ≡ Some y → (x : A) × (slice_get xs k ≡ Some x)
item_before [] k y h = cc
item_before (x ∷ xs) zero y h = (x, refl)
item_before (x ∷ xs) (suc k) y h = item_before xs k y h

some-eq : {A : Type 0} → (x y : A) → Some x ≡ Some y → x ≡ y
some-eq x y h = cc

none : {X : Type 0} (P : X → Type 0) → All P []
none P = λ k d h. let no : ⊥ = omega arith in absurd no

started-typed : Typed started
started-typed =
    record {
      store = record { funcs = none _; tables = none _; memories = none _; globals = none _; instances = none _ };
      outcome = (refl, none _);
      frames = tt;
    }

typed-at : ActionsPreserve → (moments : List Configuration) (k : ℕ) (c : Configuration) → IsSession moments → slice_get moments k ≡ Some c → Typed c
typed-at keeps moments zero c session h = subst Typed (some-eq started c (sym session.first ∙ h)) started-typed
typed-at keeps moments (suc k) c session h =
    let before = item_before moments k c h in
    let there : slice_get moments (k + 1) ≡ Some c = rw add-one h in
    let follows = session.next k before.0 c before.1 there in
    keeps follows.0 before.0 c (typed-at keeps moments k before.0 session before.1) follows.1

pub sessions-typed : ActionsPreserve → SessionsAreTyped
sessions-typed keeps moments k c session h = typed-at keeps moments k c session h

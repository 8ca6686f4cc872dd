-- Each module has bounds.
use Rattle.std.proofs.Common.{◌≡◌, ℕ, zero, suc, ◌<◌, ◌≤◌, List, Option, Some, None, ◌⊎◌, inl, inr, length, replicate, map, slice_get, refl, sym, subst, ◌∙◌, arith}
use Rattle.std.specs.Prelude.{slice_set}
use Rattle.std.proofs.lemmas.Bool.{cases_lt}
use Rattle.std.proofs.lemmas.Option.{slice_get_within, same_Some}
use Rattle.wasm_syntax.specs.declared.module.Func.{Func}
use Rattle.wasm_syntax.specs.declared.module.Module.{Module}
use Rattle.step_bound.specs.declared.bound.Bound.{Bound}
use Rattle.step_bound.specs.Bounds.{imported_funcs}
use Rattle.step_bound.specs.Told.{AreBoundsOf}
use Rattle.step_bound.specs.words.Sums.{known_at, called, body_bound}
use Rattle.step_bound.specs.words.Tables.{IsRight, IsSettled, missing, told_of}
use Rattle.step_bound.proofs.Tables.{body_right, told_right, nothing_known, set_right, set_fewer, known_settled, all_settled}

-- The bound of a function can come to be known.
record CanSettle (m : Module) (bounds : List (Option ℕ)) : Type 0 where
  place : ℕ
  func : Func
  there : slice_get m.funcs place ≡ Some func
  unknown : known_at bounds place ≡ None
  bound : ℕ
  bound_is : body_bound (called (imported_funcs m) bounds) func.body ≡ Some bound

module _ (m : Module) (bounds : List (Option ℕ)) where
  by_bound : (k : ℕ) (f : Func) → slice_get m.funcs k ≡ Some f → known_at bounds k ≡ None → (o : Option ℕ) → body_bound (called (imported_funcs m) bounds) f.body ≡ o → IsSettled m bounds k ⊎ CanSettle m bounds
  by_bound k f at none None e =
      inl (λ g there nothing. let same : f ≡ g = same_Some f g (sym at ∙ there) in subst (λ (x : Func). body_bound (called (imported_funcs m) bounds) x.body ≡ None) same e)
  by_bound k f at none (Some n) e = inr (record { place = k; func = f; there = at; unknown = none; bound = n; bound_is = e })

  by_known : (k : ℕ) (f : Func) → slice_get m.funcs k ≡ Some f → (o : Option ℕ) → known_at bounds k ≡ o → IsSettled m bounds k ⊎ CanSettle m bounds
  by_known k f at None e = by_bound k f at e (body_bound (called (imported_funcs m) bounds) f.body) refl
  by_known k f at (Some n) e = inl (known_settled m bounds k n e)

  by_func : (k : ℕ) (o : Option Func) → slice_get m.funcs k ≡ o → IsSettled m bounds k ⊎ CanSettle m bounds
  by_func k None e = inl (λ g there nothing. absurd (no g (sym e ∙ there)))
    where
      no : (g : Func) → None ≡ Some g → ⊥
      no g q = cc
  by_func k (Some f) e = by_known k f e (known_at bounds k) refl

  by_last : (n : ℕ) → ((k : ℕ) → k < n → IsSettled m bounds k) → IsSettled m bounds n → (k : ℕ) → k < suc n → (k < n) ⊎ (n ≤ k) → IsSettled m bounds k
  by_last n before here k less (inl h) = before k h
  by_last n before here k less (inr h) = let e : n ≡ k = omega arith in subst (IsSettled m bounds) e here

  further : (n : ℕ) → ((k : ℕ) → k < n → IsSettled m bounds k) ⊎ CanSettle m bounds → IsSettled m bounds n ⊎ CanSettle m bounds → ((k : ℕ) → k < suc n → IsSettled m bounds k) ⊎ CanSettle m bounds
  further n (inr c) here = inr c
  further n (inl before) (inr c) = inr c
  further n (inl before) (inl here) = inl (λ k less. by_last n before here k less (cases_lt k n))

search_before : (m : Module) (bounds : List (Option ℕ)) (n : ℕ) → ((k : ℕ) → k < n → IsSettled m bounds k) ⊎ CanSettle m bounds
search_before m bounds zero = inl (λ k less. absurd (omega arith))
search_before m bounds (suc n) = further m bounds n (search_before m bounds n) (by_func m bounds n (slice_get m.funcs n) refl)

record Settled (m : Module) : Type 0 where
  bounds : List (Option ℕ)
  right : IsRight m bounds
  all : (k : ℕ) → IsSettled m bounds k

settled_on : (m : Module) (fuel : ℕ) (bounds : List (Option ℕ)) → IsRight m bounds → missing bounds ≤ suc fuel → ((new : List (Option ℕ)) → IsRight m new → missing new ≤ fuel → Settled m) → ((k : ℕ) → k < length bounds → IsSettled m bounds k) ⊎ CanSettle m bounds → Settled m
settled_on m fuel bounds right few later (inl all) = record { bounds = bounds; right = right; all = all_settled m bounds right all }
settled_on m fuel bounds right few later (inr c) =
    let less : c.place < length bounds = let l = slice_get_within m.funcs c.place c.func c.there in omega (arith, l, right.count) in
    let fewer = set_fewer bounds c.place c.bound less c.unknown in
    let b = body_right m bounds right c.place c.bound c.func c.there c.bound_is in
    later (slice_set bounds c.place (Some c.bound)) (set_right m bounds c.place c.bound b.0 right b.1 b.2) (omega (arith, fewer))

-- As often as bounds are missing.
settled_by : (m : Module) (fuel : ℕ) (bounds : List (Option ℕ)) → IsRight m bounds → missing bounds ≤ fuel → Settled m
settled_by m zero bounds right few = go (search_before m bounds (length bounds))
  where
    go : ((k : ℕ) → k < length bounds → IsSettled m bounds k) ⊎ CanSettle m bounds → Settled m
    go (inl all) = record { bounds = bounds; right = right; all = all_settled m bounds right all }
    go (inr c) =
        let less : c.place < length bounds = let l = slice_get_within m.funcs c.place c.func c.there in omega (arith, l, right.count) in
        let fewer = set_fewer bounds c.place c.bound less c.unknown in
        absurd (omega (arith, fewer))
settled_by m (suc fuel) bounds right few =
    settled_on m fuel bounds right few (λ new ok less. settled_by m fuel new ok less) (search_before m bounds (length bounds))

pub bounds_exist : (m : Module) → (bounds : List Bound) × AreBoundsOf m bounds
bounds_exist m =
    let none : List (Option ℕ) = replicate (length m.funcs) None in
    let s = settled_by m (missing none) none (nothing_known m none refl) (omega arith) in
    (map told_of s.bounds, told_right m s.bounds (map told_of s.bounds) s.right s.all refl)

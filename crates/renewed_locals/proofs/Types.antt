-- Locals keep their types while they are renewed.
use Rattle.std.proofs.Common.{◌≡◌, ℕ, zero, suc, ◌+◌, ◌<◌, ◌≤◌, Bool, List, [], ◌∷◌, length, map, drop, slice_get, Option, Some, None, IfSome, refl, sym, ap, ◌∙◌, arith}
use Rattle.std.specs.Prelude.{option_map, Ok, Err}
use Rattle.std.proofs.lemmas.List.{drop_all}
use Rattle.std.proofs.lemmas.Option.{slice_get-map}
use Rattle.wasm_values.specs.declared.number.ValType.{ValType}
use Rattle.term_trees.specs.declared.term.Term.{Term}
use Rattle.outline_rules.specs.Refusals.{Ruling, Refusal, ◌>>=◌}
use Rattle.outline_rules.specs.States.{State, with_term, with_local, with_typed, fresh}
use Rattle.outline_rules.specs.Blocks.{local_renewed, locals_renewed}
use Rattle.symbolic_state.specs.States.{Tracked}
use Rattle.symbolic_state.specs.Growth.{Grown}
use Rattle.symbolic_state.proofs.Grows.{grown-same, grown-then}
use Rattle.symbolic_renewal.proofs.Settled.{settled-same}
use Rattle.renewed_locals.specs.words.Locals.{local_taken, local_changed, types_of}

types-with : (es : List (ValType × Term)) (k : ℕ) (t : Term) → map (λ e. e.0) (with_term es k t) ≡ map (λ e. e.0) es
types-with [] k t = refl
types-with (e ∷ es) zero t = refl
types-with (e ∷ es) (suc k) t = ap (λ tys. e.0 ∷ tys) (types-with es k t)

pub types-renewed : (k : ℕ) (ty : ValType) (s t : State) → local_renewed k ty s ≡ Ok t → types_of t ≡ types_of s
types-renewed k ty s t is = ap types_of (settled-same [] (with_local k (fresh s) (with_typed ty s)) t is) ∙ types-with s.locals k (fresh s)

pub ruleset kept = (types-renewed)

pub ruleset same = (grown-same)

-- the first locals are renewed
pub record Locals (old new : Tracked) (part : ℕ → Bool) (k : ℕ) : Type 0 where
  pub whole : locals_renewed part 0 old.state.locals old.state ≡ locals_renewed part k (drop k old.state.locals) new.state
  pub types : types_of new.state ≡ types_of old.state
  pub grown : Grown old new

pub locals-start : (old : Tracked) (part : ℕ → Bool) → Locals old old part 0
locals-start old part = record { whole = refl; types = refl; grown = grown-same old }

-- what is left from an entry on
left-from : (part : ℕ → Bool) (k : ℕ) (es : List (ValType × Term)) (s : State) → k < length es
    → locals_renewed part k (drop k es) s ≡ (local_changed (part k) k (option_map (λ e. e.0) (slice_get es k)) s >>= locals_renewed part (k + 1) (drop (k + 1) es))
left-from part k es s low = at_place es k low k
  where
    at_place : (es : List (ValType × Term)) (i : ℕ) → i < length es → (k : ℕ)
        → locals_renewed part k (drop i es) s ≡ (local_changed (part k) k (option_map (λ e. e.0) (slice_get es i)) s >>= locals_renewed part (k + 1) (drop (i + 1) es))
    at_place [] i low k = absurd (omega arith)
    at_place (e ∷ es) zero low k =
        let next : suc k ≡ k + 1 = omega arith in
        ap (λ n. local_taken (part k) k e.0 s >>= locals_renewed part n es) next
    at_place (e ∷ es) (suc i) low k =
        let next : suc (i + 1) ≡ suc i + 1 = omega arith in
        at_place es i (omega arith) k ∙ ap (λ n. local_changed (part k) k (option_map (λ d. d.0) (slice_get es i)) s >>= locals_renewed part (k + 1) (drop n (e ∷ es))) next

module _ (old mid : Tracked) (part : ℕ → Bool) (k : ℕ) (so_far : Locals old mid part k) where
  pub locals-end : length old.state.locals ≤ k → locals_renewed part 0 old.state.locals old.state ≡ Ok mid.state
  locals-end high = so_far.whole ∙ ap (λ es. locals_renewed part k es mid.state) (drop_all k old.state.locals high)

  module _ (low : k < length old.state.locals) where
    same-type : option_map (λ e. e.0) (slice_get mid.state.locals k) ≡ option_map (λ e. e.0) (slice_get old.state.locals k)
    same-type = sym (slice_get-map (λ e. e.0) mid.state.locals k) ∙ ap (λ tys. slice_get tys k) so_far.types ∙ slice_get-map (λ e. e.0) old.state.locals k

    module _ (takes_part : Bool) (same : takes_part ≡ part k) where
      -- what the local at the place comes to, of the state so far
      abbrev Changed : Ruling State
      Changed = local_changed takes_part k (option_map (λ e. e.0) (slice_get mid.state.locals k)) mid.state

      here : (r : Ruling State) → Changed ≡ r → locals_renewed part 0 old.state.locals old.state ≡ (r >>= locals_renewed part (k + 1) (drop (k + 1) old.state.locals))
      here r gives =
          so_far.whole ∙ left-from part k old.state.locals mid.state low
          ∙ ap (λ r. r >>= locals_renewed part (k + 1) (drop (k + 1) old.state.locals)) ((λ j. local_changed (sym same j) k (sym same-type j) mid.state) ∙ gives)

      pub locals-next : (new : Tracked) → local_changed takes_part k (option_map (λ e. e.0) (slice_get mid.state.locals k)) mid.state ≡ Ok new.state → types_of new.state ≡ types_of mid.state → Grown mid new → Locals old new part (k + 1)
      locals-next new gives types more = record { whole = here (Ok new.state) gives; types = types ∙ so_far.types; grown = grown-then old mid new so_far.grown more }

      pub locals-stop : (o : Option Refusal) → IfSome o (λ e. local_changed takes_part k (option_map (λ e. e.0) (slice_get mid.state.locals k)) mid.state ≡ Err e) → IfSome o (λ e. locals_renewed part 0 old.state.locals old.state ≡ Err e)
      locals-stop None fails = tt
      locals-stop (Some e) fails = here (Err e) fails

pub ruleset renewing = (locals-start, locals-end)

-- Steps on a state for the items of a list, one after another, up to the first refusal.
use Rattle.std.proofs.Common.{◌≡◌, ℕ, ◌+◌, ◌<◌, ◌≤◌, List, [], ◌∷◌, length, drop, get_or, sym, ap, ◌∙◌}
use Rattle.std.specs.Prelude.{Ok, Err}
use Rattle.std.proofs.lemmas.List.{drop_more, drop_all}
use Rattle.outline_rules.specs.Refusals.{Ruling, Refusal, ◌>>=◌}
use Rattle.outline_rules.specs.States.{State}

module _ {A : Type 0} (step : A → State → Ruling State) where
  -- what comes of the steps for all items
  abbrev pub all_gone : List A → State → Ruling State
  all_gone [] s = Ok s
  all_gone (x ∷ xs) s = step x s >>= all_gone xs

  module _ (whole : Ruling State) (s : State) (xs : List A) (i : ℕ) (is : whole ≡ all_gone (drop i xs) s) where
    module _ (x : A) (low : i < length xs) (at : x ≡ get_or xs i x) where
      here : whole ≡ (step x s >>= all_gone (drop (i + 1) xs))
      here = is ∙ ap (λ l. all_gone l s) (drop_more xs i x low) ∙ λ j. step (sym at j) s >>= all_gone (drop (i + 1) xs)

      pub going-next : (t : State) → step x s ≡ Ok t → whole ≡ all_gone (drop (i + 1) xs) t
      going-next t gives = here ∙ ap (λ r. r >>= all_gone (drop (i + 1) xs)) gives

      pub going-stop : (e : Refusal) → step x s ≡ Err e → whole ≡ Err e
      going-stop e fails = here ∙ ap (λ r. r >>= all_gone (drop (i + 1) xs)) fails

    pub going-end : length xs ≤ i → whole ≡ Ok s
    going-end high = is ∙ ap (λ l. all_gone l s) (drop_all i xs high)

-- Globals, one after another.
use Rattle.std.proofs.Common.{◌≡◌, ℕ, ◌+◌, ◌<◌, ◌≤◌, Bool, List, [], ◌∷◌, length, drop, get_or, Option, Some, None, IfSome, sym, ap, ◌∙◌, arith, add-one}
use Rattle.std.specs.Prelude.{slice_get, Ok, Err}
use Rattle.std.proofs.lemmas.List.{drop_more, drop_all}
use Rattle.std.proofs.lemmas.Option.{slice_get-get_or}
use Rattle.wasm_syntax.specs.declared.module.GlobalType.{GlobalType}
use Rattle.outline_rules.specs.Refusals.{Ruling, Refusal, ◌>>=◌}
use Rattle.outline_rules.specs.Settings.{Setting}
use Rattle.outline_rules.specs.States.{State}
use Rattle.outline_rules.specs.Entry.{globals_begun}
use Rattle.outline_entry.specs.words.Parts.{global_at}

first-of : (gs : List GlobalType) (k : ℕ) → k < length gs → GlobalType
first-of [] k low = absurd (omega arith)
first-of (g ∷ gs) k low = g

module _ (c : Setting) (b : Bool) (whole : Ruling State) (k : ℕ) (gs : List GlobalType) (s : State) (is : whole ≡ globals_begun c b k (drop k gs) s) where
  pub globals-end : length gs ≤ k → whole ≡ Ok s
  globals-end high = is ∙ ap (λ xs. globals_begun c b k xs s) (drop_all k gs high)

  module _ (low : k < length gs) where
    here : whole ≡ (global_at c b k (slice_get gs k) s >>= globals_begun c b (k + 1) (drop (k + 1) gs))
    here =
        let d = first-of gs k low in
        is ∙ ap (λ xs. globals_begun c b k xs s) (drop_more gs k d low)
        ∙ ap (λ n. global_at c b k (Some (get_or gs k d)) s >>= globals_begun c b n (drop (k + 1) gs)) (sym (add-one k))
        ∙ ap (λ o. global_at c b k o s >>= globals_begun c b (k + 1) (drop (k + 1) gs)) (sym (slice_get-get_or gs k d low))

    pub globals-next : (t : State) → global_at c b k (slice_get gs k) s ≡ Ok t → whole ≡ globals_begun c b (k + 1) (drop (k + 1) gs) t
    globals-next t gives = here ∙ ap (λ r. r >>= globals_begun c b (k + 1) (drop (k + 1) gs)) gives

    pub globals-stop : (o : Option Refusal) → IfSome o (λ e. global_at c b k (slice_get gs k) s ≡ Err e) → IfSome o (λ e. whole ≡ Err e)
    globals-stop None fails = tt
    globals-stop (Some e) fails = here ∙ ap (λ r. r >>= globals_begun c b (k + 1) (drop (k + 1) gs)) fails

-- Moves that are made one after another.
use Rattle.std.proofs.Common.{◌≡◌, ℕ, ◌+◌, ◌<◌, ◌≤◌, List, length, drop, get_or, Option, Some, None, IfSome, refl, sym, ap, ◌∙◌}
use Rattle.std.specs.Prelude.{Ok, Err}
use Rattle.std.proofs.lemmas.List.{drop_more, drop_all}
use Rattle.notes.specs.declared.moves.Move.{Move}
use Rattle.outline_rules.specs.Refusals.{Refusal, ◌>>=◌}
use Rattle.outline_rules.specs.Settings.{Setting}
use Rattle.outline_rules.specs.Moves.{move_made, moved}
use Rattle.symbolic_state.specs.States.{Tracked}
use Rattle.symbolic_state.specs.Growth.{Grown}
use Rattle.symbolic_state.proofs.Grows.{grown-same, grown-then}

-- what is left of the moves gives what all of them give
pub record Moving (c : Setting) (ms : List Move) (i : ℕ) (old new : Tracked) : Type 0 where
  pub rest : moved c ms old.state ≡ moved c (drop i ms) new.state
  pub grown : Grown old new

module _ (c : Setting) (ms : List Move) (old : Tracked) where
  pub moving-start : Moving c ms 0 old old
  moving-start = record { rest = refl; grown = grown-same old }

  module _ (i : ℕ) (mid : Tracked) (so_far : Moving c ms i old mid) where
    pub moving-end : length ms ≤ i → moved c ms old.state ≡ Ok mid.state
    moving-end high = so_far.rest ∙ ap (λ l. moved c l mid.state) (drop_all i ms high)

    module _ (m : Move) (low : i < length ms) (at : m ≡ get_or ms i m) where
      here : moved c ms old.state ≡ (move_made c m mid.state >>= moved c (drop (i + 1) ms))
      here =
          so_far.rest ∙ ap (λ l. moved c l mid.state) (drop_more ms i m low)
          ∙ ap (λ n. move_made c n mid.state >>= moved c (drop (i + 1) ms)) (sym at)

      pub moving-next : (new : Tracked) → move_made c m mid.state ≡ Ok new.state → Grown mid new → Moving c ms (i + 1) old new
      moving-next new gives more = record {
        rest = here ∙ ap (λ r. r >>= moved c (drop (i + 1) ms)) gives;
        grown = grown-then old mid new so_far.grown more;
      }

      pub moving-stop : (o : Option Refusal) → IfSome o (λ e. move_made c m mid.state ≡ Err e) → IfSome o (λ e. moved c ms old.state ≡ Err e)
      moving-stop None fails = tt
      moving-stop (Some e) fails = here ∙ ap (λ r. r >>= moved c (drop (i + 1) ms)) fails

pub ruleset moving = (moving-start, moving-end)

-- Terms that are taken one by one, over a table that grows.
use Rattle.std.proofs.Common.{◌≡◌, ℕ, ◌+◌, ◌<◌, ◌≤◌, List, [], ◌∷◌, ◌++◌, length, map, drop, get_or, All, Option, Some, None, IfSome, refl, sym, ap, ◌∙◌, arith}
use Rattle.std.specs.Prelude.{Ok, Err}
use Rattle.std.proofs.lemmas.List.{map-append}
use Rattle.std.proofs.lemmas.List.Elements.{All-nil, All-push}
use Rattle.term_trees.specs.declared.term.Term.{Term}
use Rattle.term_trees.specs.Leaves.{Leaves}
use Rattle.term_logic.specs.Table.{tree_at}
use Rattle.outline_rules.specs.Refusals.{Refusal, ◌>>=◌}
use Rattle.outline_rules.specs.Leaves.{move_leaves, taken, all_taken}
use Rattle.symbolic_state.specs.States.{Tracked}
use Rattle.symbolic_state.specs.Growth.{Grown}
use Rattle.symbolic_state.specs.words.Walks.{all_by}
use Rattle.symbolic_state.proofs.Grows.{grown-same, grown-then}
use Rattle.symbolic_state.proofs.Walks.{behind, walk-start, walk-next, walk-stop, walk-end}

all-taken-is : (l : Leaves) (ts : List Term) → all_taken l ts ≡ all_by (taken l) ts
all-taken-is l [] = refl
all-taken-is l (t ∷ ts) = λ j. taken l t >>= λ u. all-taken-is l ts j >>= λ us. Ok (u ∷ us)

-- what is taken of the first terms, over a state that only its table has grown of
pub record TakingTerms (old new : Tracked) (ts : List Term) (i : ℕ) (ids : List ℕ) : Type 0 where
  pub whole : all_by (taken (move_leaves old.state)) ts ≡ behind (map (tree_at new.terms) ids) (all_by (taken (move_leaves old.state)) (drop i ts))
  pub within : All (λ id. id < length new.terms) ids
  pub state : new.state ≡ old.state
  pub grown : Grown old new

pub terms-start : (old : Tracked) (ts : List Term) → TakingTerms old old ts 0 []
terms-start old ts = record { whole = walk-start (taken (move_leaves old.state)) ts; within = All-nil (λ id. id < length old.terms); state = refl; grown = grown-same old }

module _ (old mid : Tracked) (ts : List Term) (i : ℕ) (ids : List ℕ) (so_far : TakingTerms old mid ts i ids) where
  pub terms-end : length ts ≤ i → all_taken (move_leaves old.state) ts ≡ Ok (map (tree_at mid.terms) ids)
  terms-end high = all-taken-is (move_leaves old.state) ts ∙ walk-end (taken (move_leaves old.state)) _ (map (tree_at mid.terms) ids) ts i high so_far.whole

  module _ (t : Term) (low : i < length ts) (at : t ≡ get_or ts i t) where
    pub terms-next : (new : Tracked) (id : ℕ) → taken (move_leaves mid.state) t ≡ Ok (tree_at new.terms id) → id < length new.terms → new.state ≡ mid.state → Grown mid new → TakingTerms old new ts (i + 1) (ids ++ id ∷ [])
    terms-next new id gives low_id same more =
        let kept : map (tree_at new.terms) ids ≡ map (tree_at mid.terms) ids = more.terms.trees ids so_far.within in
        let longer : All (λ k. k < length new.terms) ids = λ k d h. let at = so_far.within k d h in omega (arith, at, more.terms.longer) in
        record {
          whole =
              walk-next (taken (move_leaves old.state)) _ (map (tree_at mid.terms) ids) ts i t low at so_far.whole (tree_at new.terms id) (ap (λ s. taken (move_leaves s) t) (sym so_far.state) ∙ gives)
              ∙ ap (λ us. behind us (all_by (taken (move_leaves old.state)) (drop (i + 1) ts))) (ap (λ us. us ++ tree_at new.terms id ∷ []) (sym kept) ∙ sym (map-append (tree_at new.terms) ids (id ∷ [])));
          within = All-push (λ k. k < length new.terms) ids id longer low_id;
          state = same ∙ so_far.state;
          grown = grown-then old mid new so_far.grown more;
        }

    pub terms-stop : (o : Option Refusal) → IfSome o (λ e. taken (move_leaves mid.state) t ≡ Err e) → IfSome o (λ e. all_taken (move_leaves old.state) ts ≡ Err e)
    terms-stop None fails = tt
    terms-stop (Some e) fails =
        all-taken-is (move_leaves old.state) ts
        ∙ walk-stop (taken (move_leaves old.state)) _ (map (tree_at mid.terms) ids) ts i t low at so_far.whole e (ap (λ s. taken (move_leaves s) t) (sym so_far.state) ∙ fails)

pub ruleset taking_terms = (terms-start, terms-end)

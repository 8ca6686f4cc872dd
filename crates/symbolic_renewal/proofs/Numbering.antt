-- Variables from a number on, one after another.
use Rattle.std.proofs.Common.{◌≡◌, ℕ, zero, suc, ◌+◌, ◌<◌, List, [], ◌∷◌, ◌++◌, length, map, All, refl, sym, ap, ◌∙◌, arith}
use Rattle.std.proofs.lemmas.List.{append-nil, append_assoc, map-append}
use Rattle.std.proofs.lemmas.List.Elements.{All-push}
use Rattle.term_trees.specs.declared.term.Term.TheVariants as term
use Rattle.term_logic.specs.Table.{tree_at}
use Rattle.outline_rules.specs.Renewal.{variables_from}
use Rattle.symbolic_state.specs.States.{Tracked}
use Rattle.symbolic_state.specs.Growth.{Grown}
use Rattle.symbolic_state.proofs.Grows.{grown-same, grown-then}

one-more : (v n : ℕ) → variables_from v (suc n) ≡ variables_from v n ++ term.Var (v + n) ∷ []
one-more v zero = ap (λ k. term.Var k ∷ []) (omega arith)
one-more v (suc n) =
    let same : (v + 1) + n ≡ v + suc n = omega arith in
    ap (λ l. term.Var v ∷ l) (one-more (v + 1) n ∙ ap (λ k. variables_from (v + 1) n ++ term.Var k ∷ []) same)

pub variables-more : (v n : ℕ) → variables_from v (n + 1) ≡ variables_from v n ++ term.Var (v + n) ∷ []
variables-more v n =
    let next : n + 1 ≡ suc n = omega arith in
    ap (variables_from v) next ∙ one-more v n

-- the first k variables are pushed, over a state that only its table has grown of
pub record Numbers (old new : Tracked) (before ids : List ℕ) (first k : ℕ) : Type 0 where
  pub trees : map (tree_at new.terms) ids ≡ map (tree_at old.terms) before ++ variables_from first k
  pub within : All (λ id. id < length new.terms) ids
  pub state : new.state ≡ old.state
  pub grown : Grown old new

pub numbers-start : (old : Tracked) (before : List ℕ) (first : ℕ) → All (λ id. id < length old.terms) before → Numbers old old before before first 0
numbers-start old before first low = record { trees = sym (append-nil (map (tree_at old.terms) before)); within = low; state = refl; grown = grown-same old }

pub numbers-next : (old mid new : Tracked) (before ids : List ℕ) (first k id : ℕ) → Numbers old mid before ids first k
    → tree_at new.terms id ≡ term.Var (first + k) → id < length new.terms → new.state ≡ mid.state → Grown mid new
    → Numbers old new before (ids ++ id ∷ []) first (k + 1)
numbers-next old mid new before ids first k id so_far tree low same more =
    let kept : map (tree_at new.terms) ids ≡ map (tree_at mid.terms) ids = more.terms.trees ids so_far.within in
    let longer : All (λ i. i < length new.terms) ids = λ i d h. let at = so_far.within i d h in omega (arith, at, more.terms.longer) in
    record {
      trees =
          map-append (tree_at new.terms) ids (id ∷ [])
          ∙ (λ j. (kept ∙ so_far.trees) j ++ tree j ∷ [])
          ∙ append_assoc (map (tree_at old.terms) before) (variables_from first k) (term.Var (first + k) ∷ [])
          ∙ ap (λ l. map (tree_at old.terms) before ++ l) (sym (variables-more first k));
      within = All-push (λ i. i < length new.terms) ids id longer low;
      state = same ∙ so_far.state;
      grown = grown-then old mid new so_far.grown more;
    }

pub ruleset numbering = (numbers-start, numbers-next)

-- Variables that are made one after another.
use Rattle.std.proofs.Common.{◌≡◌, ℕ, suc, ◌+◌, ◌-◌, ◌<◌, ◌≤◌, List, [], ◌∷◌, ◌++◌, length, map, All, refl, sym, ap, ◌∙◌, arith}
use Rattle.std.proofs.lemmas.List.{append-nil, append_assoc, map-append}
use Rattle.std.proofs.lemmas.List.Elements.{All-nil, All-push}
use Rattle.term_trees.specs.declared.term.Term.TheVariants as term
use Rattle.term_logic.specs.Table.{tree_at}
use Rattle.outline_rules.specs.Renewal.{variables_from}
use Rattle.symbolic_state.specs.States.{Tracked}
use Rattle.symbolic_state.specs.Growth.{Grown}

-- the first k of so many variables are made
pub record Numbering (old new : Tracked) (first count k : ℕ) (ids : List ℕ) : Type 0 where
  pub terms : map (tree_at new.terms) ids ++ variables_from (first + k) (count - k) ≡ variables_from first count
  pub within : All (λ id. id < length new.terms) ids
  pub state : new.state ≡ old.state

pub numbering-start : (old : Tracked) (first count : ℕ) → Numbering old old first count 0 []
numbering-start old first count = record {
  terms = λ j. variables_from (start j) (left j);
  within = All-nil (λ id. id < length old.terms);
  state = refl;
}
  where
    start : first + 0 ≡ first
    start = omega arith

    left : count - 0 ≡ count
    left = omega arith

pub numbering-end : (old new : Tracked) (first count k : ℕ) (ids : List ℕ) → count ≤ k → Numbering old new first count k ids → map (tree_at new.terms) ids ≡ variables_from first count
numbering-end old new first count k ids high made =
    let none : count - k ≡ 0 = omega arith in
    sym (append-nil (map (tree_at new.terms) ids)) ∙ ap (λ n. map (tree_at new.terms) ids ++ variables_from (first + k) n) (sym none) ∙ made.terms

pub numbering-next : (old mid new : Tracked) (first count k : ℕ) (ids : List ℕ) (id : ℕ) → k < count → Numbering old mid first count k ids
    → tree_at new.terms id ≡ term.Var (first + k) → id < length new.terms → new.state ≡ mid.state → Grown mid new → Numbering old new first count (k + 1) (ids ++ id ∷ [])
numbering-next old mid new first count k ids id low made tree low_id same more =
    let kept : map (tree_at new.terms) ids ≡ map (tree_at mid.terms) ids = more.terms.trees ids made.within in
    let longer : All (λ n. n < length new.terms) ids = λ n d h. let at = made.within n d h in omega (arith, at, more.terms.longer) in
    let left : count - k ≡ suc (count - (k + 1)) = omega arith in
    let next : first + k + 1 ≡ first + (k + 1) = omega arith in
    record {
      terms =
          ap (λ ts. ts ++ variables_from (first + (k + 1)) (count - (k + 1))) (map-append (tree_at new.terms) ids (id ∷ []))
          ∙ append_assoc (map (tree_at new.terms) ids) (tree_at new.terms id ∷ []) (variables_from (first + (k + 1)) (count - (k + 1)))
          ∙ (λ j. kept j ++ tree j ∷ variables_from (sym next j) (count - (k + 1)))
          ∙ ap (λ n. map (tree_at mid.terms) ids ++ variables_from (first + k) n) (sym left)
          ∙ made.terms;
      within = All-push (λ n. n < length new.terms) ids id longer low_id;
      state = same ∙ made.state;
    }

pub ruleset numbered = (numbering-start, numbering-end)

-- The branches of a table, one by one.
use Rattle.std.proofs.Common.{◌≡◌, ℕ, suc, ◌+◌, ◌<◌, List, [], ◌∷◌, length, drop, get_or, Option, Some, None, IfSome, refl, sym, ap, ◌∙◌, arith, add-one, drop-cons}
use Rattle.std.specs.Prelude.{Ok, Err}
use Rattle.std.proofs.lemmas.List.{drop_all}
use Rattle.term_trees.specs.declared.term.Term.{Term}
use Rattle.term_trees.specs.declared.term.Formula.{Formula}
use Rattle.term_trees.specs.declared.term.Formula.TheVariants as formula
use Rattle.term_logic.specs.Table.{tree_at}
use Rattle.notes.specs.declared.uses.Take.{Take}
use Rattle.outline_rules.specs.Refusals.{Refusal, Ruling, ◌>>◌}
use Rattle.outline_rules.specs.Settings.{Setting}
use Rattle.outline_rules.specs.States.{State, number}
use Rattle.outline_rules.specs.Branches.{Label, takes_branch, table_branches, takes_branches}
use Rattle.symbolic_state.specs.States.{Tracked}
use Rattle.symbolic_state.specs.Growth.{Grown}
use Rattle.symbolic_state.proofs.Grows.{grown-same, grown-then, id-kept}

-- there is a branch for each label, and one for the last
pub length-table : (i : ℕ) (ks : List ℕ) (last : ℕ) (t : Term) → length (table_branches i ks last t) ≡ length ks + 1
length-table i [] last t = refl
length-table i (k ∷ ks) last t = omega (arith, length-table (suc i) ks last t)

pub ruleset tables = (length-table)

-- an item that is read stands before those after it
item_at : {X : Type 0} (xs : List X) (i : ℕ) (x : X) → i < length xs → x ≡ get_or xs i x → drop i xs ≡ x ∷ drop (suc i) xs
item_at xs i x low is = drop-cons xs i x low ∙ ap (λ y. y ∷ drop (suc i) xs) (sym is)

-- a success that gives nothing
then-done : (r : Ruling (Unit {0})) → (r >> Ok tt) ≡ r
then-done (Ok a) = refl
then-done (Err e) = refl

-- what is refused first
first-refused : (all : Ruling (Unit {0})) (one rest : Ruling (Unit {0})) (o : Option Refusal) → all ≡ (one >> rest)
    → IfSome o (λ e. one ≡ Err e) → IfSome o (λ e. all ≡ Err e)
first-refused all one rest None is fails = tt
first-refused all one rest (Some e) is fails = is ∙ ap (λ r. r >> rest) fails

-- the branches of a table from the i-th label on, from a state
abbrev pub branches_from : Setting → ℕ → List Label → List ℕ → (last : ℕ) → List Take → Term → State → ℕ → Ruling (Unit {0})
branches_from c f ls ks last takes t s i = takes_branches c f ls (table_branches i (drop i ks) last t) (drop i takes) s

-- what is left of a table, over a state that only its table of terms has grown of
pub record Tabling (c : Setting) (f : ℕ) (ls : List Label) (ks : List ℕ) (last : ℕ) (takes : List Take) (condition : ℕ) (old now : Tracked) (i : ℕ) : Type 0 where
  pub left :
      takes_branches c f ls (table_branches 0 ks last (tree_at old.terms condition)) takes old.state
      ≡ branches_from c f ls ks last takes (tree_at old.terms condition) old.state i
  pub state : now.state ≡ old.state
  pub grown : Grown old now

module _ (c : Setting) (f : ℕ) (ls : List Label) (ks : List ℕ) (last : ℕ) (takes : List Take) where
  module _ (t : Term) (s : State) where
    from-next : (i k : ℕ) (take : Take) → i < length ks → i < length takes → k ≡ get_or ks i k → take ≡ get_or takes i take
        → branches_from c f ls ks last takes t s i
        ≡ (takes_branch c f ls k (formula.Eq t (number i)) take s >> branches_from c f ls ks last takes t s (i + 1))
    from-next i k take low low_take is is_take =
        ap (λ xs. takes_branches c f ls (table_branches i xs last t) (drop i takes) s) (item_at ks i k low is)
        ∙ ap (λ xs. takes_branches c f ls (table_branches i (k ∷ drop (suc i) ks) last t) xs s) (item_at takes i take low_take is_take)
        ∙ ap (λ j. takes_branch c f ls k (formula.Eq t (number i)) take s >> branches_from c f ls ks last takes t s j) (sym (add-one i))

    from-last : (i : ℕ) (take : Take) → i ≡ length ks → length takes ≡ length ks + 1 → take ≡ get_or takes i take
        → branches_from c f ls ks last takes t s i ≡ takes_branch c f ls last (formula.Le (number i) t) take s
    from-last i take end count is =
        ap (λ xs. takes_branches c f ls (table_branches i xs last t) (drop i takes) s) (drop_all i ks (omega (arith, end)))
        ∙ ap (λ xs. takes_branches c f ls ((last, formula.Le (number i) t) ∷ []) xs s) (item_at takes i take (omega (arith, end, count)) is)
        ∙ ap (λ xs. takes_branches c f ls ((last, formula.Le (number i) t) ∷ []) (take ∷ xs) s) (drop_all (suc i) takes (omega (arith, end, count)))
        ∙ then-done (takes_branch c f ls last (formula.Le (number i) t) take s)

  module _ (condition : ℕ) (old : Tracked) (within : condition < length old.terms) where
    pub tabling-start : Tabling c f ls ks last takes condition old old 0
    tabling-start = record { left = refl; state = refl; grown = grown-same old }

    module _ (mid : Tracked) (i : ℕ) (so_far : Tabling c f ls ks last takes condition old mid i) where
      -- a branch from the state now is one from the state before
      branch-before : (k : ℕ) (fact : Term → Formula) (take : Take)
          → takes_branch c f ls k (fact (tree_at mid.terms condition)) take mid.state ≡ takes_branch c f ls k (fact (tree_at old.terms condition)) take old.state
      branch-before k fact take =
          ap (λ u. takes_branch c f ls k (fact u) take mid.state) (id-kept old mid so_far.grown condition within)
          ∙ ap (λ s. takes_branch c f ls k (fact (tree_at old.terms condition)) take s) so_far.state

      module _ (k : ℕ) (take : Take) (low : i < length ks) (low_take : i < length takes) (is : k ≡ get_or ks i k) (is_take : take ≡ get_or takes i take) where
        splits : takes_branches c f ls (table_branches 0 ks last (tree_at old.terms condition)) takes old.state
            ≡ (takes_branch c f ls k (formula.Eq (tree_at mid.terms condition) (number i)) take mid.state >> branches_from c f ls ks last takes (tree_at old.terms condition) old.state (i + 1))
        splits =
            so_far.left ∙ from-next (tree_at old.terms condition) old.state i k take low low_take is is_take
            ∙ ap (λ r. r >> branches_from c f ls ks last takes (tree_at old.terms condition) old.state (i + 1)) (sym (branch-before k (λ u. formula.Eq u (number i)) take))

        pub tabling-next : (new : Tracked) → takes_branch c f ls k (formula.Eq (tree_at mid.terms condition) (number i)) take mid.state ≡ Ok tt
            → new.state ≡ mid.state → Grown mid new → Tabling c f ls ks last takes condition old new (i + 1)
        tabling-next new taken same more = record {
          left = splits ∙ ap (λ r. r >> branches_from c f ls ks last takes (tree_at old.terms condition) old.state (i + 1)) taken;
          state = same ∙ so_far.state;
          grown = grown-then old mid new so_far.grown more;
        }

        pub tabling-stop : (o : Option Refusal) → IfSome o (λ e. takes_branch c f ls k (formula.Eq (tree_at mid.terms condition) (number i)) take mid.state ≡ Err e)
            → IfSome o (λ e. takes_branches c f ls (table_branches 0 ks last (tree_at old.terms condition)) takes old.state ≡ Err e)
        tabling-stop o fails = first-refused _ _ _ o splits fails

      pub tabling-end : (take : Take) → i ≡ length ks → length takes ≡ length ks + 1 → take ≡ get_or takes i take
          → takes_branches c f ls (table_branches 0 ks last (tree_at old.terms condition)) takes old.state
          ≡ takes_branch c f ls last (formula.Le (number i) (tree_at mid.terms condition)) take mid.state
      tabling-end take end count is =
          so_far.left ∙ from-last (tree_at old.terms condition) old.state i take end count is ∙ sym (branch-before last (λ u. formula.Le (number i) u) take)

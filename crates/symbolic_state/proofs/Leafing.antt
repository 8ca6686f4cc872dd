-- Terms in place of the variables of a formula.
use Rattle.std.proofs.Common.{◌≡◌, ℕ, zero, suc, slice_get, ◌<◌, Bool, true, false, ◌+◌, List, [], ◌∷◌, length, map, All, IfSome, refl, sym, ap, subst, ◌∙◌}
use Rattle.std.specs.Prelude.{option_map, nat_le, Ok, Err}
use Rattle.std.proofs.lemmas.List.Elements.{All-head, All-tail}
use Rattle.std.proofs.lemmas.Option.{slice_get-map}
use Rattle.wasm_values.specs.declared.limit.LimitWord.TheVariants as limit
use Rattle.term_trees.specs.declared.term.Place.{Place}
use Rattle.term_trees.specs.declared.term.Place.TheVariants.{Local, Stack, Global, Pages, Arg, Result, Index, Item}
use Rattle.term_trees.specs.declared.term.Term.{Term}
use Rattle.term_trees.specs.declared.term.Formula.{Formula}
use Rattle.term_trees.specs.Formulas.{formula_nodes}
use Rattle.term_trees.specs.Leaves.{Leaves, no_leaves}
use Rattle.term_logic.specs.declared.leaves.LeafIds.{LeafIds}
use Rattle.term_logic.specs.Table.{tree_at}
use Rattle.term_logic.specs.Leaves.{place_id, leaves_of, LeavesWithin}
use Rattle.outline_rules.specs.Refusals.{Refusal, Ruling, PastLimit, limited, ◌>>◌}
use Rattle.outline_rules.specs.States.{State, nodes_of, with_facts, fact_added}
use Rattle.outline_rules.specs.Moves.{lemma_leaves}
use Rattle.symbolic_state.specs.words.Instances.{small_formula}
use Rattle.symbolic_state.specs.words.Limits.{limits}
use Rattle.symbolic_state.proofs.Settling.{fact-added-is}

all-some : {A : Type 0} (P : A → Type 0) (xs : List A) (k : ℕ) → All P xs → IfSome (slice_get xs k) P
all-some P [] k h = tt
all-some P (x ∷ xs) zero h = All-head P x xs h
all-some P (x ∷ xs) (suc k) h = all-some P xs k (All-tail P x xs h)

-- ---- the leaves

module _ (l m : LeafIds) where
  place-same : (p : Place) → place_id (record l { variables = m.variables }) p ≡ place_id l p
  place-same (Local k) = refl
  place-same (Stack k) = refl
  place-same (Global k) = refl
  place-same Pages = refl
  place-same (Arg k) = refl
  place-same Result = refl
  place-same Index = refl
  place-same Item = refl

  pub variables-leaves : (ts : List Term) → leaves_of ts l ≡ no_leaves → leaves_of ts (record l { variables = m.variables }) ≡ lemma_leaves (map (tree_at ts) m.variables.now)
  variables-leaves ts none = λ j. record {
    variable = λ k. sym (slice_get-map (tree_at ts) m.variables.now k) j;
    own = λ k. (none j).own k;
    place = λ p. (ap (option_map (tree_at ts)) (place-same p) ∙ ap (λ (x : Leaves). x.place p) none) j;
  }

  pub variables-within : (n : ℕ) → LeavesWithin n l → All (λ id. id < n) m.variables.now → LeavesWithin n (record l { variables = m.variables })
  variables-within n w low = record {
    variables = λ k. all-some (λ id. id < n) m.variables.now k low;
    own = w.own;
    places = λ p. subst (λ o. IfSome o (λ id. id < n)) (sym (place-same p)) (w.places p);
  }

-- ---- a fact that is made first

module _ (f : Formula) where
  pub small-large : nat_le (formula_nodes f) 4096 ≡ false → small_formula f ≡ Err (PastLimit limit.Nodes)
  small-large e = ap (λ b. limited limit.Nodes b >> Ok f) e

  pub small-there : nat_le (formula_nodes f) 4096 ≡ true → small_formula f ≡ Ok f
  small-there e = ap (λ b. limited limit.Nodes b >> Ok f) e

-- what comes after a formula
abbrev after_formula : Ruling State → Ruling Formula → Ruling State
after_formula r (Ok f) = r
after_formula r (Err e) = Err e

refused-by : (b : Bool) (f : Formula) (r : Ruling State) (e : Refusal) → (limited limit.Nodes b >> Ok f) ≡ Err e → (limited limit.Nodes b >> r) ≡ Err e
refused-by true f r e is = ap (after_formula r) is
refused-by false f r e is = ap (after_formula r) is

pub refused-first : (f : Formula) (s : State) (e : Refusal) → small_formula f ≡ Err e → fact_added f s ≡ Err e
refused-first f s e is = fact-added-is f s ∙ refused-by (nat_le (formula_nodes f) 4096) f (limits true (s.vars + 0) (length s.facts + 1) (length s.chunks + 0) (nodes_of s + formula_nodes f) >> Ok (with_facts (f ∷ []) s)) e is

pub small-is : (f g : Formula) → small_formula f ≡ Ok g → f ≡ g
small-is f g is = by_test (nat_le (formula_nodes f) 4096) is
  where
    by_test : (b : Bool) → (limited limit.Nodes b >> Ok f) ≡ Ok g → f ≡ g
    by_test true is = let same : Ok f ≡ Ok g = is in cc
    by_test false is = let never : Err (PastLimit limit.Nodes) ≡ Ok g = is in cc

pub ruleset instances = (refused-first, small-is)

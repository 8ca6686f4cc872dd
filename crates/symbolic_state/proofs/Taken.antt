-- The leaves that a term may have in a state, by positions.
use Rattle.std.proofs.Common.{◌≡◌, ℕ, ◌≤◌, Bool, true, false, ◌||◌, List, [], Option, Some, None, Ok, Err, Result, IfOk, slice_get, refl, sym, ap, ◌∙◌, arith}
use Rattle.std.specs.Prelude.{is_some, nat_lt, nat_le, option_map, if◌then◌else◌}
use Rattle.std.proofs.lemmas.Bool.{leb-true}
use Rattle.wasm_values.specs.declared.limit.LimitWord.TheVariants as limit
use Rattle.term_trees.specs.declared.term.Term.TheVariants as term
use Rattle.term_trees.specs.declared.term.Formula.{Formula}
use Rattle.term_trees.specs.Formulas.{formula_nodes}
use Rattle.term_trees.specs.Scopes.{given}
use Rattle.term_logic.specs.declared.scope.LeafScope.{LeafScope}
use Rattle.term_logic.specs.Scopes.{leaf_scope}
use Rattle.term_logic.specs.Table.{tree_at}
use Rattle.term_logic.specs.Leaves.{place_id}
use Rattle.notes.specs.declared.reason.Reason.TheVariants as reason
use Rattle.heap_logic.specs.Heaps.{AreSlots}
use Rattle.heap_logic.proofs.Takings.{formula-not-there, formula-too-large, formula-there}
use Rattle.wasm_values.specs.Answers.{Gives}
use Rattle.term_logic.specs.declared.formula.IdFormula.{IdFormula}
use Rattle.term_logic.specs.Formulas.{formula_of}
use Rattle.outline_rules.specs.Refusals.{Refusal, ForReason, PastLimit}
use Rattle.term_trees.specs.declared.term.Term.{Term}
use Rattle.term_logic.specs.declared.leaves.LeafIds.{LeafIds}
use Rattle.term_trees.specs.Leaves.{Leaves, replaced_formula}
use Rattle.heap_logic.specs.words.Leaves.{slot_leaves}
use Rattle.outline_rules.specs.Leaves.{variable_below, leaves_with, formula_has_leaves, taken_formula}
use Rattle.symbolic_state.specs.declared.state.SymState.{SymState}
use Rattle.symbolic_state.specs.States.{state_of}
use Rattle.symbolic_state.specs.words.Entries.{AreSlotsOf}
use Rattle.symbolic_state.proofs.Placed.{places-are}

pub slot-leaves-are : (ts : List Term) (vars : ℕ) (s : SymState) (l : LeafIds) → AreSlotsOf s l → slot_leaves ts vars l ≡ leaves_with vars (state_of ts s)
slot-leaves-are ts vars s l is = λ j. record { variable = variable_below vars; own = λ k. None; place = λ p. places-are ts s l is p j }

none-at : {A : Type 0} (xs : List A) (k : ℕ) → xs ≡ [] → is_some (slice_get xs k) ≡ false
none-at xs k is = ap (λ ys. is_some (slice_get ys k)) is

variable-there : (k : ℕ) (b c : Bool) → c ≡ false → (b || c) ≡ is_some (if b then Some (term.Var k) else None)
variable-there k true c is = refl
variable-there k false c is = is

some-there : (ts : List Term) (o : Option ℕ) → is_some o ≡ is_some (option_map (tree_at ts) o)
some-there ts None = refl
some-there ts (Some i) = refl

-- the leaves that the code asks for are those that there are
module _ (ts : List Term) (vars : ℕ) (l : LeafIds) (slots : AreSlots l) where
  pub leaf-scope-is : (s : LeafScope) → s.variables ≡ vars → s.leaves.now ≡ l → leaf_scope s ≡ given (slot_leaves ts vars l)
  leaf-scope-is s count is = (λ j. record {
    variable = λ k. nat_lt k (count j) || is_some (slice_get (is j).variables.now k);
    own = λ k. is_some (slice_get (is j).own.now k);
    place = λ p. is_some (place_id (is j) p);
  }) ∙ (λ j. record {
    variable = λ k. variable-there k (nat_lt k vars) (is_some (slice_get l.variables.now k)) (none-at l.variables.now k slots.variables) j;
    own = λ k. none-at l.own.now k slots.own j;
    place = λ p. some-there ts (place_id l p) j;
  })

-- a formula that is taken is within its limit
pub taken-small : (l : Leaves) (f g : Formula) → taken_formula l f ≡ Ok g → formula_nodes g ≤ 4096
taken-small l f g is = by_tests (formula_has_leaves l f) (nat_le (formula_nodes (replaced_formula l f)) 4096) refl refl
  where
    by_tests : (b d : Bool) → formula_has_leaves l f ≡ b → nat_le (formula_nodes (replaced_formula l f)) 4096 ≡ d → formula_nodes g ≤ 4096
    by_tests false d e h = let never : Err (ForReason reason.Scope) ≡ Ok g = sym (formula-not-there l f e) ∙ is in cc
    by_tests true false e h = let never : Err (PastLimit limit.Nodes) ≡ Ok g = sym (formula-too-large l f e h) ∙ is in cc
    by_tests true true e h =
        let there : Ok (replaced_formula l f) ≡ Ok g = sym (formula-there l f e h) ∙ is in
        let same : formula_nodes (replaced_formula l f) ≡ formula_nodes g = cc in
        let low : formula_nodes (replaced_formula l f) ≤ 4096 = leb-true (formula_nodes (replaced_formula l f)) 4096 h in
        omega (arith, same, low)

-- of what is answered
pub taken-within : (A : Type 0) (told : A → Option Refusal) (ts : List Term) (l : Leaves) (f : Formula) (r : Result IdFormula A) → Gives told (formula_of ts) r (taken_formula l f) → IfOk r (λ g. formula_nodes (formula_of ts g) ≤ 4096)
taken-within A told ts l f (Ok g) is = taken-small l f (formula_of ts g) is
taken-within A told ts l f (Err e) is = tt

pub ruleset takings = (taken-small)

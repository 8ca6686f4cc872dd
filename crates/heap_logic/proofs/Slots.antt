-- The leaves of slots: which there are, and what stands in their place.
use Rattle.std.proofs.Common.{◌≡◌, ℕ, Bool, true, false, List, [], Option, Some, None, refl, sym, ap, ◌∙◌}
use Rattle.std.specs.Prelude.{is_some, nat_lt, slice_get, if◌then◌else◌, option_map, unwrap_or}
use Rattle.term_trees.specs.declared.term.Place.{Place}
use Rattle.term_trees.specs.declared.term.Place.TheVariants.{Local, Stack, Global, Pages, Arg, Result, Index, Item}
use Rattle.term_trees.specs.declared.term.Term.{Term}
use Rattle.term_trees.specs.declared.term.Term.TheVariants as term
use Rattle.term_trees.specs.Scopes.{given}
use Rattle.term_logic.specs.declared.leaves.LeafIds.{LeafIds}
use Rattle.term_logic.specs.Table.{tree_at}
use Rattle.term_logic.specs.Leaves.{place_id, leaves_of}
use Rattle.outline_rules.specs.Leaves.{in_row}
use Rattle.heap_logic.specs.declared.taking.RowScope.{RowScope}
use Rattle.heap_logic.specs.declared.taking.SlotScope.{SlotScope}
use Rattle.heap_logic.specs.Heaps.{AreSlots}
use Rattle.heap_logic.specs.words.Leaves.{slot_leaves, slot_scope, place_there, row_scope}
use Rattle.heap_logic.proofs.Alike.{SameTrees}

none_at : {A : Type 0} (xs : List A) (k : ℕ) → xs ≡ [] → slice_get xs k ≡ None
none_at xs k is = ap (λ ys. slice_get ys k) is

module _ (ts : List Term) (vars : ℕ) (l : LeafIds) (slots : AreSlots l) where
  variable_there : (k : ℕ) (b : Bool) → b ≡ is_some (if b then Some (term.Var k) else None)
  variable_there k true = refl
  variable_there k false = refl

  some_there : (o : Option ℕ) → is_some o ≡ is_some (option_map (tree_at ts) o)
  some_there None = refl
  some_there (Some i) = refl

  -- the leaves that the code asks for are those that there are
  pub scope-is : (s : SlotScope) → s.variables ≡ vars → s.slots.now ≡ l → slot_scope s ≡ given (slot_leaves ts vars l)
  scope-is s count is = (λ j. record {
    variable = λ k. nat_lt k (count j);
    own = λ k. false;
    place = λ p. is_some (place_id (is j) p);
  }) ∙ (λ j. record {
    variable = λ k. variable_there k (nat_lt k vars) j;
    own = λ k. false;
    place = λ p. some_there (place_id l p) j;
  })

  row_there : (p : Place) → place_there (λ q. is_some (place_id l q)) p ≡ is_some ((in_row (slot_leaves ts vars l)).place p)
  row_there (Local k) = some_there (place_id l (Local k))
  row_there (Stack k) = some_there (place_id l (Stack k))
  row_there (Global k) = some_there (place_id l (Global k))
  row_there Pages = some_there (place_id l Pages)
  row_there (Arg k) = some_there (place_id l (Arg k))
  row_there Result = some_there (place_id l Result)
  row_there Index = refl
  row_there Item = refl

  pub row-scope-is : (s : RowScope) → s.variables ≡ vars → s.slots.now ≡ l → row_scope s ≡ given (in_row (slot_leaves ts vars l))
  row-scope-is s count is = (λ j. record {
    variable = λ k. nat_lt k (count j);
    own = λ k. false;
    place = place_there (λ p. is_some (place_id (is j) p));
  }) ∙ (λ j. record {
    variable = λ k. variable_there k (nat_lt k vars) j;
    own = λ k. false;
    place = λ p. row_there p j;
  })

  variable_tree : (k : ℕ) (b : Bool) → unwrap_or (if b then Some (term.Var k) else None) (term.Var k) ≡ term.Var k
  variable_tree k true = refl
  variable_tree k false = refl

  variables_stay : (k : ℕ) → unwrap_or (option_map (tree_at ts) (slice_get l.variables.now k)) (term.Var k) ≡ term.Var k
  variables_stay k = ap (λ o. unwrap_or (option_map (tree_at ts) o) (term.Var k)) (none_at l.variables.now k slots.variables)

  own_stay : (k : ℕ) → unwrap_or (option_map (tree_at ts) (slice_get l.own.now k)) (term.Own k) ≡ term.Own k
  own_stay k = ap (λ o. unwrap_or (option_map (tree_at ts) o) (term.Own k)) (none_at l.own.now k slots.own)

  -- the leaves come to the trees that the code puts
  pub slots-same : SameTrees (slot_leaves ts vars l) (leaves_of ts l)
  slots-same = record {
    variables = λ k. variable_tree k (nat_lt k vars) ∙ sym (variables_stay k);
    own = λ k. sym (own_stay k);
    places = λ p. refl;
  }

  row_tree : (p : Place) → unwrap_or ((in_row (slot_leaves ts vars l)).place p) (term.At p) ≡ unwrap_or ((leaves_of ts l).place p) (term.At p)
  row_tree (Local k) = refl
  row_tree (Stack k) = refl
  row_tree (Global k) = refl
  row_tree Pages = refl
  row_tree (Arg k) = refl
  row_tree Result = refl
  row_tree Index = sym (ap (λ o. unwrap_or (option_map (tree_at ts) o) (term.At Index)) slots.index)
  row_tree Item = sym (ap (λ o. unwrap_or (option_map (tree_at ts) o) (term.At Item)) slots.item)

  pub row-same : SameTrees (in_row (slot_leaves ts vars l)) (leaves_of ts l)
  row-same = record {
    variables = λ k. variable_tree k (nat_lt k vars) ∙ sym (variables_stay k);
    own = λ k. sym (own_stay k);
    places = row_tree;
  }

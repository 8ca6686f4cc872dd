-- The slots of a state as leaves.
use Rattle.std.proofs.Common.{◌≡◌, ℕ, zero, suc, ◌<◌, List, [], ◌∷◌, All, map, reverse, slice_get, Option, Some, None, IfSome, refl, sym, ap, subst, ◌∙◌}
use Rattle.std.specs.Prelude.{option_map, option_and_then}
use Rattle.std.proofs.lemmas.List.Elements.{All-head, All-tail}
use Rattle.std.proofs.lemmas.Option.{slice_get-map}
use Rattle.wasm_values.specs.declared.number.ValType.{ValType}
use Rattle.term_trees.specs.declared.term.Place.{Place}
use Rattle.term_trees.specs.declared.term.Place.TheVariants.{Local, Stack, Global, Pages, Arg, Result, Index, Item}
use Rattle.term_trees.specs.declared.term.Term.{Term}
use Rattle.term_logic.specs.declared.leaves.LeafIds.{LeafIds}
use Rattle.term_logic.specs.Table.{tree_at}
use Rattle.term_logic.specs.Leaves.{place_id, LeavesWithin}
use Rattle.heap_logic.specs.Heaps.{AreSlots}
use Rattle.outline_rules.specs.Leaves.{state_place}
use Rattle.symbolic_state.specs.declared.state.SymState.{SymState}
use Rattle.symbolic_state.specs.States.{entry_at, state_of, StateWithin}
use Rattle.symbolic_state.specs.words.Entries.{AreSlotsOf}
use Rattle.symbolic_state.proofs.Lists.{All-reverse}

-- ---- items of lists whose items are within

pub all-some : {A : Type 0} (P : A → Type 0) (xs : List A) (k : ℕ) → All P xs → IfSome (slice_get xs k) P
all-some P [] k h = tt
all-some P (x ∷ xs) zero h = All-head P x xs h
all-some P (x ∷ xs) (suc k) h = all-some P xs k (All-tail P x xs h)

pub mapped-some : {A B : Type 0} (P : B → Type 0) (f : A → B) (o : Option A) → IfSome o (λ a. P (f a)) → IfSome (option_map f o) P
mapped-some P f None h = tt
mapped-some P f (Some a) h = h

pub joined-some : {A : Type 0} (P : A → Type 0) (o : Option (Option A)) → IfSome o (λ p. IfSome p P) → IfSome (option_and_then (λ p. p) o) P
joined-some P None h = tt
joined-some P (Some p) h = h

-- ---- the terms of the slots

module _ (ts : List Term) where
  entry-term : (o : Option (ValType × ℕ)) → option_map (tree_at ts) (option_map (λ e. e.1) o) ≡ option_map (λ e. e.1) (option_map (entry_at ts) o)
  entry-term None = refl
  entry-term (Some e) = refl

  joined-term : (o : Option (Option ℕ)) → option_map (tree_at ts) (option_and_then (λ p. p) o) ≡ option_and_then (λ p. p) (option_map (option_map (tree_at ts)) o)
  joined-term None = refl
  joined-term (Some p) = refl

  pub entry-at : (es : List (ValType × ℕ)) (k : ℕ) → option_map (tree_at ts) (option_map (λ e. e.1) (slice_get es k)) ≡ option_map (λ e. e.1) (slice_get (map (entry_at ts) es) k)
  entry-at es k = entry-term (slice_get es k) ∙ ap (option_map (λ e. e.1)) (sym (slice_get-map (entry_at ts) es k))

  pub global-at : (gs : List (Option ℕ)) (k : ℕ) → option_map (tree_at ts) (option_and_then (λ p. p) (slice_get gs k)) ≡ option_and_then (λ p. p) (slice_get (map (option_map (tree_at ts)) gs) k)
  global-at gs k = joined-term (slice_get gs k) ∙ ap (option_and_then (λ p. p)) (sym (slice_get-map (option_map (tree_at ts)) gs k))

  module _ (s : SymState) (l : LeafIds) (is : AreSlotsOf s l) where
    pub places-are : (p : Place) → option_map (tree_at ts) (place_id l p) ≡ state_place (state_of ts s) p
    places-are (Local k) = ap (λ es. option_map (tree_at ts) (option_map (λ e. e.1) (slice_get es k))) is.locals ∙ entry-at s.locals k
    places-are (Stack k) = ap (λ es. option_map (tree_at ts) (option_map (λ e. e.1) (slice_get (reverse es) k))) is.stack ∙ entry-at (reverse s.stack) k
    places-are (Global k) = ap (λ gs. option_map (tree_at ts) (option_and_then (λ p. p) (slice_get gs k))) is.globals ∙ global-at s.globals k
    places-are Pages = ap (option_map (tree_at ts)) is.pages
    places-are (Arg k) = ap (λ xs. option_map (tree_at ts) (slice_get xs k)) is.args ∙ sym (slice_get-map (tree_at ts) s.args k)
    places-are Result = ap (option_map (tree_at ts)) is.result
    places-are Index = ap (option_map (tree_at ts)) is.index
    places-are Item = ap (option_map (tree_at ts)) is.item

-- ---- the positions of the slots

module _ (n : ℕ) (s : SymState) (l : LeafIds) (is : AreSlotsOf s l) (w : StateWithin n s) where
  abbrev Low : Option ℕ → Type 0
  Low o = IfSome o (λ id. id < n)

  entry-low : (es : List (ValType × ℕ)) (k : ℕ) → All (λ e. e.1 < n) es → Low (option_map (λ e. e.1) (slice_get es k))
  entry-low es k h = mapped-some (λ id. id < n) (λ e. e.1) (slice_get es k) (all-some (λ e. e.1 < n) es k h)

  place-low : (p : Place) → Low (place_id l p)
  place-low (Local k) = subst (λ es. Low (option_map (λ e. e.1) (slice_get es k))) (sym is.locals) (entry-low s.locals k w.locals)
  place-low (Stack k) = subst (λ es. Low (option_map (λ e. e.1) (slice_get (reverse es) k))) (sym is.stack) (entry-low (reverse s.stack) k (All-reverse (λ e. e.1 < n) s.stack w.stack))
  place-low (Global k) =
      subst (λ gs. Low (option_and_then (λ p. p) (slice_get gs k))) (sym is.globals)
      (joined-some (λ id. id < n) (slice_get s.globals k) (all-some (λ o. IfSome o (λ id. id < n)) s.globals k w.globals))
  place-low Pages = subst Low (sym is.pages) w.pages
  place-low (Arg k) = subst (λ xs. Low (slice_get xs k)) (sym is.args) (all-some (λ id. id < n) s.args k w.args)
  place-low Result = subst Low (sym is.result) tt
  place-low Index = subst Low (sym is.index) tt
  place-low Item = subst Low (sym is.item) tt

  pub slots-within : LeavesWithin n l
  slots-within = record {
    variables = λ k. subst (λ xs. Low (slice_get xs k)) (sym is.variables) tt;
    own = λ k. subst (λ xs. Low (slice_get xs k)) (sym is.own) tt;
    places = place-low;
  }

pub are-slots : (s : SymState) (l : LeafIds) → AreSlotsOf s l → AreSlots l
are-slots s l is = record { variables = is.variables; own = is.own; result = is.result; index = is.index; item = is.item }

pub ruleset placed = (places-are, slots-within, are-slots)

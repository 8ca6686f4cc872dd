-- The leaves of an assertion over a state.
use Rattle.std.proofs.Common.{◌≡◌, ℕ, ◌<◌, List, All, map, reverse, slice_get, Option, IfSome, sym, ap, subst, ◌∙◌}
use Rattle.std.specs.Prelude.{option_map, option_and_then}
use Rattle.std.proofs.lemmas.Option.{slice_get-map}
use Rattle.wasm_values.specs.declared.number.ValType.{ValType}
use Rattle.term_trees.specs.declared.term.Place.{Place}
use Rattle.term_trees.specs.declared.term.Place.TheVariants.{Local, Stack, Global, Pages, Arg, Result, Index, Item}
use Rattle.term_trees.specs.declared.term.Term.{Term}
use Rattle.term_logic.specs.declared.leaves.LeafIds.{LeafIds}
use Rattle.term_logic.specs.Table.{tree_at}
use Rattle.term_logic.specs.Leaves.{place_id, leaves_of, LeavesWithin}
use Rattle.outline_rules.specs.Entailment.{assertion_place, assertion_leaves}
use Rattle.symbolic_state.specs.declared.state.SymState.{SymState}
use Rattle.symbolic_state.specs.States.{state_of, StateWithin}
use Rattle.symbolic_state.specs.words.Entries.{AreLeavesOf}
use Rattle.symbolic_state.proofs.Lists.{All-reverse}
use Rattle.symbolic_state.proofs.Placed.{all-some, mapped-some, joined-some, entry-at, global-at}

module _ (s : SymState) (own args : List ℕ) (answer : Option ℕ) (l : LeafIds) (is : AreLeavesOf s own args answer l) where
  module _ (ts : List Term) where
    place-is : (p : Place) → option_map (tree_at ts) (place_id l p) ≡ assertion_place (state_of ts s) (map (tree_at ts) args) (option_map (tree_at ts) answer) p
    place-is (Local k) = ap (λ es. option_map (tree_at ts) (option_map (λ e. e.1) (slice_get es k))) is.locals ∙ entry-at ts s.locals k
    place-is (Stack k) = ap (λ es. option_map (tree_at ts) (option_map (λ e. e.1) (slice_get (reverse es) k))) is.stack ∙ entry-at ts (reverse s.stack) k
    place-is (Global k) = ap (λ gs. option_map (tree_at ts) (option_and_then (λ p. p) (slice_get gs k))) is.globals ∙ global-at ts s.globals k
    place-is Pages = ap (option_map (tree_at ts)) is.pages
    place-is (Arg k) = ap (λ xs. option_map (tree_at ts) (slice_get xs k)) is.args ∙ sym (slice_get-map (tree_at ts) args k)
    place-is Result = ap (option_map (tree_at ts)) is.result
    place-is Index = ap (option_map (tree_at ts)) is.index
    place-is Item = ap (option_map (tree_at ts)) is.item

    own-is : (k : ℕ) → option_map (tree_at ts) (slice_get l.own.now k) ≡ slice_get (map (tree_at ts) own) k
    own-is k = ap (λ xs. option_map (tree_at ts) (slice_get xs k)) is.own ∙ sym (slice_get-map (tree_at ts) own k)

    pub leaves-are : leaves_of ts l ≡ assertion_leaves (state_of ts s) (map (tree_at ts) own) (map (tree_at ts) args) (option_map (tree_at ts) answer)
    leaves-are = λ j. record {
      variable = λ k. option_map (tree_at ts) (slice_get (is.variables j) k);
      own = λ k. own-is k j;
      place = λ p. place-is p j;
    }

  module _ (n : ℕ) (w : StateWithin n s) (low_own : All (λ id. id < n) own) (low_args : All (λ id. id < n) args) (low_answer : IfSome answer (λ id. id < n)) where
    abbrev Low : Option ℕ → Type 0
    Low o = IfSome o (λ id. id < n)

    entry-low : (es : List (ValType × ℕ)) (k : ℕ) → All (λ e. e.1 < n) es → Low (option_map (λ e. e.1) (slice_get es k))
    entry-low es k h = mapped-some (λ id. id < n) (λ e. e.1) (slice_get es k) (all-some (λ e. e.1 < n) es k h)

    place-low : (p : Place) → Low (place_id l p)
    place-low (Local k) = subst (λ es. Low (option_map (λ e. e.1) (slice_get es k))) (sym is.locals) (entry-low s.locals k w.locals)
    place-low (Stack k) = subst (λ es. Low (option_map (λ e. e.1) (slice_get (reverse es) k))) (sym is.stack) (entry-low (reverse s.stack) k (All-reverse (λ e. e.1 < n) s.stack w.stack))
    place-low (Global k) =
        subst (λ gs. Low (option_and_then (λ p. p) (slice_get gs k))) (sym is.globals)
        (joined-some (λ id. id < n) (slice_get s.globals k) (all-some (λ o. IfSome o (λ id. id < n)) s.globals k w.globals))
    place-low Pages = subst Low (sym is.pages) w.pages
    place-low (Arg k) = subst (λ xs. Low (slice_get xs k)) (sym is.args) (all-some (λ id. id < n) args k low_args)
    place-low Result = subst Low (sym is.result) low_answer
    place-low Index = subst Low (sym is.index) tt
    place-low Item = subst Low (sym is.item) tt

    pub leaves-within : LeavesWithin n l
    leaves-within = record {
      variables = λ k. subst (λ xs. Low (slice_get xs k)) (sym is.variables) tt;
      own = λ k. subst (λ xs. Low (slice_get xs k)) (sym is.own) (all-some (λ id. id < n) own k low_own);
      places = place-low;
    }

pub ruleset over = (leaves-are, leaves-within)

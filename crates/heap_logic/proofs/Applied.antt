-- A heap move over a table is its plan and the change within the limits, whatever terms are given.
use Rattle.std.proofs.Common.{◌≡◌, ℕ, ◌<◌, ◌≤◌, suc, List, [], ◌∷◌, length, map, reverse, take, Option, Some, None, Ok, Err, IfSome, refl, sym, ap, ◌∙◌, subst, arith}
use Rattle.std.specs.Prelude.{Result, slice_get, option_map, option_and_then, OnOk, OnErr, IfOk}
use Rattle.std.proofs.Math.Seq.{take-append_seam}
use Rattle.std.proofs.lemmas.List.Elements.{All-append}
use Rattle.std.proofs.lemmas.Option.{slice_get-map}
use Rattle.wasm_values.specs.declared.number.ValType.{ValType}
use Rattle.wasm_values.specs.Answers.{Gives}
use Rattle.term_trees.specs.declared.term.Place.{Place}
use Rattle.term_trees.specs.declared.term.Place.TheVariants.{Local, Stack, Global, Pages, Arg, Result as ResultPlace, Index, Item}
use Rattle.term_trees.specs.declared.term.Term.{Term}
use Rattle.term_logic.specs.declared.leaves.LeafIds.{LeafIds}
use Rattle.term_logic.specs.Table.{tree_at}
use Rattle.term_logic.specs.Formulas.{formula_bound}
use Rattle.term_logic.specs.Leaves.{place_id, LeavesWithin}
use Rattle.term_logic.specs.Extends.{Extends}
use Rattle.notes.specs.declared.heap_move.HeapMove.{HeapMove}
use Rattle.notes.specs.declared.heap_move.HeapMove.TheVariants.{Split, Merge, Forget, View, Halve, Unite, Readdr, Reval, Relen, Pick, Join, Enrow, Rows}
use Rattle.outline_rules.specs.Refusals.{Ruling, Refusal, ◌>>=◌, ◌>>◌}
use Rattle.outline_rules.specs.States.{State, nodes_of}
use Rattle.outline_rules.specs.Leaves.{move_leaves, state_place, variable_below}
use Rattle.outline_rules.specs.HeapMoves.{heap_moved}
use Rattle.heap_logic.specs.declared.fault.MoveFault.{MoveFault}
use Rattle.heap_logic.specs.declared.heap.SymHeap.{SymHeap}
use Rattle.heap_logic.specs.declared.change.Change.{Change}
use Rattle.heap_logic.specs.Faults.{refusal_of}
use Rattle.heap_logic.specs.Heaps.{seen, AreSlots, ChunkWithin, HasWidth, HasWidths, HeapWithin}
use Rattle.heap_logic.specs.words.Commits.{changed, state_limits}
use Rattle.heap_logic.specs.words.Effects.{after, bare, effect_of, ChangeWithin}
use Rattle.heap_logic.specs.words.Leaves.{slot_leaves}
use Rattle.heap_logic.specs.words.Planned.{planned}
use Rattle.heap_logic.proofs.Committed.{seen-after, all-after}
use Rattle.heap_logic.proofs.Growing.{chunks_of-kept, heap-more}
use Rattle.heap_logic.proofs.Planning.{moved-is}

-- the state of a heap with these terms for the precondition's own variables
abbrev pub given_state : List Term → SymHeap → LeafIds → List Term → State
given_state ts h l gs = record (seen ts h l) { given = gs }

-- ---- the leaves

abbrev value_of : {A : Type 0} → ValType × A → A
value_of e = e.1

abbrev tree_of : List Term → ValType × ℕ → ValType × Term
tree_of ts e = (e.0, tree_at ts e.1)

module _ (ts : List Term) (h : SymHeap) (l : LeafIds) (slots : AreSlots l) (gs : List Term) where
  entry-there : (o : Option (ValType × ℕ)) → option_map value_of (option_map (tree_of ts) o) ≡ option_map (tree_at ts) (option_map value_of o)
  entry-there None = refl
  entry-there (Some e) = refl

  global-there : (o : Option (Option ℕ)) → option_and_then (λ t. t) (option_map (λ g. option_map (tree_at ts) g) o) ≡ option_map (tree_at ts) (option_and_then (λ e. e) o)
  global-there None = refl
  global-there (Some g) = refl

  place-is : (p : Place) → state_place (given_state ts h l gs) p ≡ option_map (tree_at ts) (place_id l p)
  place-is (Local k) = ap (λ o. option_map value_of o) (slice_get-map (tree_of ts) l.locals.now k) ∙ entry-there (slice_get l.locals.now k)
  place-is (Stack k) = ap (λ o. option_map value_of o) (slice_get-map (tree_of ts) (reverse l.stack.now) k) ∙ entry-there (slice_get (reverse l.stack.now) k)
  place-is (Global k) = ap (λ o. option_and_then (λ t. t) o) (slice_get-map (λ g. option_map (tree_at ts) g) l.globals.now k) ∙ global-there (slice_get l.globals.now k)
  place-is Pages = refl
  place-is (Arg k) = slice_get-map (tree_at ts) l.args.now k
  place-is ResultPlace = sym (ap (option_map (tree_at ts)) slots.result)
  place-is Index = sym (ap (option_map (tree_at ts)) slots.index)
  place-is Item = sym (ap (option_map (tree_at ts)) slots.item)

  leaves-are : move_leaves (given_state ts h l gs) ≡ slot_leaves ts h.vars l
  leaves-are = λ j. record { variable = variable_below h.vars; own = λ k. None; place = λ p. place-is p j }

  -- a plan doesn't read the slots' terms but by the leaves
  bare-is : (m : HeapMove) → planned m (slot_leaves ts h.vars l) (given_state ts h l gs) ≡ planned m (slot_leaves ts h.vars l) (bare ts h)
  bare-is (Split c t f g) = refl
  bare-is (Merge c d f) = refl
  bare-is (Forget c) = refl
  bare-is (View c) = refl
  bare-is (Halve c) = refl
  bare-is (Unite c d f) = refl
  bare-is (Readdr c t f) = refl
  bare-is (Reval c t f) = refl
  bare-is (Relen c t f) = refl
  bare-is (Pick c t f g) = refl
  bare-is (Join c d f) = refl
  bare-is (Enrow c each f) = refl
  bare-is (Rows c w each) = refl

  pub moved-by : (m : HeapMove) → heap_moved m (given_state ts h l gs)
      ≡ (planned m (slot_leaves ts h.vars l) (bare ts h) >>= λ e. state_limits (after e (seen ts h l)) >> Ok (record (after e (seen ts h l)) { given = gs }))
  moved-by m =
      moved-is m (given_state ts h l gs)
      ∙ (λ j. planned m (leaves-are j) (given_state ts h l gs) >>= λ e. state_limits (after e (seen ts h l)) >> Ok (record (after e (seen ts h l)) { given = gs }))
      ∙ (λ j. bare-is m j >>= λ e. state_limits (after e (seen ts h l)) >> Ok (record (after e (seen ts h l)) { given = gs }))

-- ---- while the table grows

module _ (old new : List Term) (more : Extends old new) where
  entries-kept : (xs : List (ValType × ℕ)) → ((k : ℕ) → IfSome (option_map value_of (slice_get xs k)) (λ i. i < length old))
      → map (tree_of new) xs ≡ map (tree_of old) xs
  entries-kept [] all = refl
  entries-kept (e ∷ es) all = λ j. (e.0, more.kept e.1 (all 0) j) ∷ entries-kept es (λ k. all (suc k)) j

  option-kept : (o : Option ℕ) → IfSome o (λ i. i < length old) → option_map (tree_at new) o ≡ option_map (tree_at old) o
  option-kept None h = refl
  option-kept (Some i) h = ap Some (more.kept i h)

  globals-kept : (xs : List (Option ℕ)) → ((k : ℕ) → IfSome (option_and_then (λ e. e) (slice_get xs k)) (λ i. i < length old))
      → map (λ o. option_map (tree_at new) o) xs ≡ map (λ o. option_map (tree_at old) o) xs
  globals-kept [] all = refl
  globals-kept (o ∷ os) all = λ j. option-kept o (all 0) j ∷ globals-kept os (λ k. all (suc k)) j

  args-kept : (xs : List ℕ) → ((k : ℕ) → IfSome (slice_get xs k) (λ i. i < length old)) → map (tree_at new) xs ≡ map (tree_at old) xs
  args-kept [] all = refl
  args-kept (i ∷ is) all = λ j. more.kept i (all 0) j ∷ args-kept is (λ k. all (suc k)) j

  -- the state is the same
  pub seen-kept : (h : SymHeap) (l : LeafIds) → HeapWithin (length old) h → LeavesWithin (length old) l → seen new h l ≡ seen old h l
  seen-kept h l w lw = λ j. record {
    vars = h.vars;
    facts = more.formulas h.facts w.facts j;
    chunks = chunks_of-kept old new more h.chunks w.chunks j;
    locals = entries-kept l.locals.now (λ k. lw.places (Local k)) j;
    operands = entries-kept (reverse l.stack.now) (λ k. lw.places (Stack k)) j;
    globals = globals-kept l.globals.now (λ k. lw.places (Global k)) j;
    pages = option-kept l.pages (lw.places Pages) j;
    args = args-kept l.args.now (λ k. lw.places (Arg k)) j;
    given = [];
  }

-- ---- a move by its plan and its commit

-- a state with these terms given, after what was met
abbrev then_given : List Term → State → Ruling (Unit {0}) → Ruling State
then_given gs s r = r >> Ok (record s { given = gs })

abbrev ok_given : List Term → State → Ruling State
ok_given gs s = Ok (record s { given = gs })

abbrev ok_seen : List Term → LeafIds → List Term → SymHeap → Ruling State
ok_seen ts l gs x = Ok (given_state ts x l gs)

module _ (old new : List Term) (more : Extends old new) (h k : SymHeap) (l : LeafIds) (slots : AreSlots l) (w : HeapWithin (length old) h) (lw : LeavesWithin (length old) l) (m : HeapMove) (c : Change)
    (cw : ChangeWithin (length new) h c) (plan : planned m (slot_leaves old h.vars l) (bare old h) ≡ Ok (effect_of new c)) where
  by-plan : (gs : List Term) → heap_moved m (given_state old h l gs)
      ≡ (state_limits (after (effect_of new c) (seen new h l)) >> Ok (record (after (effect_of new c) (seen new h l)) { given = gs }))
  by-plan gs =
      moved-by old h l slots gs m
      ∙ ap (λ r. r >>= λ e. state_limits (after e (seen old h l)) >> Ok (record (after e (seen old h l)) { given = gs })) plan
      ∙ (λ j. let s = sym (seen-kept old new more h l w lw) j in state_limits (after (effect_of new c) s) >> Ok (record (after (effect_of new c) s) { given = gs }))

  pub applied : (r : Result ℕ MoveFault) → Gives refusal_of (λ x. tt) r (state_limits (after (effect_of new c) (seen new h l))) → OnOk r (k ≡ changed c h)
      → (gs : List Term) → Gives refusal_of (λ x. given_state new k l gs) r (heap_moved m (given_state old h l gs))
  applied (Ok n) fits is gs =
      by-plan gs ∙ ap (then_given gs (after (effect_of new c) (seen new h l))) fits
      ∙ ap (ok_given gs) (sym (seen-after new h l c (length new) cw))
      ∙ ap (ok_seen new l gs) (sym is)
  applied (Err e) fits is gs = by_fault (refusal_of e) fits
    where
      by_fault : (o : Option Refusal) → IfSome o (λ f. state_limits (after (effect_of new c) (seen new h l)) ≡ Err f) → IfSome o (λ f. heap_moved m (given_state old h l gs) ≡ Err f)
      by_fault None g = tt
      by_fault (Some f) g = by-plan gs ∙ ap (then_given gs (after (effect_of new c) (seen new h l))) g

  pub nodes-applied : (r : Result ℕ MoveFault) → IfOk r (λ n. n ≡ nodes_of (after (effect_of new c) (seen new h l))) → OnOk r (k ≡ changed c h) → IfOk r (λ n. n ≡ nodes_of (seen new k l))
  nodes-applied (Ok n) count is = count ∙ ap nodes_of (sym (seen-after new h l c (length new) cw)) ∙ ap (λ x. nodes_of (seen new x l)) (sym is)
  nodes-applied (Err e) count is = tt

  heap-changed : HeapWithin (length new) (changed c h)
  heap-changed =
      let wide = heap-more (length old) (length new) more.longer h w in
      record {
        facts = All-append (λ f. formula_bound f ≤ length new) h.facts c.facts wide.facts cw.facts;
        chunks = all-after (λ x. ChunkWithin (length new) x) h.chunks c.more c.chunk c.becomes c.gone wide.chunks cw.becomes cw.more;
      }

  pub heap-applied : (r : Result ℕ MoveFault) → OnOk r (k ≡ changed c h) → OnErr r (k ≡ h) → HeapWithin (length new) k
  heap-applied (Ok n) is kept = subst (HeapWithin (length new)) (sym is) heap-changed
  heap-applied (Err e) is kept = subst (HeapWithin (length new)) (sym kept) (heap-more (length old) (length new) more.longer h w)

  pub widths-applied : HasWidths h → (r : Result ℕ MoveFault) → OnOk r (k ≡ changed c h) → OnErr r (k ≡ h) → HasWidths k
  widths-applied ws (Ok n) is kept = subst HasWidths (sym is) (all-after HasWidth h.chunks c.more c.chunk c.becomes c.gone ws (cw.width ws) (cw.widths ws))
  widths-applied ws (Err e) is kept = subst HasWidths (sym kept) ws

  pub facts-applied : (r : Result ℕ MoveFault) → OnOk r (k ≡ changed c h) → OnOk r (take (length h.facts) k.facts ≡ h.facts)
  facts-applied (Ok n) is = ap (λ x. take (length h.facts) x.facts) is ∙ take-append_seam h.facts c.facts
  facts-applied (Err e) is = tt

  pub variables-applied : (r : Result ℕ MoveFault) → OnOk r (k ≡ changed c h) → OnOk r (h.vars ≤ k.vars)
  variables-applied (Ok n) is = omega (arith, ap (λ x. x.vars) is)
  variables-applied (Err e) is = tt

-- a move whose plan is refused
pub refused-plan : (old new : List Term) (h : SymHeap) (l : LeafIds) (slots : AreSlots l) (m : HeapMove) (gs : List Term) (o : Option Refusal)
    → IfSome o (λ f. planned m (slot_leaves old h.vars l) (bare old h) ≡ Err f) → IfSome o (λ f. heap_moved m (given_state old h l gs) ≡ Err f)
refused-plan old new h l slots m gs None p = tt
refused-plan old new h l slots m gs (Some f) p =
    moved-by old h l slots gs m ∙ ap (λ r. r >>= λ e. state_limits (after e (seen old h l)) >> Ok (record (after e (seen old h l)) { given = gs })) p

-- Coming back from a take.
use Rattle.std.proofs.Common.{◌≡◌, IsTrue, refl, ap, subst, sym}
use Rattle.std.specs.List.{list_all}
use Rattle.term_trees.proofs.Truths.{both}
use Rattle.notes.specs.declared.uses.Take.{Take}
use Rattle.notes.specs.WellFormed.{well_formed_move, well_formed_with, well_formed_take}
use Rattle.outline_rules.specs.States.{State}
use Rattle.symbolic_state.specs.declared.snapshot.Snapshot.{Snapshot}
use Rattle.symbolic_state.specs.States.{Tracked}
use Rattle.symbolic_state.specs.Growth.{Grown}
use Rattle.symbolic_state.specs.Snapshots.{Remembers, Follows}
use Rattle.symbolic_state.proofs.Grows.{grown-table}
use Rattle.symbolic_state.proofs.Restored.{remembers-kept, restorable, follows-grown}

-- ---- the parts of a take

pub take-moves : (t : Take) → IsTrue (well_formed_take t) → IsTrue (list_all well_formed_move t.moves)
take-moves t well = (both (list_all well_formed_move t.moves) (well_formed_with t.with) well).0

pub take-with : (t : Take) → IsTrue (well_formed_take t) → IsTrue (well_formed_with t.with)
take-with t well = (both (list_all well_formed_move t.moves) (well_formed_with t.with) well).1

pub ruleset take_parts = (take-moves, take-with)

-- ---- the state again

module _ (a b c : Tracked) (snapshot : Snapshot) (remembers : Remembers a.terms snapshot a.state) (more : Grown a b)
    (back : (s : State) → Remembers b.terms snapshot s → Follows s b.state → c ≡ record b { state = s }) where
  pub state-back : c.state ≡ a.state
  state-back = ap (λ t. t.state) (back a.state (remembers-kept a.terms b.terms more.terms snapshot a.state remembers) (follows-grown a b more))

  pub grown-back : Grown a c
  grown-back =
      let is = back a.state (remembers-kept a.terms b.terms more.terms snapshot a.state remembers) (follows-grown a b more) in
      subst (Grown a) (sym is) (grown-table a (record b { state = a.state }) more.terms refl)

pub ruleset coming_back = (restorable)

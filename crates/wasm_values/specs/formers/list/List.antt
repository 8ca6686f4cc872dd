-- How a `List` stores what it holds, so that a type may hold itself in a list, as an instruction holds
-- instructions. A list is seen as the list of its items: its shape is the list of the items' shapes.
use mathlib.Core.Path.{◌≡◌, refl, sym}
use mathlib.Core.List.{List, []}
use mathlib.Core.Former.{Former, this, list, via, children}
use base.Stored.{code_map}
use denote.RattleType.{RattleType}
use denote.HoleLaws.{Alike}
use denote.HolePlaces.{Recodes, struct_places, laid}
use denote.Hole.Carrier.{listed, list-listed}
use denote.Hole.Fix.{over}
use denote.Param.Weighed.{Weighed, w_list}
use denote.Model.Placed.{view_places}
use Rattle.std.specs.formers.vec.Vec as vec
use Rattle.std.specs.declared.alloc.Global.{Global}
use Rattle.std.specs.contracts.alloc.Global as heap
use Rattle.std.specs.contracts.impls.GlobalAllocator.TheImpl.{ghosts}
use Rattle.wasm_values.specs.declared.list.List.TheInside.{Inside}
use Rattle.wasm_values.specs.declared.list.List.TheView.{view, invariant}
use Rattle.wasm_values.specs.contracts.list.List as contracts
use Rattle.wasm_values.specs.contracts.list.List.TheInside as inside

-- what contracts see of a list over g's values: their list
abbrev pub the_former : Former {0} → Former {0}
the_former g = list g

-- the largest measure among the items
abbrev pub the_weighed : {g : Former {0}} → Weighed g → Weighed (the_former g)
the_weighed weighed = w_list weighed

-- a list may hold nothing
abbrev pub the_empty : List ⊥
the_empty = []

-- the items, in order
abbrev pub the_items : (X : Type 0) → List X → List X
the_items X items = items

pub the_items_listed : (X : Type 0) (items : List X) → listed _ (children (the_former this) X items) ≡ the_items X items
the_items_listed X items = list-listed X items

-- the fields hold the items where the vector holds them
abbrev in_vector : Former {0}
in_vector = via (vec.the_former this Global) Inside (λ X fields. fields.items) (λ X items. record { items = items }) (λ X fields. refl) (λ X items. refl)

module _ (R S : RattleType) (h : R.Denot → S.Denot) where
  pub the_places : Alike R S h → Alike (contracts.the_row R) (contracts.the_row S) ((the_former this).map R.Denot S.Denot h)
  the_places alike =
      view_places in_vector (list this) view (λ X Y k fields. refl) (λ X fields. refl) R.Denot S.Denot h
      (contracts.the_row R).coded (contracts.the_row S).coded (invariant R.Denot) (invariant S.Denot)
      (λ fields p q. refl) (λ fields p q. refl) (λ fields e. tt) (λ fields e. tt) (over (inside.the_row R)) (over (inside.the_row S))
      (struct_places (inside.the_type R) (inside.the_type S) (vec.mapped h, tt) _ (λ fields. refl) refl
      (laid _ _ _ (vec.the_places heap.the_row ghosts R S h alike), tt))

  pub the_codes_placed : Recodes R S h → Recodes (contracts.the_row R) (contracts.the_row S) ((the_former this).map R.Denot S.Denot h)
  the_codes_placed recodes items = sym (code_map R.coded.code S.coded.code h (λ x. sym (recodes x)) items)

-- Entries over a table with another position.
use Rattle.std.specs.Prelude.{◌≡◌, ℕ, zero, suc, List, [], ◌∷◌, ◌++◌, Option, Some, None}
use Rattle.wasm_values.specs.declared.number.ValType.{ValType}
use Rattle.term_logic.specs.declared.leaves.LeafIds.{LeafIds}
use Rattle.symbolic_state.specs.declared.state.SymState.{SymState}

-- the entries with another position at a place
abbrev pub with_id : List (ValType × ℕ) → ℕ → ℕ → List (ValType × ℕ)
with_id [] k id = []
with_id (e ∷ es) zero id = (e.0, id) ∷ es
with_id (e ∷ es) (suc k) id = e ∷ with_id es k id

-- the leaves are the slots of a state
pub record AreSlotsOf (s : SymState) (l : LeafIds) : Type 0 where
  pub variables : l.variables.now ≡ []
  pub own : l.own.now ≡ []
  pub locals : l.locals.now ≡ s.locals
  pub stack : l.stack.now ≡ s.stack
  pub globals : l.globals.now ≡ s.globals
  pub pages : l.pages ≡ s.pages
  pub args : l.args.now ≡ s.args
  pub result : l.result ≡ None
  pub index : l.index ≡ None
  pub item : l.item ≡ None

-- the leaves are those of an assertion over a state, with terms for own variables, for `(arg i)` and for `(result)`
pub record AreLeavesOf (s : SymState) (owned given : List ℕ) (answer : Option ℕ) (l : LeafIds) : Type 0 where
  pub variables : l.variables.now ≡ []
  pub own : l.own.now ≡ owned
  pub locals : l.locals.now ≡ s.locals
  pub stack : l.stack.now ≡ s.stack
  pub globals : l.globals.now ≡ s.globals
  pub pages : l.pages ≡ s.pages
  pub args : l.args.now ≡ given
  pub result : l.result ≡ answer
  pub index : l.index ≡ None
  pub item : l.item ≡ None

-- the last entry goes, and its position is told
abbrev pub PopsTerm : (old new : List (ValType × ℕ)) → Option ℕ → Type 0
PopsTerm old new None = (old ≡ []) × (new ≡ [])
PopsTerm old new (Some id) = (ty : ValType) × (old ≡ new ++ (ty, id) ∷ [])

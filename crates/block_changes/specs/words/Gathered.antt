-- What items of code may change, gathered item by item.
use Rattle.std.specs.Prelude.{◌≡◌, ℕ, zero, suc, ◌+◌, ◌-◌, nat_eq, Bool, false, ◌||◌, List, slice_get, Option, Some, None}
use Rattle.std.specs.HashSet.{contains}
use Rattle.wasm_syntax.specs.declared.flat.Flat.{Flat}
use Rattle.wasm_syntax.specs.declared.instr.Instr.{Instr}
use Rattle.wasm_syntax.specs.FlatForm.{flat_body}
use Rattle.wasm_syntax.specs.Trees.{Instruction}
use Rattle.outline_rules.specs.Blocks.{sets_local, sets_global, is_call, is_growth}
use Rattle.block_changes.specs.declared.changes.ChangeSet.{ChangeSet}
use Rattle.block_changes.specs.words.Effects.{passes}

-- the same sets, with what an item may change
pub record Sees (old new : ChangeSet) (x : Flat) : Type 0 where
  pub locals : (k : ℕ) → contains nat_eq new.locals k ≡ (contains nat_eq old.locals k || passes (sets_local k) x)
  pub globals : (k : ℕ) → contains nat_eq new.globals k ≡ (contains nat_eq old.globals k || passes (sets_global k) x)
  pub calls : new.calls ≡ (old.calls || passes is_call x)
  pub growth : new.growth ≡ (old.growth || passes is_growth x)

-- whether there is an item that passes a test
abbrev pub passes_at : (Instruction → Bool) → Option Flat → Bool
passes_at test None = false
passes_at test (Some x) = passes test x

-- whether one of so many items from a place on passes a test
unfoldable pub any_in : (Instruction → Bool) → List Instr → (from count : ℕ) → Bool
any_in test body p zero = false
any_in test body p (suc n) = any_in test body p n || passes_at test (slice_get (flat_body body) (p + n))

-- the same sets, with what the items from a place to before another may change
pub record Gathers (old new : ChangeSet) (body : List Instr) (from to : ℕ) : Type 0 where
  pub locals : (k : ℕ) → contains nat_eq new.locals k ≡ (contains nat_eq old.locals k || any_in (sets_local k) body from (to - from))
  pub globals : (k : ℕ) → contains nat_eq new.globals k ≡ (contains nat_eq old.globals k || any_in (sets_global k) body from (to - from))
  pub calls : new.calls ≡ (old.calls || any_in is_call body from (to - from))
  pub growth : new.growth ≡ (old.growth || any_in is_growth body from (to - from))

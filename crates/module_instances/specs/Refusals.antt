-- Why an instantiation is refused, beside want of memory. Their order is: another number of externs than of imports, a
-- mismatch, a segment out of bounds, a limit. Order and limits are the project's own.
use Rattle.std.specs.Prelude.{◌≡◌, ◌≢◌, ℕ, ◌<◌, Bool, false, ◌&&◌, nat_le, List, length, sum_by, slice_get, Some, IsTrue}
use Rattle.wasm_syntax.specs.declared.module.Import.{Import}
use Rattle.wasm_syntax.specs.declared.module.Module.{Module}
use Rattle.wasm_store.specs.declared.store.TableInst.{TableInst}
use Rattle.wasm_store.specs.declared.store.Extern.{Extern}
use Rattle.wasm_store.specs.declared.store.Store.{Store}
use Rattle.wasm_reduce.specs.declared.policy.Policy.{Policy}
use Rattle.wasm_reduce.specs.Policies.{pages_in}
use Rattle.wasm_sessions.specs.Matching.{does_match}
use Rattle.wasm_sessions.specs.Instantiation.{allocated, made_instance, segments_fit}

-- The number of externs isn't that of imports (section 4.5.4, step 3).
abbrev pub CountDiffers : Module → List Extern → Type 0
CountDiffers m externs = length externs ≢ length m.imports

-- The k-th extern is the first that doesn't match its import (section 4.5.4, step 4).
pub record IsFirstMismatch (s : Store) (m : Module) (externs : List Extern) (k : ℕ) : Type 0 where
  pub extern : Extern
  pub extern_there : slice_get externs k ≡ Some extern
  pub wanted : Import
  pub wanted_there : slice_get m.imports k ≡ Some wanted
  pub differs : does_match s m.types extern wanted.kind ≡ false
  pub before : (j : ℕ) (e : Extern) (i : Import) → j < k → slice_get externs j ≡ Some e → slice_get m.imports j ≡ Some i → IsTrue (does_match s m.types e i.kind)

-- Some segment passes the end of its table or memory (section 4.5.4, steps 9 and 10).
abbrev pub PassesBounds : Store → Module → List Extern → Type 0
PassesBounds s m externs = segments_fit (allocated s m externs) (made_instance s m externs) m ≡ false

-- The entries of all tables of a store together.
abbrev pub entries_in : Store → ℕ
entries_in s = sum_by (λ (t : TableInst). length t.entries) s.tables

-- A number is at most 4,294,967,295, so that each address below it is a number of 32 bits.
abbrev pub are_addresses : (count : ℕ) → Bool
are_addresses count = nat_le count 4294967295

-- A store keeps to the policy's pages, to 1,000,000 table entries, and to as many functions, tables, memories, globals and
-- instances as addresses name.
abbrev pub is_within_limits : Policy → Store → Bool
is_within_limits policy s =
    nat_le (pages_in s) policy.pages && nat_le (entries_in s) 1000000 && are_addresses (length s.funcs) && are_addresses (length s.tables) &&
    are_addresses (length s.memories) && are_addresses (length s.globals) && are_addresses (length s.instances)

-- The store that an instantiation would make passes a limit.
abbrev pub PassesLimits : Policy → Store → Module → List Extern → Type 0
PassesLimits policy s m externs = is_within_limits policy (allocated s m externs) ≡ false

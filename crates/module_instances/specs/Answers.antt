-- Words for what an instantiation answers. Refusals and their order are the project's own. Want of memory is free, and each
-- refusal leaves the configuration as it was.
use Rattle.std.specs.Prelude.{◌≡◌, ℕ, List, length, IsTrue, Result, Ok, Err}
use Rattle.wasm_syntax.specs.declared.module.Module.{Module}
use Rattle.wasm_store.specs.declared.store.Extern.{Extern}
use Rattle.wasm_store.specs.declared.store.Store.{Store}
use Rattle.wasm_store.specs.Configuration.{Configuration}
use Rattle.wasm_reduce.specs.declared.policy.Policy.{Policy}
use Rattle.wasm_sessions.specs.Matching.{MatchImports}
use Rattle.wasm_sessions.specs.Instantiation.{made_instance, allocated, segments_fit, Instantiated}
use Rattle.module_instances.specs.declared.faults.InstFault.{InstFault}
use Rattle.module_instances.specs.declared.faults.InstFault.TheVariants as inst
use Rattle.module_instances.specs.Refusals.{CountDiffers, IsFirstMismatch, PassesBounds, is_within_limits, PassesLimits}

-- An instantiation is refused for the first of these reasons: another number of externs than of imports; the first extern that
-- doesn't match; a segment out of bounds; a limit; memory is wanting.
abbrev pub IsRefusedFor : Policy → Store → Module → (externs : List Extern) → InstFault → Type 0
IsRefusedFor policy s m externs inst.Count = CountDiffers m externs
IsRefusedFor policy s m externs (inst.Mismatch k) = (length externs ≡ length m.imports) × IsFirstMismatch s m externs k
IsRefusedFor policy s m externs inst.Bounds = MatchImports s m externs × PassesBounds s m externs
IsRefusedFor policy s m externs inst.Limit =
    MatchImports s m externs × IsTrue (segments_fit (allocated s m externs) (made_instance s m externs) m) × PassesLimits policy s m externs
IsRefusedFor policy s m externs inst.OutOfMemory = Unit {0}

-- A module is instantiated within the limits, and the number answered is that of its instance; or it is refused for the first
-- reason.
abbrev pub InstantiateAnswers : Policy → (c : Configuration) → Module → (externs : List Extern) → (d : Configuration) → Result ℕ InstFault → Type 0
InstantiateAnswers policy c m externs d (Ok number) =
    Instantiated c m externs d × (number ≡ length c.store.instances) × IsTrue (is_within_limits policy (allocated c.store m externs))
InstantiateAnswers policy c m externs d (Err fault) = IsRefusedFor policy c.store m externs fault × (d ≡ c)

-- What an observer of a session notes, and what it answers. Observers are this project's own.
use Rattle.std.specs.Prelude.{ℕ, List}
use Rattle.wasm_syntax.specs.declared.module.Module.{Module}
use Rattle.wasm_store.specs.Configuration.{Configuration}
use Rattle.wasm_instantiate.specs.declared.sight.Sight.{Sight}

-- Definitions over what was noted so far: what is noted and answered once an instance of a module was made under a name, by its
-- number, and once a configuration was seen.
pub record Eyes (O : Type 0) : Type 0 where
  pub noted_made : O → (name : List ℕ) → (instance : ℕ) → Module → O
  pub told_made : O → (name : List ℕ) → (instance : ℕ) → Module → Sight
  pub noted_seen : O → Configuration → O
  pub told_seen : O → Configuration → Sight

-- What one item of code may change.
use Rattle.std.specs.Prelude.{◌≡◌, ℕ, ◌==◌, Bool, true, false}
use Rattle.wasm_syntax.specs.declared.flat.Flat.{Flat}
use Rattle.wasm_syntax.specs.declared.flat.Flat.TheVariants.{One}
use Rattle.wasm_syntax.specs.Trees.{Instruction, instruction_of}
use Rattle.outline_rules.specs.Blocks.{sets_local, sets_global, is_call, is_growth}
use Rattle.block_changes.specs.declared.effect.Effect.{Effect}
use Rattle.block_changes.specs.declared.effect.Effect.TheVariants.{Local, Global, Call, Growth}

-- whether an item is an instruction that passes a test
abbrev pub passes : (Instruction → Bool) → Flat → Bool
passes test (One i) = test (instruction_of i)
passes test _ = false

-- whether an effect is to set this local
abbrev pub is_local : ℕ → Effect → Bool
is_local k (Local x) = x == k
is_local k _ = false

-- whether an effect is to set this global
abbrev pub is_global : ℕ → Effect → Bool
is_global k (Global x) = x == k
is_global k _ = false

-- whether an effect is that of a call
abbrev pub is_of_call : Effect → Bool
is_of_call Call = true
is_of_call _ = false

-- whether an effect is that of `memory.grow`
abbrev pub is_of_growth : Effect → Bool
is_of_growth Growth = true
is_of_growth _ = false

-- an item has this effect
pub record HasEffect (x : Flat) (e : Effect) : Type 0 where
  pub locals : (k : ℕ) → passes (sets_local k) x ≡ is_local k e
  pub globals : (k : ℕ) → passes (sets_global k) x ≡ is_global k e
  pub calls : passes is_call x ≡ is_of_call e
  pub growth : passes is_growth x ≡ is_of_growth e

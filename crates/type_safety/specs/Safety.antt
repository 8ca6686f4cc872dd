-- What type safety says (Core Specification, appendix 'Soundness', 'Theorems').
use Rattle.std.specs.Prelude.{◌≡◌, List, [], ◌∷◌}
use Rattle.wasm_store.specs.declared.config.Outcome.TheVariants.{Running}
use Rattle.wasm_store.specs.Configuration.{Layer, OfCode, OfHost, Configuration}
use Rattle.wasm_store.specs.Step.{Step, CanStep}
use Rattle.type_safety.specs.Typed.{Typed}

-- A relation between configurations keeps them typed.
abbrev pub Preserves : (Configuration → Configuration → Type 0) → Type 0
Preserves relation = (c d : Configuration) → Typed c → relation c d → Typed d

-- Preservation: each step of a typed configuration gives a typed one ('Theorems').
abbrev pub Preservation : Type 0
Preservation = Preserves Step

-- The top frame is of code.
abbrev pub HasCodeOnTop : List Layer → Type 0
HasCodeOnTop [] = ⊥
HasCodeOnTop (OfCode f ∷ below) = Unit {0}
HasCodeOnTop (OfHost func args given ∷ below) = ⊥

-- Progress: a typed running configuration whose top frame is of code has a step ('Theorems').
abbrev pub Progress : Type 0
Progress = (c : Configuration) → Typed c → c.outcome ≡ Running → HasCodeOnTop c.frames → CanStep c

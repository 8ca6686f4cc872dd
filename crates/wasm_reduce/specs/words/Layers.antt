-- The frames of a stored configuration, the top one first. These words are the project's own.
use Rattle.std.specs.Prelude.{◌≡◌, List, ◌∷◌, map, reverse}
use Rattle.wasm_syntax.specs.Trees as tree
use Rattle.wasm_syntax.specs.Trees.{Instruction, Sequence, Empty, Then}
use Rattle.wasm_store.specs.declared.config.CodeFrame.{CodeFrame}
use Rattle.wasm_store.specs.declared.config.Frame.{Frame}
use Rattle.wasm_store.specs.declared.config.Frame.TheVariants.{Code}
use Rattle.wasm_store.specs.declared.config.Outcome.{Outcome}
use Rattle.wasm_store.specs.declared.store.Store.{Store}
use Rattle.wasm_store.specs.Configuration.{Layer, Configuration}
use Rattle.wasm_store.specs.Seen.{seen_frame}

-- These frames, the top one first, as the store's code makes them.
abbrev pub layers : Store → List Frame → List Layer
layers s frames = map (seen_frame s.funcs s.instances) frames

-- The configuration that these parts stand for.
abbrev pub stands_for : Store → List Frame → Outcome → Configuration
stands_for s frames outcome = record { store = s; frames = layers s (reverse frames); outcome = outcome }

-- A module's frame is on top.
abbrev pub HasTop : List Frame → CodeFrame → List Frame → Type 0
HasTop frames f below = reverse frames ≡ Code f ∷ below

-- The instruction enters no frame.
abbrev pub EntersNone : Instruction → Type 0
EntersNone (tree.Call x) = ⊥
EntersNone (tree.CallIndirect x) = ⊥
EntersNone _ = Unit {0}

-- The code does not begin with an instruction that enters a frame.
abbrev pub BeginsInside : Sequence → Type 0
BeginsInside Empty = Unit {0}
BeginsInside (Then i rest) = EntersNone i

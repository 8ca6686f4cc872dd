-- Typed configurations (Core Specification, appendix 'Soundness').
use Rattle.std.specs.Prelude.{◌≡◌, List, [], ◌∷◌, All}
use Rattle.wasm_typing.specs.Valid.{ValInRange}
use Rattle.wasm_store.specs.declared.config.Outcome.{Outcome}
use Rattle.wasm_store.specs.declared.config.Outcome.TheVariants.{Running, Done, Trapped}
use Rattle.wasm_store.specs.Configuration.{Layer, Configuration}
use Rattle.type_safety.specs.Shapes.{shape_of}
use Rattle.type_safety.specs.Stores.{StoreTyped}
use Rattle.type_safety.specs.Frames.{LayersTyped}

-- There are frames exactly where the configuration runs, and the values that a run has come to lie in their ranges.
abbrev pub OutcomeTyped : Outcome → List Layer → Type 0
OutcomeTyped Running [] = ⊥
OutcomeTyped Running (l ∷ ls) = Unit {0}
OutcomeTyped (Done values) frames = (frames ≡ []) × All ValInRange values
OutcomeTyped Trapped frames = frames ≡ []

-- A configuration is typed: its store is, and its frames are, of which the top one waits for nothing ('Configuration Validity').
pub record Typed (c : Configuration) : Type 0 where
  pub store : StoreTyped c.store
  pub outcome : OutcomeTyped c.outcome c.frames
  pub frames : LayersTyped (shape_of c.store) c.frames []

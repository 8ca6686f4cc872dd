-- Words for the frames that an act enters and leaves.
use Rattle.std.specs.Prelude.{◌≡◌, ℕ, List, ◌∷◌, reverse, slice_get, Some}
use Rattle.wasm_values.specs.declared.number.Val.{Val}
use Rattle.wasm_store.specs.declared.store.FuncInst.{FuncInst}
use Rattle.wasm_store.specs.Configuration.{Layer, Configuration}
use Rattle.wasm_store.specs.Control.{IsFrameOf, given_to}

-- The function at an address is entered with these values, over the frames that are there.
abbrev pub EntersOver : Configuration → (a : ℕ) → (values : List Val) → Configuration → Type 0
EntersOver c a values d =
    (inst : FuncInst) × (layer : Layer) × (slice_get c.store.funcs a ≡ Some inst) × IsFrameOf c.store.instances a values inst layer
    × (d ≡ record c { frames = layer ∷ c.frames })

-- The top frame is left with these values.
abbrev pub LeavesWith : Configuration → (values : List Val) → Configuration → Type 0
LeavesWith c values d = (top : Layer) (below : List Layer) → c.frames ≡ top ∷ below → d ≡ given_to c.store (reverse values) below

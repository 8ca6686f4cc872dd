-- Words for what an invocation answers. Refusals and their order are the project's own. Want of memory is free, and
-- each refusal leaves the configuration as it was.
use Rattle.std.specs.Prelude.{◌≡◌, ◌≢◌, ℕ, List, slice_get, Some, Result, Ok, Err}
use Rattle.wasm_values.specs.declared.number.Val.{Val}
use Rattle.wasm_store.specs.declared.store.FuncInst.{FuncInst}
use Rattle.wasm_store.specs.declared.store.Extern.{Extern}
use Rattle.wasm_store.specs.declared.store.Extern.TheVariants.{Func, Table, Memory, Global}
use Rattle.wasm_store.specs.declared.store.Store.{Store}
use Rattle.wasm_store.specs.Configuration.{Layer, Configuration}
use Rattle.wasm_store.specs.Control.{type_of_inst, IsFrameOf}
use Rattle.type_safety.specs.Shapes.{types}
use Rattle.wasm_instantiate.specs.declared.faults.InvFault.{InvFault}
use Rattle.wasm_instantiate.specs.declared.faults.InvFault.TheVariants as inv
use Rattle.wasm_sessions.specs.Instantiation.{alone, Invoked}

-- The function at an address is entered with these values, as the only frame.
abbrev pub EntersAlone : Configuration → (a : ℕ) → (values : List Val) → Configuration → Type 0
EntersAlone c a values d =
    (inst : FuncInst) × (layer : Layer) × (slice_get c.store.funcs a ≡ Some inst) × IsFrameOf c.store.instances a values inst layer
    × (d ≡ alone c.store layer)

-- An extern is no function.
abbrev pub IsNoFunction : Extern → Type 0
IsNoFunction (Func a) = ⊥
IsNoFunction (Table a) = Unit {0}
IsNoFunction (Memory a) = Unit {0}
IsNoFunction (Global a) = Unit {0}

-- An extern is a function that has other parameters than these values: in number or types.
abbrev pub ArgumentsDiffer : Store → Extern → List Val → Type 0
ArgumentsDiffer s (Func a) values = (inst : FuncInst) × (slice_get s.funcs a ≡ Some inst) × (types values ≢ (type_of_inst inst).params)
ArgumentsDiffer s (Table a) values = ⊥
ArgumentsDiffer s (Memory a) values = ⊥
ArgumentsDiffer s (Global a) values = ⊥

-- An extern is invoked, or refused for the first of these reasons: it is no function; number or types of the arguments differ;
-- memory is wanting.
abbrev pub InvokeAnswers : {A : Type 0} → (c : Configuration) → Extern → (values : List Val) → (d : Configuration) → Result A InvFault → Type 0
InvokeAnswers c e values d (Ok done) = Invoked c e values d
InvokeAnswers c e values d (Err inv.NotFunction) = IsNoFunction e × (d ≡ c)
InvokeAnswers c e values d (Err inv.Arguments) = ArgumentsDiffer c.store e values × (d ≡ c)
InvokeAnswers c e values d (Err inv.OutOfMemory) = d ≡ c

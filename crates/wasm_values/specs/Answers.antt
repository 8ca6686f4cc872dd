-- What a call answers: what a definition says, or want of memory, which any call may meet. Want of memory says nothing.
use Rattle.std.specs.Prelude.{◌≡◌, Option, Some, None, Result, Ok, Err, IfSome, IsSome}
use Rattle.wasm_values.specs.declared.error.OrMemory.{OrMemory}
use Rattle.wasm_values.specs.declared.error.OrMemory.TheVariants.{Fault, OutOfMemory}

-- The fault that is no want of memory, if it is one. A type of faults of its own has such a function too.
abbrev pub fault_of : {F : Type 0} → OrMemory F → Option F
fault_of (Fault fault) = Some fault
fault_of OutOfMemory = None

-- The first holds of what is given, or the second of the fault, or memory was wanting. `told` gives the fault of an error, and
-- nothing at want of memory.
abbrev pub Answers : {A E F : Type 0} → (told : E → Option F) → (holds : A → Type 0) → (fails : F → Type 0) → Result A E → Type 0
Answers told holds fails (Ok given) = holds given
Answers told holds fails (Err error) = IfSome (told error) fails

-- An error is the fault that a definition says, or want of memory.
abbrev pub Fails : {B E F : Type 0} → (told : E → Option F) → E → (said : Result B F) → Type 0
Fails told error said = IfSome (told error) (λ fault. said ≡ Err fault)

-- A result, seen by view, is what a definition says, or memory was wanting.
abbrev pub Gives : {A B E F : Type 0} → (told : E → Option F) → (view : A → B) → Result A E → (said : Result B F) → Type 0
Gives told view result said = Answers told (λ given. said ≡ Ok (view given)) (λ fault. said ≡ Err fault) result

-- A result isn't want of memory.
abbrev pub HasMemory : {A E F : Type 0} → (told : E → Option F) → Result A E → Type 0
HasMemory told (Ok given) = Unit {0}
HasMemory told (Err error) = IsSome (told error)

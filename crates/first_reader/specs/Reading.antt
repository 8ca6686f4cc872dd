-- Reading from left to right, as functions on lists that answer a value and what stands behind it.
use Rattle.std.specs.Prelude.{◌≡◌, Option, Some, None, Result, Ok, Err}
use Rattle.first_reader.specs.declared.error.ReadError.{ReadError}
use Rattle.first_reader.specs.declared.error.ReadError.TheVariants as errors

-- What f gives of the value, where there is one.
infixl 10 ◌>>=◌
abbrev pub ◌>>=◌ : {A B : Type 0} → Option A → (A → Option B) → Option B
None >>= f = None
(Some x) >>= f = f x

-- What a function answered, seen by view, is what reading gives, unless memory ran out.
abbrev pub Fails : {Y : Type 0} → ReadError → Option Y → Type 0
Fails errors.Memory read = Unit {0}
Fails errors.OtherForm read = read ≡ None

-- `Gives` says so of the whole answer, and `Fails` of an error: of another form than the wanted one, that reading gives
-- nothing.
abbrev pub Gives : {X Y : Type 0} → (X → Y) → Result X ReadError → Option Y → Type 0
Gives view (Ok x) read = read ≡ Some (view x)
Gives view (Err e) read = Fails e read

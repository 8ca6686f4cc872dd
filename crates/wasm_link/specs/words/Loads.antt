-- Words for what loading modules answers.
use Rattle.std.specs.Prelude.{◌≡◌, ◌⊎◌, ℕ, ◌≤◌, false, List, [], ◌∷◌, ◌++◌, length, Option, Result, Ok, Err, IfSome, IsSome, IsSomeAnd}
use Rattle.rw_edge.specs.Files.{Lacks, IfContents, IsLonger}
use Rattle.wasm_syntax.specs.declared.module.Module.{Module}
use Rattle.wasm_syntax.specs.declared.module.Marks.{Marks}
use Rattle.binary_grammar.specs.declared.fault.DecodeFault.{DecodeFault}
use Rattle.binary_grammar.specs.ModuleGrammar.{Spells, InLimits}
use Rattle.binary_grammar.specs.Plans.{Fault}
use Rattle.binary_grammar.specs.Bounds.{the_bounds}
use Rattle.wasm_typing.specs.declared.fault.ValidFault.{ValidFault}
use Rattle.wasm_typing.specs.declared.fault.ValidFault.TheVariants as valid
use Rattle.wasm_typing.specs.Valid.{Valid}
use Rattle.wasm_typing.specs.faults.Faults.{InvalidAt}
use Rattle.script_text.specs.declared.script.Load.{Load}
use Rattle.script_text.specs.Names.{is_among}
use Rattle.script_text.specs.Grammar.{modules_of}
use Rattle.wasm_link.specs.declared.fault.LinkFault.{LinkFault}
use Rattle.wasm_link.specs.declared.fault.LinkFault.TheVariants.{Shelf, TooLong, Decode, Invalid, UnknownName, OutOfMemory}
use Rattle.wasm_link.specs.declared.loading.Loaded.{Loaded}
use Rattle.wasm_link.specs.Loading.{Files, IsLoaded, IsNoMemory, IsRefusedLoad, AreLoaded, IsFirstRefused, module_limit}
use Rattle.wasm_link.specs.Stages.{Modules}

-- The modules that are loaded, as the stages of a script know them.
abbrev pub modules_loaded : Loaded → Modules
modules_loaded l = record { names = l.names; modules = l.modules }

-- A fault of the validator that is none of memory.
abbrev pub IsAtPlace : ValidFault → Type 0
IsAtPlace (valid.Invalid at word) = Unit {0}
IsAtPlace valid.OutOfMemory = ⊥

-- Told of a load: its file is too long. Want of memory is free here and below.
abbrev pub LongTold : Load → LinkFault → Type 0
LongTold load (TooLong name) = name ≡ load.name
LongTold load OutOfMemory = Unit {0}
LongTold load _ = ⊥

-- Told of a load: this fault of its bytes.
abbrev pub DecodeTold : Load → DecodeFault → LinkFault → Type 0
DecodeTold load fault (Decode name told) = (name ≡ load.name) × (told ≡ fault) × IsNoMemory fault
DecodeTold load fault OutOfMemory = Unit {0}
DecodeTold load fault _ = ⊥

-- Told of a load: this fault of its module.
abbrev pub InvalidTold : Load → ValidFault → LinkFault → Type 0
InvalidTold load fault (Invalid name told) = (name ≡ load.name) × (told ≡ fault) × IsAtPlace fault
InvalidTold load fault OutOfMemory = Unit {0}
InvalidTold load fault _ = ⊥

-- The bytes of a load's file, or why they aren't had.
abbrev pub FileOf : Option Files → (faulted : Type 0) → Load → Result (List ℕ) LinkFault → Type 0
FileOf told faulted load (Ok bytes) = IfContents told load.file (λ contents. bytes ≡ contents) × (length bytes ≤ module_limit)
FileOf told faulted load (Err Shelf) = faulted ⊎ Lacks told load.file
FileOf told faulted load (Err (TooLong name)) = (name ≡ load.name) × (IsSome told → IsLonger told load.file module_limit)
FileOf told faulted load (Err OutOfMemory) = Unit {0}
FileOf told faulted load (Err _) = ⊥

-- That a module with its marks isn't valid, told of a load.
abbrev pub IsInvalidSo : Load → Module → Marks → ValidFault → Type 0
IsInvalidSo load m k (valid.Invalid at word) = InvalidAt m k at word
IsInvalidSo load m k valid.OutOfMemory = ⊥

-- A module with its marks is valid, or isn't.
abbrev pub CheckedOf : Load → Module → Marks → Result Module LinkFault → Type 0
CheckedOf load m k (Ok v) = (v ≡ m) × Valid m
CheckedOf load m k (Err (Invalid name fault)) = (name ≡ load.name) × IsInvalidSo load m k fault
CheckedOf load m k (Err OutOfMemory) = Unit {0}
CheckedOf load m k (Err _) = ⊥

-- Bytes spell a valid module, or don't.
abbrev pub ModuleOf : Load → List ℕ → Result Module LinkFault → Type 0
ModuleOf load bytes (Ok v) = (marks : Marks) × Spells bytes v marks × InLimits the_bounds v × Valid v
ModuleOf load bytes (Err (Decode name fault)) = (name ≡ load.name) × Fault the_bounds bytes fault × IsNoMemory fault
ModuleOf load bytes (Err (Invalid name fault)) =
    (name ≡ load.name) × ((m : Module) × (k : Marks) × Spells bytes m k × InLimits the_bounds m × IsInvalidSo load m k fault)
ModuleOf load bytes (Err OutOfMemory) = Unit {0}
ModuleOf load bytes (Err _) = ⊥

-- A load gives a module, or is refused.
abbrev pub LoadOf : Option Files → (faulted : Type 0) → Load → Result Module LinkFault → Type 0
LoadOf told faulted load (Ok v) = IfSome told (λ files. IsLoaded files load v)
LoadOf told faulted load (Err Shelf) = faulted ⊎ IsSomeAnd told (λ files. IsRefusedLoad files load Shelf)
LoadOf told faulted load (Err (UnknownName at)) = ⊥
LoadOf told faulted load (Err OutOfMemory) = Unit {0}
LoadOf told faulted load (Err fault) = IfSome told (λ files. IsRefusedLoad files load fault)

-- One more module is loaded, or a load is refused.
abbrev pub MoreOf : Option Files → (faulted : Type 0) → Load → (before after : Loaded) → Result (Unit {0}) LinkFault → Type 0
MoreOf told faulted load before after (Ok done) =
    (v : Module) × IfSome told (λ files. IsLoaded files load v) × (after.names ≡ before.names ++ load.name ∷ []) × (after.modules ≡ before.modules ++ v ∷ [])
MoreOf told faulted load before after (Err fault) = LoadOf told faulted load (Err fault)

-- All loads give their modules, or the first that gives none is refused.
abbrev pub LoadsOf : Option Files → (faulted : Type 0) → List Load → Result Loaded LinkFault → Type 0
LoadsOf told faulted loads (Ok l) =
    IfSome told (λ files. AreLoaded files loads l.modules) × (l.names ≡ modules_of loads) × (length l.modules ≡ length l.names)
LoadsOf told faulted loads (Err Shelf) = faulted ⊎ IsSomeAnd told (λ files. IsFirstRefused files loads Shelf)
LoadsOf told faulted loads (Err (UnknownName at)) = ⊥
LoadsOf told faulted loads (Err OutOfMemory) = Unit {0}
LoadsOf told faulted loads (Err fault) = IfSome told (λ files. IsFirstRefused files loads fault)

-- None of these loads has a name that is among others or that of an earlier load.
abbrev pub AreNew : List (List ℕ) → List Load → Type 0
AreNew names [] = Unit {0}
AreNew names (l ∷ ls) = (is_among names l.name ≡ false) × AreNew (names ++ l.name ∷ []) ls

-- What is left of some loads, after these modules of those before, gives what the whole gives.
pub record Continues (told : Option Files) (loads : List Load) (names : List (List ℕ)) (modules : List Module) (rest : List Load) : Type 0 where
  pub loaded : IfSome told (λ files. (more : List Module) → AreLoaded files rest more → AreLoaded files loads (modules ++ more))
  pub refused : IfSome told (λ files. (fault : LinkFault) → IsFirstRefused files rest fault → IsFirstRefused files loads fault)
  pub named : names ++ modules_of rest ≡ modules_of loads
  pub beside : length modules ≡ length names
  pub new : AreNew names rest

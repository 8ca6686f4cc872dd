-- Which modules the loads of a script give, and which load is refused.
use Rattle.std.specs.Prelude.{◌≡◌, ◌⊎◌, ℕ, ◌<◌, ◌≤◌, List, [], ◌∷◌, length, Some, None}
use Rattle.rw_edge.specs.Files.{contents_of}
use Rattle.wasm_syntax.specs.declared.module.Module.{Module}
use Rattle.wasm_syntax.specs.declared.module.Marks.{Marks}
use Rattle.binary_grammar.specs.declared.fault.DecodeFault.{DecodeFault}
use Rattle.binary_grammar.specs.declared.fault.DecodeFault.TheVariants as decode
use Rattle.binary_grammar.specs.ModuleGrammar.{Spells, InLimits}
use Rattle.binary_grammar.specs.Plans.{Fault}
use Rattle.binary_grammar.specs.Bounds.{the_bounds}
use Rattle.wasm_typing.specs.declared.fault.ValidFault.TheVariants as valid
use Rattle.wasm_typing.specs.Valid.{Valid}
use Rattle.wasm_typing.specs.faults.Faults.{InvalidAt}
use Rattle.script_text.specs.declared.script.Load.{Load}
use Rattle.wasm_link.specs.declared.fault.LinkFault.{LinkFault}
use Rattle.wasm_link.specs.declared.fault.LinkFault.TheVariants.{Shelf, TooLong, Decode, Invalid}

-- Files by name: each is its name and its contents.
abbrev pub Files : Type 0
Files = List (List ℕ × List ℕ)

-- A module file has at most 4,194,304 bytes.
abbrev pub module_limit : ℕ
module_limit = 4194304

-- The file of a load is there and within the limit, and these are its contents.
abbrev pub IsRead : Files → Load → List ℕ → Type 0
IsRead files load bytes = (contents_of files load.file ≡ Some bytes) × (length bytes ≤ module_limit)

-- A load gives a module: its file spells it within the limits, and it is valid.
pub record IsLoaded (files : Files) (load : Load) (m : Module) : Type 0 where
  pub bytes : List ℕ
  pub is_read : IsRead files load bytes
  pub marks : Marks
  pub spells : Spells bytes m marks
  pub within : InLimits the_bounds m
  pub valid : Valid m

-- A fault of the decoder that is none of memory.
abbrev pub IsNoMemory : DecodeFault → Type 0
IsNoMemory (decode.Malformed at word) = Unit {0}
IsNoMemory (decode.Limit at word) = Unit {0}
IsNoMemory decode.OutOfMemory = ⊥

-- A load is refused: there is no such file; it is too long; its bytes have a fault; or the module that they spell isn't valid.
abbrev pub IsRefusedLoad : Files → Load → LinkFault → Type 0
IsRefusedLoad files load Shelf = contents_of files load.file ≡ None
IsRefusedLoad files load (TooLong name) =
    (name ≡ load.name) × ((bytes : List ℕ) × (contents_of files load.file ≡ Some bytes) × (module_limit < length bytes))
IsRefusedLoad files load (Decode name fault) =
    (name ≡ load.name) × ((bytes : List ℕ) × IsRead files load bytes × Fault the_bounds bytes fault × IsNoMemory fault)
IsRefusedLoad files load (Invalid name (valid.Invalid at word)) =
    (name ≡ load.name) × ((bytes : List ℕ) × (m : Module) × (k : Marks) × IsRead files load bytes × Spells bytes m k × InLimits the_bounds m × InvalidAt m k at word)
IsRefusedLoad files load _ = ⊥

-- Each load gives its module, in order.
abbrev pub AreLoaded : Files → List Load → List Module → Type 0
AreLoaded files [] [] = Unit {0}
AreLoaded files [] (m ∷ ms) = ⊥
AreLoaded files (l ∷ ls) [] = ⊥
AreLoaded files (l ∷ ls) (m ∷ ms) = IsLoaded files l m × AreLoaded files ls ms

-- The first load that gives no module is refused so.
abbrev pub IsFirstRefused : Files → List Load → LinkFault → Type 0
IsFirstRefused files [] fault = ⊥
IsFirstRefused files (l ∷ ls) fault = IsRefusedLoad files l fault ⊎ ((m : Module) × IsLoaded files l m × IsFirstRefused files ls fault)

-- The lines of a log. They are this project's own.
use Rattle.std.specs.Prelude.{ℕ, List, [], ◌∷◌, ◌++◌, codes}
use Rattle.std.specs.List.{flat_map}
use Rattle.std.specs.Fmt.{decimal}
use Rattle.wasm_values.specs.declared.number.Val.{Val}
use Rattle.wasm_values.specs.declared.number.Val.TheVariants.{I32, I64}
use Rattle.wasm_store.specs.declared.config.Outcome.{Outcome}
use Rattle.wasm_store.specs.declared.config.Outcome.TheVariants.{Running, Done, Trapped}
use Rattle.module_instances.specs.declared.faults.InstFault.{InstFault}
use Rattle.module_instances.specs.declared.faults.InstFault.TheVariants as inst
use Rattle.sexp_text.specs.Spelling.{quoted}

-- An action that was begun: an instance is made under a name, by its number; or an export of an instance is called.
pub data Doing : Type 0 where
  Making : (instance : List ℕ) → (number : ℕ) → Doing
  Calling : (instance export : List ℕ) → Doing

-- how a line begins: with the name of the instance; for a call the name of the export stands behind it
abbrev pub new_head : (instance : List ℕ) → List ℕ
new_head instance = instance

abbrev pub call_head : (instance export : List ℕ) → List ℕ
call_head instance export = instance ++ (32 ∷ quoted export)

abbrev pub head_of : Doing → List ℕ
head_of (Making instance number) = new_head instance
head_of (Calling instance export) = call_head instance export

-- `HEAD: WORD`, with one newline
abbrev pub line : List ℕ → List ℕ → List ℕ
line head word = head ++ (codes ": " ++ (word ++ 10 ∷ []))

-- a value with its type before it: unsigned, in decimal
abbrev pub value_text : Val → List ℕ
value_text (I32 n) = codes " i32 " ++ decimal n
value_text (I64 n) = codes " i64 " ++ decimal n

-- `values`, and the results of a call
abbrev pub values_text : List Val → List ℕ
values_text values = codes "values" ++ flat_map value_text values

-- the word of an action that has ended, by what the run came to
abbrev pub end_word : Doing → Outcome → List ℕ
end_word (Making instance number) (Done values) = codes "made"
end_word (Calling instance export) (Done values) = values_text values
end_word doing Trapped = codes "trap"
end_word doing Running = []

-- the word of a refused instantiation
abbrev pub refusal_word : InstFault → List ℕ
refusal_word inst.Count = codes "count"
refusal_word (inst.Mismatch k) = codes "mismatch " ++ decimal k
refusal_word inst.Bounds = codes "bounds"
refusal_word inst.Limit = codes "limit"
refusal_word inst.OutOfMemory = []

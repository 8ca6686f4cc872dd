-- Words for the walk over a body.
use Rattle.std.specs.Prelude.{◌≡◌, ◌<◌, Bool, true, false, List, [], ◌∷◌, ◌++◌, map, reverse, length, Option, Some, None, All, Result, IfOk}
use Rattle.std.specs.Option.{unwrap_or}
use Rattle.wasm_values.specs.declared.error.OutOfMemory.{OutOfMemory}
use Rattle.wasm_syntax.specs.Trees.{instruction_of}
use Rattle.wasm_syntax.specs.declared.instr.Instr as source
use Rattle.wasm_syntax.specs.declared.instr.Instr.{Instr}
use Rattle.wasm_typing.specs.declared.fault.ValidWord.{ValidWord}
use Rattle.wasm_typing.specs.declared.fault.ValidWord.TheVariants as word
use Rattle.wasm_syntax.specs.declared.flat.Head.{Head}
use Rattle.wasm_syntax.specs.declared.flat.Head.TheVariants as head
use Rattle.body_check.specs.declared.open.Open.{Open}
use Rattle.body_check.specs.declared.open.Labels.{Labels}
use Rattle.body_check.specs.declared.names.Names.{Names}
use Rattle.wasm_typing.specs.Typing.{Types, Context, types_of, InstructionTyped}
use Rattle.wasm_typing.specs.Valid.{type_at, func_types_of, context_of}
use Rattle.wasm_typing.specs.faults.Faults.{Condition, first_failing, conditions}
use Rattle.body_check.specs.words.Answers.{IsScopeOf}
use Rattle.body_check.specs.words.Operands.{Advances, IsStuck, Goes}

-- What a body may name.
abbrev pub context_in : Names → Context
context_in n = context_of n.whole.now n.func.now

-- What a body may name is what its module and its function give; the types of all functions exist.
pub record AreNames (n : Names) : Type 0 where
  pub scope : IsScopeOf n.whole.now n.scope.now
  pub params : n.params.now ≡ (type_at n.whole.now.types n.func.now.ty).params
  pub results : types_of n.results ≡ reverse (type_at n.whole.now.types n.func.now.ty).results
  pub known : All (λ t. t < length n.whole.now.types) (func_types_of n.whole.now)

-- What a branch to the label of a block with this head takes.
abbrev pub taken_by_branch : Head → Types
taken_by_branch (head.Block ty) = types_of ty
taken_by_branch (head.Loop ty) = []
taken_by_branch (head.If ty) = types_of ty

-- What a branch to each label takes, the innermost first, the function's own last.
abbrev pub labels_in : Labels → List Types
labels_in labels = map (λ (o : Open). taken_by_branch o.head) (reverse labels.opens.now) ++ types_of labels.results ∷ []

-- The word of the first condition that fails, or else `stack`.
abbrev pub word_of : List Condition → ValidWord
word_of cs = unwrap_or (first_failing cs) word.Stack

-- An instruction leads from types of which P holds to exactly those of which Q holds, or leads nowhere.
abbrev pub Acts : Result Bool OutOfMemory → (P Q : Types → Type 0) → Context → List Types → Instr → Type 0
Acts r P Q c labels i = IfOk r (λ went. Goes went P Q (InstructionTyped c labels (instruction_of i)))

-- What an instruction needs beside its operands is there.
abbrev pub IsReady : Context → List Types → Instr → Type 0
IsReady c labels i = first_failing (conditions c labels i) ≡ None

-- From types of which P holds an instruction leads to exactly those of which Q holds; or it leads nowhere, with its word.
abbrev pub Steps : Option ValidWord → (P Q : Types → Type 0) → Context → List Types → Instr → Type 0
Steps None P Q c labels i = Advances P Q (InstructionTyped c labels (instruction_of i))
Steps (Some w) P Q c labels i = IsStuck P (InstructionTyped c labels (instruction_of i)) × (w ≡ word_of (conditions c labels i))

-- Instructions on locals and globals.
abbrev pub is_variable : Instr → Bool
is_variable (source.LocalGet x) = true
is_variable (source.LocalSet x) = true
is_variable (source.LocalTee x) = true
is_variable (source.GlobalGet x) = true
is_variable (source.GlobalSet x) = true
is_variable _ = false

-- Branches and calls.
abbrev pub is_transfer : Instr → Bool
is_transfer (source.Br l) = true
is_transfer (source.BrIf l) = true
is_transfer (source.BrTable ls l) = true
is_transfer (source.Call f) = true
is_transfer (source.CallIndirect t) = true
is_transfer _ = false

-- Configurations (Core Specification, section 4.2). A configuration is written here as a store, a list of frames and an
-- outcome, and a frame as lists of operands and labels, each with what is left of its code, where the standard nests
-- instructions in labels and frames. This form is the project's own. Every stack has its top first.
use Rattle.std.specs.Prelude.{ℕ, List, [], ◌∷◌, Option, Some, None, slice_get}
use Rattle.wasm_values.specs.declared.number.Val.{Val}
use Rattle.wasm_syntax.specs.Trees.{Sequence}
use Rattle.wasm_store.specs.declared.store.Instance.{Instance}
use Rattle.wasm_store.specs.declared.store.Store.{Store}
use Rattle.wasm_store.specs.declared.config.Outcome.{Outcome}
use Rattle.wasm_store.specs.declared.config.Outcome.TheVariants.{Running, Done, Trapped}

-- An open block: how many operands a branch to it takes, how many operands lie below it, the body of a loop, and the code
-- after it (section 4.2.12, labels).
pub record OpenBlock : Type 0 where
  pub arity : ℕ
  pub height : ℕ
  pub again : Option Sequence
  pub rest : Sequence

-- A frame of a module's function: the addresses of its instance and of the function, its locals, its operands and open
-- blocks, and the rest of the innermost code (section 4.2.12, activations).
pub record Activation : Type 0 where
  pub instance : ℕ
  pub func : ℕ
  pub locals : List Val
  pub operands : List Val
  pub labels : List OpenBlock
  pub rest : Sequence

-- A frame is of code, or of a host: the address of its function, the arguments, and the results of the last function that
-- the host called. The standard leaves open what a host function does (section 4.4.7); its frame is the project's own.
pub data Layer : Type 0 where
  OfCode : Activation → Layer
  OfHost : (func : ℕ) (args given : List Val) → Layer

-- A configuration: what the run shares, the frames with the top one first, and what the run has come to (section 4.2.13).
pub record Configuration : Type 0 where
  pub store : Store
  pub frames : List Layer
  pub outcome : Outcome

-- A store with nothing in it.
abbrev pub empty_store : Store
empty_store = record { funcs = []; tables = []; memories = []; globals = []; instances = [] }

-- The configuration before anything is instantiated: an empty store, no frames, and `Done` of no values.
abbrev pub started : Configuration
started = record { store = empty_store; frames = []; outcome = Done [] }

-- The configuration that goes on with this frame on top.
abbrev pub going : Store → Activation → List Layer → Configuration
going s f below = record { store = s; frames = OfCode f ∷ below; outcome = Running }

-- The configuration after a trap: no frames, and the store as it was (section 4.2.13, trap).
abbrev pub trapped : Store → Configuration
trapped s = record { store = s; frames = []; outcome = Trapped }

-- The frame with other operands.
abbrev pub with_operands : Activation → List Val → Activation
with_operands f operands = record f { operands = operands }

-- The frame with one more operand on top.
abbrev pub pushed : Activation → Val → Activation
pushed f v = with_operands f (v ∷ f.operands)

-- The instance of a frame (section 4.2.12).
abbrev pub instance_of : Store → Activation → Option Instance
instance_of s f = slice_get s.instances f.instance

-- The address that one of an instance's four lists gives to an index (section 4.2.5).
abbrev pub address_in : (Instance → List ℕ) → Option Instance → ℕ → Option ℕ
address_in addresses None x = None
address_in addresses (Some i) x = slice_get (addresses i) x

-- Control instructions, and how frames are entered and left (Core Specification, sections 4.4.5 to 4.4.7).
use Rattle.std.specs.Prelude.{◌≡◌, ℕ, zero, suc, ◌+◌, ◌-◌, ◌≤◌, Bool, true, false, ◌&&◌, List, [], ◌∷◌, ◌++◌, Option, Some, None, option_and_then, unwrap_or, length, take, drop, reverse, slice_get}
use Rattle.wasm_values.specs.declared.number.Val.{Val}
use Rattle.wasm_values.specs.declared.number.Val.TheVariants as val
use Rattle.wasm_values.specs.declared.number.ValType.{ValType}
use Rattle.wasm_values.specs.Types.{are_same_types, zeros_of}
use Rattle.wasm_syntax.specs.declared.module.FuncType.{FuncType}
use Rattle.wasm_syntax.specs.declared.module.Func.{Func}
use Rattle.wasm_syntax.specs.Trees.{Sequence, sequence_of}
use Rattle.wasm_store.specs.declared.store.FuncInst.{FuncInst}
use Rattle.wasm_store.specs.declared.store.FuncInst.TheVariants.{Code, Host}
use Rattle.wasm_store.specs.declared.store.TableInst.{TableInst}
use Rattle.wasm_store.specs.declared.store.Instance.{Instance}
use Rattle.wasm_store.specs.declared.store.Store.{Store}
use Rattle.wasm_store.specs.declared.config.Outcome.TheVariants.{Running, Done}
use Rattle.wasm_store.specs.Configuration.{OpenBlock, Activation, Layer, OfCode, OfHost, Configuration, going, trapped, with_operands, instance_of, address_in}
use Rattle.wasm_store.specs.Seen.{func_of}

-- ---- leaving a frame

-- The type of a function (section 4.2.6).
abbrev pub type_of_inst : FuncInst → FuncType
type_of_inst (Code ty instance code) = ty
type_of_inst (Host ty) = ty

-- Results, the last first, go to the frame below: to the operands of one of code, and to what a host's was given. Without a
-- frame below they are what the run has come to. The standard has no frames of hosts; what they are given is the
-- project's own.
abbrev pub given_to : Store → (results : List Val) → List Layer → Configuration
given_to s results [] = record { store = s; frames = []; outcome = Done (reverse results) }
given_to s results (OfCode g ∷ below) = going s (with_operands g (results ++ g.operands)) below
given_to s results (OfHost func args given ∷ below) =
    record { store = s; frames = OfHost func args (reverse results) ∷ below; outcome = Running }

-- The frame is left with the results of its function, which are on top of its operands (section 4.4.7, returning from a
-- function).
abbrev pub Leaves : Store → Activation → List Layer → Configuration → Type 0
Leaves s f below d =
    (inst : FuncInst) × (slice_get s.funcs f.func ≡ Some inst) × (length (type_of_inst inst).results ≤ length f.operands)
    × (d ≡ given_to s (take (length (type_of_inst inst).results) f.operands) below)

-- ---- blocks

-- How many results a block has (section 2.4.5).
abbrev pub count_of : Option ValType → ℕ
count_of None = 0
count_of (Some t) = 1

-- The frame with one more open block, at the beginning of its code (section 4.4.6, entering a block with a label).
abbrev pub opened : Activation → (arity : ℕ) → (again : Option Sequence) → (body rest : Sequence) → Activation
opened f arity again body rest =
    record f {
      labels = record { arity = arity; height = length f.operands; again = again; rest = rest } ∷ f.labels;
      rest = body;
    }

-- The side that a condition chooses.
abbrev pub chosen : ℕ → (first second : Sequence) → Sequence
chosen zero first second = second
chosen (suc c) first second = first

-- `if` opens the block of one of its sides, by the topmost operand (section 4.4.5).
abbrev pub IfStep : Store → Activation → List Layer → Configuration → Option ValType → (first second : Sequence) → Type 0
IfStep s f below d ty first second =
    (c : ℕ) × (operands : List Val) × (f.operands ≡ val.I32 c ∷ operands)
    × (d ≡ going s (opened (with_operands f operands) (count_of ty) None (chosen c first second) f.rest) below)

-- The end of the innermost code closes its block, or leaves the frame (sections 4.4.6 and 4.4.7).
abbrev pub Closes : Store → Activation → List Layer → Configuration → List OpenBlock → Type 0
Closes s f below d [] = Leaves s f below d
Closes s f below d (l ∷ ls) = d ≡ going s (record f { labels = ls; rest = l.rest }) below

-- ---- branches

-- The operands that a branch to a block keeps: those that it takes, and those below the block (section 4.4.5, br).
abbrev pub kept : OpenBlock → List Val → List Val
kept l operands = take l.arity operands ++ drop (length operands - l.height) operands

-- Where a branch goes on: after a block, or at the beginning of a loop, whose label stays.
abbrev pub jumped : Activation → OpenBlock → List OpenBlock → (again : Option Sequence) → Activation
jumped f l ls None = record f { operands = kept l f.operands; labels = ls; rest = l.rest }
jumped f l ls (Some body) = record f { operands = kept l f.operands; labels = l ∷ ls; rest = body }

-- A branch to the k-th of these labels, the innermost of which is the 0-th; past all of them it leaves the frame
-- (section 4.4.5, br).
abbrev pub Branches : Store → Activation → List Layer → Configuration → List OpenBlock → (k : ℕ) → Type 0
Branches s f below d [] zero = Leaves s f below d
Branches s f below d [] (suc k) = ⊥
Branches s f below d (l ∷ ls) zero = (l.arity + l.height ≤ length f.operands) × (d ≡ going s (jumped f l ls l.again) below)
Branches s f below d (l ∷ ls) (suc k) = Branches s f below d ls k

-- A branch that is taken where the condition is not 0.
abbrev pub BranchesIf : Store → Activation → List Layer → Configuration → (k c : ℕ) → Type 0
BranchesIf s f below d k zero = d ≡ going s f below
BranchesIf s f below d k (suc c) = Branches s f below d f.labels k

-- `br_if` (section 4.4.5). The standard takes a branch that is taken in two reductions, which are joined here.
abbrev pub BrIfStep : Store → Activation → List Layer → Configuration → (k : ℕ) → Type 0
BrIfStep s f below d k =
    (c : ℕ) × (operands : List Val) × (f.operands ≡ val.I32 c ∷ operands) × BranchesIf s (with_operands f operands) below d k c

-- `br_table`: a branch to the label that the topmost operand chooses, or to the last (section 4.4.5). Its two reductions
-- are joined.
abbrev pub BrTableStep : Store → Activation → List Layer → Configuration → List ℕ → ℕ → Type 0
BrTableStep s f below d ks k =
    (c : ℕ) × (operands : List Val) × (f.operands ≡ val.I32 c ∷ operands)
    × Branches s (with_operands f operands) below d f.labels (unwrap_or (slice_get ks c) k)

-- ---- entering a frame

-- The frame of a function that is entered with these arguments, the last first: its other locals are 0 (section 4.4.7,
-- invocation of function address).
abbrev pub entered : (instance func : ℕ) → (args : List Val) → Func → Activation
entered instance func args fn =
    record {
      instance = instance;
      func = func;
      locals = reverse args ++ zeros_of fn.locals;
      operands = [];
      labels = [];
      rest = sequence_of fn.body;
    }

-- A function can be entered: its code is there; a host's needs none.
abbrev pub IsEnterable : List Instance → FuncInst → Type 0
IsEnterable instances (Code ty instance code) = (fn : Func) × (func_of instances (Some (Code ty instance code)) ≡ Some fn)
IsEnterable instances (Host ty) = Unit {0}

-- A frame is that of this function, at this address, entered with these arguments, the first one first (section 4.4.7,
-- invocation of function address).
abbrev pub IsFrameOf : List Instance → (a : ℕ) → (args : List Val) → FuncInst → Layer → Type 0
IsFrameOf instances a args (Code ty instance code) layer =
    (fn : Func) × (func_of instances (Some (Code ty instance code)) ≡ Some fn) × (layer ≡ OfCode (entered instance a (reverse args) fn))
IsFrameOf instances a args (Host ty) layer = layer ≡ OfHost a args []

-- The arguments of a call, the last first.
abbrev pub arguments : FuncType → Activation → List Val
arguments ty f = take (length ty.params) f.operands

-- The frame without the arguments of a call.
abbrev pub without_arguments : FuncType → Activation → Activation
without_arguments ty f = with_operands f (drop (length ty.params) f.operands)

-- The frame of a host function that is entered, over the frame that calls it (section 4.4.7, host functions).
abbrev pub host_entered : Store → Activation → List Layer → (a : ℕ) → FuncType → Configuration
host_entered s f below a ty =
    record { store = s; frames = OfHost a (reverse (arguments ty f)) [] ∷ OfCode (without_arguments ty f) ∷ below; outcome = Running }

-- This function, at this address, is entered with arguments from the frame's operands (section 4.4.7). The standard takes a
-- call in several reductions, among them the block of the function's body, which are joined here.
abbrev pub EntersInst : Store → Activation → List Layer → Configuration → (a : ℕ) → FuncInst → Type 0
EntersInst s f below d a (Code ty instance code) =
    (fn : Func) × (func_of s.instances (Some (Code ty instance code)) ≡ Some fn) × (length ty.params ≤ length f.operands)
    × (d ≡ going s (entered instance a (arguments ty f) fn) (OfCode (without_arguments ty f) ∷ below))
EntersInst s f below d a (Host ty) = (length ty.params ≤ length f.operands) × (d ≡ host_entered s f below a ty)

-- The function at this address is entered.
abbrev pub Enters : Store → Activation → List Layer → Configuration → (a : ℕ) → Type 0
Enters s f below d a = (inst : FuncInst) × (slice_get s.funcs a ≡ Some inst) × EntersInst s f below d a inst

-- `call` (section 4.4.5).
abbrev pub CallStep : Store → Activation → List Layer → Configuration → (x : ℕ) → Type 0
CallStep s f below d x = (a : ℕ) × (address_in (λ i. i.funcs) (instance_of s f) x ≡ Some a) × Enters s f below d a

-- ---- indirect calls

-- Two function types have the same parameters and results.
abbrev pub is_same_func_type : FuncType → FuncType → Bool
is_same_func_type a b = are_same_types a.params b.params && are_same_types a.results b.results

-- A function that was found is entered where it has the wanted type, and else traps.
abbrev pub CallsInst : Store → Activation → List Layer → Configuration → (a : ℕ) → FuncInst → (same : Bool) → Type 0
CallsInst s f below d a inst true = EntersInst s f below d a inst
CallsInst s f below d a inst false = d ≡ trapped s

-- A function of this type is called by an entry of a table; an entry that is empty or past the end traps.
abbrev pub CallsEntry : Store → Activation → List Layer → Configuration → (wanted : FuncType) → Option ℕ → Type 0
CallsEntry s f below d wanted None = d ≡ trapped s
CallsEntry s f below d wanted (Some a) =
    (inst : FuncInst) × (slice_get s.funcs a ≡ Some inst) × CallsInst s f below d a inst (is_same_func_type (type_of_inst inst) wanted)

-- The function in an entry of a table, if there is one.
abbrev pub entry_at : TableInst → ℕ → Option ℕ
entry_at table i = option_and_then (λ entry. entry) (slice_get table.entries i)

-- `call_indirect` by the topmost operand, at the type with this index (section 4.4.5).
abbrev pub CallIndirectStep : Store → Activation → List Layer → Configuration → (x : ℕ) → Type 0
CallIndirectStep s f below d x =
    (i : Instance) × (wanted : FuncType) × (a : ℕ) × (table : TableInst) × (c : ℕ) × (operands : List Val)
    × (instance_of s f ≡ Some i) × (slice_get i.types x ≡ Some wanted) × (slice_get i.tables 0 ≡ Some a) × (slice_get s.tables a ≡ Some table)
    × (f.operands ≡ val.I32 c ∷ operands) × CallsEntry s (with_operands f operands) below d wanted (entry_at table c)

-- Typed frames (Core Specification, appendix 'Soundness', 'Configuration Validity'). Types of operands stand with the topmost
-- first.
use Rattle.std.specs.Prelude.{◌≡◌, ℕ, List, [], ◌∷◌, ◌++◌, Option, Some, None, length, reverse, slice_get, All}
use Rattle.wasm_values.specs.declared.number.Val.{Val}
use Rattle.wasm_syntax.specs.declared.module.FuncType.{FuncType}
use Rattle.wasm_syntax.specs.Trees.{Sequence}
use Rattle.wasm_typing.specs.Typing.{Types, Context, SequenceTyped}
use Rattle.wasm_typing.specs.Valid.{ValInRange, SequenceInRange}
use Rattle.wasm_store.specs.declared.store.FuncInst.TheVariants.{Code, Host}
use Rattle.wasm_store.specs.declared.store.Instance.{Instance}
use Rattle.wasm_store.specs.Configuration.{OpenBlock, Activation, Layer, OfCode, OfHost}
use Rattle.type_safety.specs.Shapes.{types, HaveTypes, Shape, IsContextOf}

-- Code is valid, as the validator has it, and its numbers lie in their ranges.
abbrev pub CodeTyped : Context → (labels : List Types) → Sequence → (ins outs : Types) → Type 0
CodeTyped c labels code ins outs = SequenceTyped c labels code ins outs × SequenceInRange code

-- A branch to a block takes the block's results. One to a loop takes nothing, and begins its body anew (section 3.3.5).
abbrev pub AgainTyped : Context → (labels : List Types) → (again : Option Sequence) → (taken wanted : Types) → Type 0
AgainTyped c labels None taken wanted = taken ≡ wanted
AgainTyped c labels (Some body) taken wanted = (taken ≡ []) × CodeTyped c labels body [] wanted

-- An open block waits, over these operands, for results of the wanted types: the code after it is typed over them and the
-- block's own share of the operands below, and what is around it waits for what that code leaves ('Configuration Validity', labels).
pub record BlockTyped (c : Context) (l : OpenBlock) (below : List Val) (labels : List Types) (wanted : Types) (around : List Val → List Types → Types → Type 0) : Type 0 where
  pub taken : Types
  pub outer : List Types
  pub labels_are : labels ≡ taken ∷ outer
  pub arity : length taken ≡ l.arity
  pub height : length below ≡ l.height
  pub again : AgainTyped c labels l.again taken wanted
  pub own : List Val
  pub under : List Val
  pub split : below ≡ own ++ under
  pub next : Types
  pub rest : CodeTyped c outer l.rest (wanted ++ types own) next
  pub around_it : around under outer next

-- The open blocks of a frame, the innermost first, over these operands. Outside them is the function's own label, which
-- takes its results ('Configuration Validity', labels and frames).
abbrev pub BlocksTyped : Context → List OpenBlock → (below : List Val) → (labels : List Types) → (wanted : Types) → Type 0
BlocksTyped c [] below labels wanted = (below ≡ []) × (labels ≡ c.results ∷ []) × (wanted ≡ c.results)
BlocksTyped c (l ∷ ls) below labels wanted = BlockTyped c l below labels wanted (BlocksTyped c ls)

-- A frame that will be given operands of some types, and then leaves its function's results: its locals have the types of
-- its context, and its code is typed over its operands ('Configuration Validity', frames).
pub record FrameTyped (s : Shape) (f : Activation) (given results : Types) : Type 0 where
  pub ty : FuncType
  pub code : ℕ
  pub func_there : slice_get s.funcs f.func ≡ Some (Code ty f.instance code)
  pub results_are : results ≡ reverse ty.results
  pub inst : Instance
  pub inst_there : slice_get s.instances f.instance ≡ Some inst
  pub context : Context
  pub context_is : IsContextOf s inst context
  pub context_results : context.results ≡ results
  pub locals : HaveTypes f.locals context.locals
  pub ranges : All ValInRange f.operands
  pub own : List Val
  pub under : List Val
  pub split : f.operands ≡ own ++ under
  pub labels : List Types
  pub wanted : Types
  pub typed : CodeTyped context labels f.rest (given ++ types own) wanted
  pub blocks : BlocksTyped context f.labels under labels wanted

-- A frame of a host may be given values of any types. Its arguments have its function's parameter types. Such frames are
-- the project's own.
pub record HostTyped (s : Shape) (func : ℕ) (args given : List Val) (results : Types) : Type 0 where
  pub ty : FuncType
  pub func_there : slice_get s.funcs func ≡ Some (Host ty)
  pub results_are : results ≡ reverse ty.results
  pub arguments : HaveTypes args ty.params
  pub ranges : All ValInRange given

-- A frame that will be given operands of some types, and then leaves results of some types.
abbrev pub LayerTyped : Shape → Layer → (given results : Types) → Type 0
LayerTyped s (OfCode f) given results = FrameTyped s f given results
LayerTyped s (OfHost func args values) given results = HostTyped s func args values results

-- The frames, the top one first, of which the first will be given operands of some types, and each next one the results of
-- the frame above it.
abbrev pub LayersTyped : Shape → List Layer → (given : Types) → Type 0
LayersTyped s [] given = Unit {0}
LayersTyped s (l ∷ ls) given = (results : Types) × LayerTyped s l given results × LayersTyped s ls results

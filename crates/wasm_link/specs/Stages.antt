-- How a script goes: from one stage to the next by one event. Instantiations, invocations and steps are those of sessions (Core
-- Specification, sections 4.4, 4.5.4 and 4.5.5); scripts are this project's own.
use Rattle.std.specs.Prelude.{◌≡◌, ℕ, suc, Bool, true, false, List, [], ◌∷◌, ◌++◌, length, Option, Some, None, Result, Ok, Err, slice_get, IsTrue, option_and_then, is_some, codes}
use Rattle.std.specs.List.{list_all}
use Rattle.wasm_values.specs.declared.number.Val.{Val}
use Rattle.wasm_syntax.specs.declared.module.Module.{Module}
use Rattle.wasm_store.specs.declared.store.Extern.{Extern}
use Rattle.wasm_store.specs.declared.store.Store.{Store}
use Rattle.wasm_store.specs.declared.config.Outcome.{Outcome}
use Rattle.wasm_store.specs.declared.config.Outcome.TheVariants.{Running, Done}
use Rattle.wasm_store.specs.Configuration.{Configuration, started}
use Rattle.wasm_store.specs.Readers.{export_named}
use Rattle.wasm_reduce.specs.declared.policy.Policy.{Policy}
use Rattle.wasm_reduce.specs.Policies.{PolicyStep, PassesFrames}
use Rattle.wasm_sessions.specs.Instantiation.{Instantiated, Invoked, allocated, IsAtRest}
use Rattle.module_instances.specs.declared.faults.InstFault.{InstFault}
use Rattle.module_instances.specs.declared.faults.InstFault.TheVariants as inst
use Rattle.module_instances.specs.Refusals.{is_within_limits}
use Rattle.module_instances.specs.Answers.{IsRefusedFor}
use Rattle.wasm_instantiate.specs.Answers.{IsNoFunction, ArgumentsDiffer}
use Rattle.script_text.specs.declared.script.Origin.{Origin}
use Rattle.script_text.specs.declared.script.Action.{Action}
use Rattle.script_text.specs.declared.script.Action.TheVariants.{New, Call}
use Rattle.script_text.specs.declared.script.Script.{Script}
use Rattle.script_text.specs.Names.{place_in}
use Rattle.wasm_link.specs.Lines.{Doing, Making, Calling, new_head, call_head, head_of, line, end_word, refusal_word}

-- At most 1,024 pages and 10,000 frames.
abbrev pub the_policy : Policy
the_policy = record { pages = 1024; frames = 10000 }

-- ---- names

-- Names of instances in the order in which they were made or refused, and beside each the number of its instance, or nothing where
-- it was refused or its start trapped.
pub record Live : Type 0 where
  pub names : List (List ℕ)
  pub numbers : List (Option ℕ)

abbrev pub number_at : List (Option ℕ) → ℕ → Option ℕ
number_at numbers k = option_and_then (λ (n : Option ℕ). n) (slice_get numbers k)

-- the number of the live instance of this name, if there is one
abbrev pub live_number : Live → List ℕ → Option ℕ
live_number live name = option_and_then (number_at live.numbers) (place_in live.names name)

abbrev pub with_name : Live → List ℕ → Option ℕ → Live
with_name live name number = record { names = live.names ++ name ∷ []; numbers = live.numbers ++ number ∷ [] }

-- the instances that all these name are live
abbrev pub are_live : Live → List Origin → Bool
are_live live = list_all (λ (o : Origin). is_some (live_number live o.instance))

-- what an instance of the store exports under a name
abbrev pub export_at : Store → (export : List ℕ) → (number : ℕ) → Option Extern
export_at s export number = option_and_then (λ i. export_named i export) (slice_get s.instances number)

-- what the live instance of a name exports
abbrev pub export_named_by : Store → Live → (instance export : List ℕ) → Option Extern
export_named_by s live instance export = option_and_then (export_at s export) (live_number live instance)

-- what a lookup gave, or else this place
abbrev pub found_at : {A : Type 0} → (at : ℕ) → Option A → Result A ℕ
found_at at None = Err at
found_at at (Some x) = Ok x

abbrev pub and_then : {A B : Type 0} → Result A ℕ → (A → Result B ℕ) → Result B ℕ
and_then (Ok x) f = f x
and_then (Err at) f = Err at

-- what exports stand for, behind these; or the place of the first name that its instance lacks
abbrev pub externs_from : Store → Live → List Extern → List Origin → Result (List Extern) ℕ
externs_from s live before [] = Ok before
externs_from s live before (o ∷ os) =
    and_then (found_at o.at (export_named_by s live o.instance o.export)) (λ e. externs_from s live (before ++ e ∷ []) os)

-- the modules that were loaded, with their names
pub record Modules : Type 0 where
  pub names : List (List ℕ)
  pub modules : List Module

abbrev pub module_named : Modules → List ℕ → Option Module
module_named ms name = option_and_then (slice_get ms.modules) (place_in ms.names name)

-- ---- stages

-- A stage: the configuration, the steps that may still be taken, the instances, the action that was begun, if there is one, and
-- the actions that are left.
pub record Stage : Type 0 where
  pub config : Configuration
  pub left : ℕ
  pub live : Live
  pub doing : Option Doing
  pub todo : List Action

-- Nothing was done yet.
abbrev pub first_stage : Script → Stage
first_stage x = record { config = started; left = x.steps; live = record { names = []; numbers = [] }; doing = None; todo = x.actions }

-- The script has come to its end.
pub record IsOver (s : Stage) : Type 0 where
  pub nothing_begun : s.doing ≡ None
  pub nothing_left : s.todo ≡ []

-- The script ends here.
abbrev pub ended : Stage → Stage
ended s = record s { doing = None; todo = [] }

-- The instance of this name wasn't made, and the script goes on with these actions.
abbrev pub unmade : Stage → List ℕ → List Action → Stage
unmade s name rest = record s { live = with_name s.live name None; doing = None; todo = rest }

-- The script goes on with these actions.
abbrev pub passed : Stage → List Action → Stage
passed s rest = record s { doing = None; todo = rest }

-- This was begun, and led to this configuration.
abbrev pub begun : Stage → Configuration → Doing → List Action → Stage
begun s d doing rest = record s { config = d; doing = Some doing; todo = rest }

-- The instances after an action has ended.
abbrev pub live_after : Live → Doing → Outcome → Live
live_after live (Making instance number) (Done values) = with_name live instance (Some number)
live_after live (Making instance number) outcome = with_name live instance None
live_after live (Calling instance export) outcome = live

-- ---- events

-- What happens: a line of the log is said; an export that a live instance lacks is named at a place; an instance of a module is
-- made under a name, by its number, and leads to a configuration; so does a call, and a step.
pub data Event : Type 0 where
  Says : List ℕ → Event
  Lacks : ℕ → Event
  Makes : (name : List ℕ) → (number : ℕ) → Module → Configuration → Event
  Enters : Configuration → Event
  Steps : Configuration → Event

-- A refusal of an instantiation that doesn't end the script.
abbrev pub IsPassed : InstFault → Type 0
IsPassed inst.Limit = ⊥
IsPassed inst.OutOfMemory = ⊥
IsPassed _ = Unit {0}

-- One event leads from a stage to the next.
pub data Next (ms : Modules) (s : Stage) (e : Event) (t : Stage) : Type 0 where
  -- `new`: some instance that it names isn't live. No name is looked up.
  new_absent : (i m : List ℕ) (from : List Origin) (rest : List Action) → s.doing ≡ None → s.todo ≡ New i m from ∷ rest →
      are_live s.live from ≡ false → e ≡ Says (line (new_head i) (codes "absent")) → t ≡ unmade s i rest → Next ms s e t
  -- An instance lacks an export: the first in the order of the text.
  new_lacks : (i m : List ℕ) (from : List Origin) (rest : List Action) (at : ℕ) → s.doing ≡ None → s.todo ≡ New i m from ∷ rest →
      are_live s.live from ≡ true → externs_from s.config.store s.live [] from ≡ Err at → e ≡ Lacks at → t ≡ ended s → Next ms s e t
  -- The instantiation is refused.
  new_refused : (i m : List ℕ) (from : List Origin) (rest : List Action) (externs : List Extern) («module» : Module) (fault : InstFault) → s.doing ≡ None → s.todo ≡ New i m from ∷ rest →
      are_live s.live from ≡ true → externs_from s.config.store s.live [] from ≡ Ok externs → module_named ms m ≡ Some «module» →
      IsRefusedFor the_policy s.config.store «module» externs fault → IsPassed fault →
      e ≡ Says (line (new_head i) (refusal_word fault)) → t ≡ unmade s i rest → Next ms s e t
  -- It passes a limit, and the script ends.
  new_limited : (i m : List ℕ) (from : List Origin) (rest : List Action) (externs : List Extern) («module» : Module) → s.doing ≡ None → s.todo ≡ New i m from ∷ rest →
      are_live s.live from ≡ true → externs_from s.config.store s.live [] from ≡ Ok externs → module_named ms m ≡ Some «module» →
      IsRefusedFor the_policy s.config.store «module» externs inst.Limit →
      e ≡ Says (line (new_head i) (codes "limit")) → t ≡ ended s → Next ms s e t
  -- The instance is made.
  new_made : (i m : List ℕ) (from : List Origin) (rest : List Action) (externs : List Extern) («module» : Module) (d : Configuration) → s.doing ≡ None → s.todo ≡ New i m from ∷ rest →
      are_live s.live from ≡ true → externs_from s.config.store s.live [] from ≡ Ok externs → module_named ms m ≡ Some «module» →
      Instantiated s.config «module» externs d → IsTrue (is_within_limits the_policy (allocated s.config.store «module» externs)) →
      e ≡ Makes i (length s.config.store.instances) «module» d → t ≡ begun s d (Making i (length s.config.store.instances)) rest → Next ms s e t
  -- `call`: the instance isn't live. The export isn't looked up.
  call_absent : (i x : List ℕ) (at : ℕ) (args : List Val) (rest : List Action) → s.doing ≡ None → s.todo ≡ Call i x at args ∷ rest →
      live_number s.live i ≡ None → e ≡ Says (line (call_head i x) (codes "absent")) → t ≡ passed s rest → Next ms s e t
  -- The instance lacks the export.
  call_lacks : (i x : List ℕ) (at : ℕ) (args : List Val) (rest : List Action) (number : ℕ) → s.doing ≡ None → s.todo ≡ Call i x at args ∷ rest →
      live_number s.live i ≡ Some number → export_at s.config.store x number ≡ None → e ≡ Lacks at → t ≡ ended s → Next ms s e t
  -- The export is no function.
  call_no_function : (i x : List ℕ) (at : ℕ) (args : List Val) (rest : List Action) (extern : Extern) → s.doing ≡ None → s.todo ≡ Call i x at args ∷ rest →
      export_named_by s.config.store s.live i x ≡ Some extern → IsNoFunction extern →
      e ≡ Says (line (call_head i x) (codes "function")) → t ≡ passed s rest → Next ms s e t
  -- Number or types of the arguments differ.
  call_arguments : (i x : List ℕ) (at : ℕ) (args : List Val) (rest : List Action) (extern : Extern) → s.doing ≡ None → s.todo ≡ Call i x at args ∷ rest →
      export_named_by s.config.store s.live i x ≡ Some extern → ArgumentsDiffer s.config.store extern args →
      e ≡ Says (line (call_head i x) (codes "arguments")) → t ≡ passed s rest → Next ms s e t
  -- The function is entered.
  call_entered : (i x : List ℕ) (at : ℕ) (args : List Val) (rest : List Action) (extern : Extern) (d : Configuration) → s.doing ≡ None → s.todo ≡ Call i x at args ∷ rest →
      export_named_by s.config.store s.live i x ≡ Some extern → Invoked s.config extern args d →
      e ≡ Enters d → t ≡ begun s d (Calling i x) rest → Next ms s e t
  -- All steps are taken, and the action has not ended: the script ends.
  stopped : (doing : Doing) → s.doing ≡ Some doing → s.config.outcome ≡ Running → s.left ≡ 0 →
      e ≡ Says (line (head_of doing) (codes "stopped")) → t ≡ ended s → Next ms s e t
  -- A step would make too many frames: the script ends.
  frames_passed : (doing : Doing) (n : ℕ) → s.doing ≡ Some doing → s.config.outcome ≡ Running → s.left ≡ suc n → PassesFrames the_policy s.config →
      e ≡ Says (line (head_of doing) (codes "limit")) → t ≡ ended s → Next ms s e t
  -- A step is taken.
  stepped : (doing : Doing) (n : ℕ) (d : Configuration) → s.doing ≡ Some doing → s.config.outcome ≡ Running → s.left ≡ suc n → (PassesFrames the_policy s.config → ⊥) →
      PolicyStep the_policy s.config d → e ≡ Steps d → t ≡ record s { config = d; left = n } → Next ms s e t
  -- The action has ended.
  over : (doing : Doing) → s.doing ≡ Some doing → IsAtRest s.config.outcome →
      e ≡ Says (line (head_of doing) (end_word doing s.config.outcome)) → t ≡ record s { live = live_after s.live doing s.config.outcome; doing = None } → Next ms s e t

-- Events, one after another, lead from a stage to another.
abbrev pub Goes : Modules → Stage → List Event → Stage → Type 0
Goes ms s [] t = t ≡ s
Goes ms s (e ∷ es) t = (next : Stage) × Next ms s e next × Goes ms next es t

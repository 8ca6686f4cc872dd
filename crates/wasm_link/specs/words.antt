-- Words of private contracts and of proofs.
pub mod Loads
use Rattle.std.specs.Prelude.{◌≡◌, ◌⊎◌, IsSome, ℕ, suc, ◌+◌, ◌<◌, ◌++◌, codes, Bool, true, false, List, [], ◌∷◌, length, Option, Some, None, Result, Ok, Err, slice_get}
use Rattle.wasm_syntax.specs.declared.module.FuncType.{FuncType}
use Rattle.wasm_store.specs.declared.store.FuncInst.TheVariants.{Host}
use Rattle.wasm_store.specs.declared.store.Store.{Store}
use Rattle.wasm_store.specs.declared.config.Outcome.{Outcome}
use Rattle.wasm_store.specs.declared.config.Outcome.TheVariants.{Running, Done, Trapped}
use Rattle.wasm_store.specs.Configuration.{Configuration, started}
use Rattle.type_safety.specs.Typed.{Typed}
use Rattle.wasm_sessions.specs.Instantiation.{IsAtRest}
use Rattle.module_instances.specs.declared.faults.InstFault.{InstFault}
use Rattle.module_instances.specs.declared.faults.InstFault.TheVariants as inst
use Rattle.wasm_reduce.specs.Policies.{PolicyStep, PassesFrames}
use Rattle.wasm_instantiate.specs.Observers.{Eyes}
use Rattle.script_text.specs.declared.script.Action.{Action}
use Rattle.script_text.specs.declared.script.Action.TheVariants.{New, Call}
use Rattle.script_text.specs.Names.{is_among}
use Rattle.script_text.specs.Grammar.{made_by}
use Rattle.wasm_link.specs.declared.fault.LinkFault.{LinkFault}
use Rattle.wasm_link.specs.declared.fault.LinkFault.TheVariants.{UnknownName, OutOfMemory}
use Rattle.wasm_link.specs.declared.log.SeenLog.{SeenLog}
use Rattle.wasm_link.specs.declared.run.Run.{Run}
use Rattle.wasm_link.specs.declared.run.Ending.{Ending}
use Rattle.wasm_link.specs.declared.run.Ending.TheVariants.{Over, Stopped, Limit, Seen}
use Rattle.wasm_store.specs.declared.store.Extern.{Extern}
use Rattle.wasm_link.specs.declared.run.Turn.{Turn}
use Rattle.wasm_link.specs.declared.run.Turn.TheVariants as turn
use Rattle.wasm_link.specs.declared.run.Found.{Found}
use Rattle.wasm_link.specs.declared.run.Found.TheVariants.{Externs, Lacking}
use Rattle.wasm_link.specs.Lines.{Doing, line, refusal_word}
use Rattle.wasm_link.specs.Stages.{the_policy, Live, number_at, Modules, Stage, Event, IsPassed, Goes, IsOver}
use Rattle.wasm_link.specs.Watching.{Watch, fresh, watched}

abbrev pub live_of : Run → Live
live_of r = record { names = r.names; numbers = r.numbers }

abbrev pub stage_of : Run → Option Doing → List Action → Stage
stage_of r doing todo = record { config = r.config; left = r.left; live = live_of r; doing = doing; todo = todo }

abbrev pub watch_of : {O : Type 0} → O → Run → (stopped lacking : Option ℕ) → Watch O
watch_of notes r stopped lacking = record { notes = notes; text = r.text.items; steps = r.steps; stopped = stopped; lacking = lacking }

-- Some events lead from a stage to another, and what was noted and written from this to that.
pub record Reaches {O : Type 0} (eyes : Eyes O) (ms : Modules) (s : Stage) (w : Watch O) (t : Stage) (v : Watch O) : Type 0 where
  pub events : List Event
  pub goes : Goes ms s events t
  pub is : watched eyes w events ≡ v

-- No function of the store is a host's.
abbrev pub HasNoHosts : Store → Type 0
HasNoHosts s = (a : ℕ) (ty : FuncType) → slice_get s.funcs a ≡ Some (Host ty) → ⊥

-- What a run keeps.
pub record Ready (r : Run) : Type 0 where
  pub typed : Typed r.config
  pub no_hosts : HasNoHosts r.config.store
  pub beside : length r.numbers ≡ length r.names
  pub there : (k n : ℕ) → number_at r.numbers k ≡ Some n → n < length r.config.store.instances
  pub few : r.steps + r.left < 4294967296

-- One more step was taken.
pub record Stepped (r t : Run) : Type 0 where
  pub n : ℕ
  pub left : r.left ≡ suc n
  pub config : Configuration
  pub passes : PassesFrames the_policy r.config → ⊥
  pub step : PolicyStep the_policy r.config config
  pub is : t ≡ record r { config = config; left = n; steps = r.steps + 1 }

-- A step was taken, or would make too many frames.
abbrev pub IsTaken : Run → Run → Bool → Type 0
IsTaken r t true = Stepped r t
IsTaken r t false = PassesFrames the_policy r.config × (t ≡ r)

-- The observer's number where it stopped the run.
abbrev pub stop_at : {E : Type 0} → Result Ending E → Option ℕ
stop_at (Ok (Seen n)) = Some n
stop_at _ = None

-- Why an action goes on no more: nothing runs; all steps are taken; a step would make too many frames; the observer stopped.
abbrev pub EndsAs : Run → Ending → Type 0
EndsAs r Over = r.config.outcome ≡ Running → ⊥
EndsAs r Stopped = (r.config.outcome ≡ Running) × (r.left ≡ 0)
EndsAs r Limit = (r.config.outcome ≡ Running) × (0 < r.left) × PassesFrames the_policy r.config
EndsAs r (Seen n) = Unit {0}

-- What was found for exports.
abbrev pub IsFound : Found → Result (List Extern) ℕ → Type 0
IsFound (Externs externs) r = r ≡ Ok externs.items
IsFound (Lacking at) r = r ≡ Err at

-- A line was added to the log, and nothing else has changed.
pub record Said (r t : Run) (line : List ℕ) : Type 0 where
  pub text : t.text.items ≡ r.text.items ++ line
  pub config : t.config ≡ r.config
  pub left : t.left ≡ r.left
  pub steps : t.steps ≡ r.steps
  pub names : t.names ≡ r.names
  pub numbers : t.numbers ≡ r.numbers

-- Nothing was done yet.
pub record IsStarted (steps : ℕ) (r : Run) : Type 0 where
  pub config : r.config ≡ started
  pub left : r.left ≡ steps
  pub none_taken : r.steps ≡ 0
  pub names : r.names ≡ []
  pub numbers : r.numbers ≡ []
  pub text : r.text.items ≡ []

-- Over steps the names of instances, and how many instances there are, stay.
pub record Kept (r t : Run) : Type 0 where
  pub names : t.names ≡ r.names
  pub numbers : t.numbers ≡ r.numbers
  pub instances : length t.config.store.instances ≡ length r.config.store.instances

-- The number of a name was told, or that it isn't live, and nothing else has changed.
abbrev pub Named : Run → Run → List ℕ → Option ℕ → Type 0
Named r t name number = t ≡ record r { names = r.names ++ name ∷ []; numbers = r.numbers ++ number ∷ [] }

-- A line was added to the log, and the number of a name was told.
pub record Settled (r t : Run) (line name : List ℕ) (number : Option ℕ) : Type 0 where
  pub text : t.text.items ≡ r.text.items ++ line
  pub config : t.config ≡ r.config
  pub left : t.left ≡ r.left
  pub steps : t.steps ≡ r.steps
  pub names : t.names ≡ r.names ++ name ∷ []
  pub numbers : t.numbers ≡ r.numbers ++ number ∷ []

-- The number of an instance whose start function has ended, where it is live.
abbrev pub number_after : Outcome → ℕ → Option ℕ
number_after (Done values) number = Some number
number_after Running number = None
number_after Trapped number = None

-- What became of a refused instantiation.
abbrev pub RefusedSo : (r t : Run) → (instance : List ℕ) → InstFault → Turn → Type 0
RefusedSo r t instance fault turn.Next = IsPassed fault × Settled r t (line instance (refusal_word fault)) instance None
RefusedSo r t instance fault turn.Ended = (fault ≡ inst.Limit) × Said r t (line instance (codes "limit"))
RefusedSo r t instance fault (turn.Seen n) = ⊥
RefusedSo r t instance fault (turn.Lacks at) = ⊥

-- After a want of memory: what was noted is what some events leave.
pub record LeftAt {O : Type 0} (eyes : Eyes O) (ms : Modules) (s : Stage) (w : Watch O) (notes : O) : Type 0 where
  pub stage : Stage
  pub watch : Watch O
  pub reaches : Reaches eyes ms s w stage watch
  pub notes_are : watch.notes ≡ notes

-- The next action may begin.
pub record GoesOn {O : Type 0} (eyes : Eyes O) (ms : Modules) (s : Stage) (w : Watch O) (names : List (List ℕ)) (r : Run) (notes : O) (rest : List Action) : Type 0 where
  pub reaches : Reaches eyes ms s w (stage_of r None rest) (watch_of notes r None None)
  pub ready : Ready r
  pub at_rest : IsAtRest r.config.outcome
  pub names_are : r.names ≡ names

-- Where the script has come to after an action.
abbrev pub TurnTo : {O : Type 0} → Eyes O → Modules → Stage → Watch O → List (List ℕ) → Run → O → List Action → Turn → Type 0
TurnTo eyes ms s w names r notes rest turn.Next = GoesOn eyes ms s w names r notes rest
TurnTo eyes ms s w names r notes rest turn.Ended = Reaches eyes ms s w (stage_of r None []) (watch_of notes r None None)
TurnTo eyes ms s w names r notes rest (turn.Seen n) = (doing : Doing) × Reaches eyes ms s w (stage_of r (Some doing) rest) (watch_of notes r (Some n) None)
TurnTo eyes ms s w names r notes rest (turn.Lacks at) = Reaches eyes ms s w (stage_of r None []) (watch_of notes r None (Some at))

abbrev pub TurnAnswers : {O E : Type 0} → Eyes O → Modules → Stage → Watch O → List (List ℕ) → Run → O → List Action → Result Turn E → Type 0
TurnAnswers eyes ms s w names r notes rest (Ok turn) = TurnTo eyes ms s w names r notes rest turn
TurnAnswers eyes ms s w names r notes rest (Err e) = LeftAt eyes ms s w notes

-- Where the script has come to after all actions.
abbrev pub AllTo : {O : Type 0} → Eyes O → Modules → Stage → Watch O → Run → O → Turn → Type 0
AllTo eyes ms s w r notes turn.Next = Reaches eyes ms s w (stage_of r None []) (watch_of notes r None None)
AllTo eyes ms s w r notes turn.Ended = Reaches eyes ms s w (stage_of r None []) (watch_of notes r None None)
AllTo eyes ms s w r notes (turn.Seen n) = (stage : Stage) × Reaches eyes ms s w stage (watch_of notes r (Some n) None)
AllTo eyes ms s w r notes (turn.Lacks at) = Reaches eyes ms s w (stage_of r None []) (watch_of notes r None (Some at))

abbrev pub AllAnswers : {O E : Type 0} → Eyes O → Modules → Stage → Watch O → Run → O → Result Turn E → Type 0
AllAnswers eyes ms s w r notes (Ok turn) = AllTo eyes ms s w r notes turn
AllAnswers eyes ms s w r notes (Err e) = LeftAt eyes ms s w notes

-- An action makes no instance whose name is among these, and makes it of a module that is loaded.
abbrev pub IsKnownAction : (modules made : List (List ℕ)) → Action → Type 0
IsKnownAction modules made (New instance «module» from) = (is_among made instance ≡ false) × (is_among modules «module» ≡ true)
IsKnownAction modules made (Call instance export at args) = Unit {0}

-- The same of each of these actions, behind those that make these.
abbrev pub AreKnown : (modules made : List (List ℕ)) → List Action → Type 0
AreKnown modules made [] = Unit {0}
AreKnown modules made (a ∷ more) = IsKnownAction modules made a × AreKnown modules (made ++ made_by a) more

-- What a run that has come so far answers.
abbrev pub EndAnswers : Run → Turn → Result SeenLog LinkFault → Type 0
EndAnswers r turn.Next (Ok seen) = (seen.log.text ≡ r.text.items) × (seen.steps ≡ r.steps) × (seen.stopped ≡ None)
EndAnswers r turn.Ended (Ok seen) = (seen.log.text ≡ r.text.items) × (seen.steps ≡ r.steps) × (seen.stopped ≡ None)
EndAnswers r (turn.Seen n) (Ok seen) = (seen.log.text ≡ r.text.items) × (seen.steps ≡ r.steps) × (seen.stopped ≡ Some n)
EndAnswers r (turn.Lacks at) (Ok seen) = ⊥
EndAnswers r (turn.Lacks at) (Err fault) = fault ≡ UnknownName at
EndAnswers r _ (Err fault) = ⊥

-- The stage before the first of these actions.
abbrev pub stage_before : (steps : ℕ) → List Action → Stage
stage_before steps actions = record { config = started; left = steps; live = record { names = []; numbers = [] }; doing = None; todo = actions }

-- What was noted and written goes on to the end of a script, or to where the observer stopped.
pub record Ends {O : Type 0} (eyes : Eyes O) (ms : Modules) (s : Stage) (w v : Watch O) : Type 0 where
  pub stage : Stage
  pub reaches : Reaches eyes ms s w stage v
  pub whole : IsSome v.stopped ⊎ IsOver stage

-- What a script whose modules are loaded answers.
abbrev pub LoadedAnswers : {O : Type 0} → Eyes O → Modules → (steps : ℕ) → List Action → (notes after : O) → Result SeenLog LinkFault → Type 0
LoadedAnswers eyes ms steps actions notes after (Ok seen) =
    Ends eyes ms (stage_before steps actions) (fresh notes) (record { notes = after; text = seen.log.text; steps = seen.steps; stopped = seen.stopped; lacking = None })
LoadedAnswers {O} eyes ms steps actions notes after (Err (UnknownName at)) =
    (w : Watch O) × Ends eyes ms (stage_before steps actions) (fresh notes) w × (w.notes ≡ after) × (w.lacking ≡ Some at)
LoadedAnswers eyes ms steps actions notes after (Err OutOfMemory) = LeftAt eyes ms (stage_before steps actions) (fresh notes) after
LoadedAnswers eyes ms steps actions notes after (Err _) = ⊥

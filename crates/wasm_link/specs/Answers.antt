-- What running a script answers.
use Rattle.std.specs.Prelude.{All, ◌≡◌, ◌⊎◌, ℕ, List, Option, Some, None, Result, Ok, Err, IfSome}
use Rattle.wasm_syntax.specs.declared.module.Module.{Module}
use Rattle.wasm_typing.specs.Valid.{BytesInRange}
use Rattle.wasm_instantiate.specs.Observers.{Eyes}
use Rattle.script_text.specs.declared.script.Script.{Script}
use Rattle.script_text.specs.Spelling.{ScriptSpells}
use Rattle.wasm_link.specs.declared.fault.LinkFault.{LinkFault}
use Rattle.wasm_link.specs.declared.fault.LinkFault.TheVariants.{Shelf, UnknownName, OutOfMemory}
use Rattle.wasm_link.specs.declared.log.Log.{Log}
use Rattle.wasm_link.specs.declared.log.SeenLog.{SeenLog}
use Rattle.wasm_link.specs.Loading.{Files, AreLoaded, IsFirstRefused}
use Rattle.wasm_link.specs.Stages.{Stage, Event, first_stage, Goes}
use Rattle.wasm_link.specs.Watching.{Watch, fresh, watched}
use Rattle.wasm_link.specs.Logs.{modules_in, Watches, ScriptLog, ScriptLacks}

-- What files hold are bytes.
abbrev pub HoldBytes : Files → Type 0
HoldBytes files = All (λ file. BytesInRange file.1) files

-- Some text spells the script.
abbrev pub IsSpelled : Script → Type 0
IsSpelled x = (text : List ℕ) × ScriptSpells text x

-- The modules are those that the script's loads give, where the files are told.
abbrev pub AreModulesOf : Option Files → Script → List Module → Type 0
AreModulesOf told x ms = IfSome told (λ files. AreLoaded files x.loads ms)

-- What an observer notes, and what is written, while a script goes, up to its end or to where the observer stops.
abbrev pub Observes : {O : Type 0} → Eyes O → Option Files → Script → O → Watch O → Type 0
Observes eyes told x notes w = (ms : List Module) × AreModulesOf told x ms × Watches eyes x (modules_in x ms) notes w

-- An observer has noted what the first events of a script leave.
pub record HasNoted {O : Type 0} (eyes : Eyes O) (told : Option Files) (x : Script) (notes after : O) : Type 0 where
  pub modules : List Module
  pub loaded : AreModulesOf told x modules
  pub events : List Event
  pub stage : Stage
  pub goes : Goes (modules_in x modules) (first_stage x) events stage
  pub is : (watched eyes (fresh notes) events).notes ≡ after

-- A script was run while an observer looked on, or it was refused. Before the first action the observer has noted nothing.
abbrev pub SeenAnswers : {O : Type 0} → Eyes O → Option Files → Script → (notes after : O) → Result SeenLog LinkFault → Type 0
SeenAnswers eyes told x notes after (Ok seen) =
    Observes eyes told x notes (record { notes = after; text = seen.log.text; steps = seen.steps; stopped = seen.stopped; lacking = None })
SeenAnswers {O} eyes told x notes after (Err (UnknownName at)) =
    (w : Watch O) × Observes eyes told x notes w × (w.notes ≡ after) × (w.lacking ≡ Some at)
SeenAnswers eyes told x notes after (Err OutOfMemory) = (after ≡ notes) ⊎ HasNoted eyes told x notes after
SeenAnswers eyes told x notes after (Err Shelf) = after ≡ notes
SeenAnswers eyes told x notes after (Err fault) = IfSome told (λ files. IsFirstRefused files x.loads fault) × (after ≡ notes)

-- What a script comes to over these files: its log; the place of the first export that a live instance lacks; or the refusal of the
-- first load that gives no module.
abbrev pub ScriptAnswers : Files → Script → Result Log LinkFault → Type 0
ScriptAnswers files x (Ok log) = ScriptLog files x log.text
ScriptAnswers files x (Err (UnknownName at)) = ScriptLacks files x at
ScriptAnswers files x (Err OutOfMemory) = ⊥
ScriptAnswers files x (Err fault) = IsFirstRefused files x.loads fault

-- A script was run over these files, or it was refused. A refusal of the shelf, and want of memory, are free here.
abbrev pub RunAnswers : Files → Script → Result Log LinkFault → Type 0
RunAnswers files x (Ok log) = ScriptLog files x log.text
RunAnswers files x (Err (UnknownName at)) = ScriptLacks files x at
RunAnswers files x (Err OutOfMemory) = Unit {0}
RunAnswers files x (Err Shelf) = Unit {0}
RunAnswers files x (Err fault) = IsFirstRefused files x.loads fault

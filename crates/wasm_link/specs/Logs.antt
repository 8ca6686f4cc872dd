-- The log of a script.
use Rattle.std.specs.Prelude.{◌≡◌, ◌⊎◌, ℕ, List, [], ◌∷◌, Some, None, IsSome}
use Rattle.std.specs.List.{flat_map}
use Rattle.wasm_syntax.specs.declared.module.Module.{Module}
use Rattle.wasm_instantiate.specs.declared.sight.Sight.TheVariants.{GoOn}
use Rattle.script_text.specs.declared.script.Script.{Script}
use Rattle.script_text.specs.Grammar.{modules_of}
use Rattle.wasm_link.specs.Loading.{Files, AreLoaded}
use Rattle.wasm_store.specs.Configuration.{Configuration, started}
use Rattle.wasm_sessions.specs.Sessions.{IsSession}
use Rattle.wasm_link.specs.Stages.{Modules, Stage, Event, Says, Lacks, Makes, Enters, Steps, first_stage, Goes, IsOver}
use Rattle.wasm_link.specs.Watching.{Watch, fresh, watched}
use Rattle.wasm_instantiate.specs.Observers.{Eyes}

-- The modules of a script.
abbrev pub modules_in : Script → List Module → Modules
modules_in x ms = record { names = modules_of x.loads; modules = ms }

-- An observer that sees nothing.
abbrev pub blind : Eyes (Unit {0})
blind = record { noted_made = λ o name number m. o; told_made = λ o name number m. GoOn; noted_seen = λ o c. o; told_seen = λ o c. GoOn }

-- What an observer notes, and what is written, while a script goes with these modules, up to its end or to where the observer stops.
pub record Watches {O : Type 0} (eyes : Eyes O) (x : Script) (ms : Modules) (notes : O) (w : Watch O) : Type 0 where
  pub events : List Event
  pub stage : Stage
  pub goes : Goes ms (first_stage x) events stage
  pub whole : IsSome w.stopped ⊎ IsOver stage
  pub is : watched eyes (fresh notes) events ≡ w

-- A script has this log over these files: all its modules are loaded, and no export is named that a live instance lacks.
pub record ScriptLog (files : Files) (x : Script) (text : List ℕ) : Type 0 where
  pub modules : List Module
  pub loaded : AreLoaded files x.loads modules
  pub notes : Unit {0}
  pub watch : Watch (Unit {0})
  pub watches : Watches blind x (modules_in x modules) tt watch
  pub text_is : text ≡ watch.text
  pub lacks_none : watch.lacking ≡ None

-- A script names, at this place, the first export that a live instance lacks.
pub record ScriptLacks (files : Files) (x : Script) (at : ℕ) : Type 0 where
  pub modules : List Module
  pub loaded : AreLoaded files x.loads modules
  pub watch : Watch (Unit {0})
  pub watches : Watches blind x (modules_in x modules) tt watch
  pub lacks : watch.lacking ≡ Some at

-- The configuration that an event leads to, if it leads to another.
abbrev pub configurations_of : Event → List Configuration
configurations_of (Says line) = []
configurations_of (Lacks at) = []
configurations_of (Makes name number «module» d) = d ∷ []
configurations_of (Enters d) = d ∷ []
configurations_of (Steps d) = d ∷ []

-- The configurations that events lead to, one after another, behind the one that has nothing in it.
abbrev pub configurations : List Event → List Configuration
configurations events = started ∷ flat_map configurations_of events

-- Whatever a script's modules are, the configurations that it goes through are the moments of one session.
abbrev pub ScriptsAreSessions : Type 0
ScriptsAreSessions =
    (files : Files) (x : Script) (modules : List Module) (events : List Event) (stage : Stage) → AreLoaded files x.loads modules →
    Goes (modules_in x modules) (first_stage x) events stage → IsSession (configurations events)

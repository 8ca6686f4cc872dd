-- What is written and noted while a script goes.
use Rattle.std.specs.Prelude.{ℕ, ◌+◌, List, [], ◌∷◌, ◌++◌, Option, Some, None}
use Rattle.wasm_store.specs.Configuration.{Configuration}
use Rattle.wasm_instantiate.specs.declared.sight.Sight.{Sight}
use Rattle.wasm_instantiate.specs.declared.sight.Sight.TheVariants.{GoOn, Stop}
use Rattle.wasm_instantiate.specs.Observers.{Eyes}
use Rattle.wasm_link.specs.Stages.{Event, Says, Lacks, Makes, Enters, Steps}

-- What was noted and written so far, how many steps were taken, with which number the observer stopped, and at which place an
-- export was named that its instance lacks.
pub record Watch (O : Type 0) : Type 0 where
  pub notes : O
  pub text : List ℕ
  pub steps : ℕ
  pub stopped : Option ℕ
  pub lacking : Option ℕ

-- Nothing was written yet.
abbrev pub fresh : {O : Type 0} → O → Watch O
fresh notes = record { notes = notes; text = []; steps = 0; stopped = None; lacking = None }

abbrev pub stop_of : Sight → Option ℕ
stop_of GoOn = None
stop_of (Stop n) = Some n

-- The observer sees a configuration.
abbrev pub seen : {O : Type 0} → Eyes O → Watch O → Configuration → Watch O
seen eyes w d = record w { notes = eyes.noted_seen w.notes d; stopped = stop_of (eyes.told_seen w.notes d) }

-- The observer is told of an instance, and sees the configuration if it didn't stop.
abbrev pub told : {O : Type 0} → Eyes O → Watch O → Configuration → Sight → Watch O
told eyes w d GoOn = seen eyes w d
told eyes w d (Stop n) = record w { stopped = Some n }

abbrev pub heard : {O : Type 0} → Eyes O → Watch O → Event → Watch O
heard eyes w (Says line) = record w { text = w.text ++ line }
heard eyes w (Lacks at) = record w { lacking = Some at }
heard eyes w (Makes name number «module» d) = told eyes (record w { notes = eyes.noted_made w.notes name number «module» }) d (eyes.told_made w.notes name number «module»)
heard eyes w (Enters d) = seen eyes w d
heard eyes w (Steps d) = seen eyes (record w { steps = w.steps + 1 }) d

-- After the observer has stopped nothing is noted or written.
abbrev pub heard_unless : {O : Type 0} → Eyes O → Watch O → Event → Option ℕ → Watch O
heard_unless eyes w e None = heard eyes w e
heard_unless eyes w e (Some n) = w

-- What is noted and written in all of these events.
abbrev pub watched : {O : Type 0} → Eyes O → Watch O → List Event → Watch O
watched eyes w [] = w
watched eyes w (e ∷ es) = watched eyes (heard_unless eyes w e w.stopped) es

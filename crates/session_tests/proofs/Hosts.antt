-- A host on top may act.
use Rattle.std.proofs.Common.{◌≡◌, ℕ, [], ◌∷◌, List, Some}
use Rattle.wasm_store.specs.declared.config.Outcome.{Outcome}
use Rattle.wasm_store.specs.declared.config.Outcome.TheVariants.{Running, Done, Trapped}
use Rattle.wasm_store.specs.Configuration.{Layer, OfCode, OfHost, Configuration}
use Rattle.wasm_store.specs.Readers.{host_top_of}
use Rattle.wasm_sessions.specs.Hosts.{HasHostOnTop, HostHasControl}
use Rattle.wasm_instantiate.specs.declared.acts.HostAct.{HostAct}
use Rattle.wasm_instantiate.specs.declared.acts.HostAct.TheVariants.{Byte, Global, Entry, Grow, GrowTable, Call, Return, Trap}
use Rattle.wasm_instantiate.specs.HostAnswers.{MayAct}

on_top : (frames : List Layer) (func : ℕ) → host_top_of frames ≡ Some func → HasHostOnTop frames
on_top [] func h = let no : ⊥ = cc in absurd no
on_top (OfCode f ∷ below) func h = let no : ⊥ = cc in absurd no
on_top (OfHost g args given ∷ below) func h = tt

control : (o : Outcome) (frames : List Layer) → HasHostOnTop frames → HostHasControl o frames
control Running frames h = h
control (Done values) frames h = tt
control Trapped frames h = tt

may : (c : Configuration) (act : HostAct) → HasHostOnTop c.frames → MayAct c act
may c (Byte m at v) h = control c.outcome c.frames h
may c (Global g v) h = control c.outcome c.frames h
may c (Entry a at f) h = control c.outcome c.frames h
may c (Grow m n) h = control c.outcome c.frames h
may c (GrowTable a n) h = control c.outcome c.frames h
may c (Call f vs) h = h
may c (Return vs) h = h
may c Trap h = h

pub may_act : (c : Configuration) (func : ℕ) → host_top_of c.frames ≡ Some func → (act : HostAct) → MayAct c act
may_act c func h act = may c act (on_top c.frames func h)

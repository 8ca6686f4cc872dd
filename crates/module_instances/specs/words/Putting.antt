-- Words for the parts that are put into a store.
use Rattle.std.specs.Prelude.{◌≡◌, ℕ, ◌++◌, ◌∷◌, [], List, Option, Some, None, option_map, length, map, take, slice_get, slice_index, IsTrue, Result, Ok, Err}
use Rattle.std.specs.List.{enumerate_from}
use Rattle.wasm_syntax.specs.declared.module.Module.{Module}
use Rattle.wasm_store.specs.declared.store.GlobalInst.{GlobalInst}
use Rattle.wasm_store.specs.declared.store.Extern.{Extern}
use Rattle.wasm_reduce.specs.declared.policy.Policy.{Policy}
use Rattle.module_instances.specs.declared.numbering.Numbering.{Numbering}
use Rattle.module_instances.specs.declared.faults.InstFault.{InstFault}
use Rattle.wasm_sessions.specs.Matching.{MatchImports}
use Rattle.module_instances.specs.Refusals.{is_within_limits}
use Rattle.module_instances.specs.words.Building.{numbered_instance, full}
use Rattle.module_instances.specs.Answers.{IsRefusedFor}
use Rattle.wasm_store.specs.declared.store.FuncInst.{FuncInst}
use Rattle.wasm_store.specs.declared.store.Store.{Store}
use Rattle.wasm_store.specs.declared.config.Frame.{Frame}
use Rattle.wasm_store.specs.declared.config.Outcome.{Outcome}
use Rattle.wasm_store.specs.declared.config.Outcome.TheVariants.{Running, Done}
use Rattle.wasm_store.specs.Seen.{seen_frame}
use Rattle.module_instances.specs.declared.storing.Parts.{Parts}
use Rattle.module_instances.specs.declared.storing.Sizes.{Sizes}
use Rattle.wasm_store.specs.Control.{IsFrameOf}
use Rattle.wasm_sessions.specs.Instantiation.{made_instance, made_func, made_table, made_memory, allocated, segments_fit}

-- The store with these parts after what was there.
abbrev pub with_parts : Store → Parts → Store
with_parts s p =
    record {
      funcs = s.funcs ++ p.funcs;
      tables = s.tables ++ p.tables;
      memories = s.memories ++ p.memories;
      globals = s.globals ++ p.globals;
      instances = s.instances ++ p.instance ∷ [];
    }

-- How many of each a store has.
abbrev pub sizes_of : Store → Sizes
sizes_of s =
    record {
      funcs = length s.funcs;
      tables = length s.tables;
      memories = length s.memories;
      globals = length s.globals;
      instances = length s.instances;
    }

-- The store without what lies past these sizes.
abbrev pub cut_to : Sizes → Store → Store
cut_to n s =
    record {
      funcs = take n.funcs s.funcs;
      tables = take n.tables s.tables;
      memories = take n.memories s.memories;
      globals = take n.globals s.globals;
      instances = take n.instances s.instances;
    }

-- The frames that begin: that of the function at this address, entered with nothing, or none.
abbrev pub Begins : Store → Option ℕ → List Frame → Type 0
Begins s None frames = frames ≡ []
Begins s (Some a) frames =
    (inst : FuncInst) × (frame : Frame) × (frames ≡ frame ∷ []) × (slice_get s.funcs a ≡ Some inst)
    × IsFrameOf s.instances a [] inst (seen_frame s.funcs s.instances frame)

-- ---- what is prepared

-- The parts that a module adds to a store, by the addresses of what it imports and its new globals.
pub record ArePartsFor (s : Store) (m : Module) (n : Numbering) (gs : List GlobalInst) (p : Parts) : Type 0 where
  pub funcs : p.funcs ≡ map (made_func m (length s.instances)) (enumerate_from 0 m.funcs)
  pub tables : p.tables ≡ map made_table m.tables
  pub memories : p.memories ≡ map made_memory m.memories
  pub globals : p.globals ≡ gs
  pub instance : p.instance ≡ numbered_instance (full s m n) m
  pub start : p.start ≡ option_map (slice_index (full s m n).funcs) m.start

-- The parts of an instantiation: with them the store is the allocated one.
pub record ArePartsOf (s : Store) (m : Module) (externs : List Extern) (p : Parts) : Type 0 where
  pub store : with_parts s p ≡ allocated s m externs
  pub instance : p.instance ≡ made_instance s m externs
  pub start : p.start ≡ option_map (slice_index p.instance.funcs) m.start

-- An instantiation is not refused, and these are its parts.
pub record IsReady (policy : Policy) (s : Store) (m : Module) (externs : List Extern) (p : Parts) : Type 0 where
  pub matching : MatchImports s m externs
  pub in_bounds : IsTrue (segments_fit (allocated s m externs) (made_instance s m externs) m)
  pub within : IsTrue (is_within_limits policy (allocated s m externs))
  pub parts : ArePartsOf s m externs p

-- An instantiation's parts, or the first reason to refuse it.
abbrev pub Prepares : Policy → Store → Module → (externs : List Extern) → Result Parts InstFault → Type 0
Prepares policy s m externs (Ok p) = IsReady policy s m externs p
Prepares policy s m externs (Err fault) = IsRefusedFor policy s m externs fault

-- What a run comes to before it begins.
abbrev pub first_outcome : Option ℕ → Outcome
first_outcome None = Done []
first_outcome (Some a) = Running

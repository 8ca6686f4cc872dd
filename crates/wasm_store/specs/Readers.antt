-- Words for what the readers of a configuration answer.
use Rattle.std.specs.Prelude.{◌≡◌, ℕ, ◌*◌, ◌≤◌, nat_eq, List, [], ◌∷◌, length, find, Option, Some, None, option_map}
use Rattle.std.specs.Cmp.Lexicographic.{pointwise}
use Rattle.wasm_values.specs.declared.number.Val.{Val}
use Rattle.wasm_store.specs.declared.store.Extern.{Extern}
use Rattle.wasm_store.specs.declared.store.Instance.{Instance}
use Rattle.wasm_store.specs.declared.store.MemInst.{MemInst}
use Rattle.wasm_store.specs.Configuration.{Layer, OfCode, OfHost}

-- The instance of the top frame, if it is of code.
abbrev pub top_instance_of : List Layer → Option ℕ
top_instance_of [] = None
top_instance_of (OfCode f ∷ below) = Some f.instance
top_instance_of (OfHost func args given ∷ below) = None

-- The function of the top frame, if it is a host's.
abbrev pub host_top_of : List Layer → Option ℕ
host_top_of [] = None
host_top_of (OfCode f ∷ below) = None
host_top_of (OfHost func args given ∷ below) = Some func

-- The top frame is a host's, with these arguments.
abbrev pub HasHostArgs : List Layer → List Val → Type 0
HasHostArgs [] values = ⊥
HasHostArgs (OfCode f ∷ below) values = ⊥
HasHostArgs (OfHost func args given ∷ below) values = values ≡ args

-- The top frame is a host's, and was given these values.
abbrev pub HasHostGiven : List Layer → List Val → Type 0
HasHostGiven [] values = ⊥
HasHostGiven (OfCode f ∷ below) values = ⊥
HasHostGiven (OfHost func args given ∷ below) values = values ≡ given

-- The first of these exports that has this name (section 4.2.10).
abbrev pub first_named_of : List (List ℕ × Extern) → List ℕ → Option Extern
first_named_of exports name = option_map (λ e. e.1) (find (λ e. pointwise nat_eq e.0 name) exports)

-- The first of an instance's exports that has this name.
abbrev pub export_named : Instance → List ℕ → Option Extern
export_named i name = first_named_of i.exports name

-- A memory is a whole number of pages, at most 65,536 (section 4.2.8).
pub record HasPages (m : MemInst) (pages : ℕ) : Type 0 where
  pub whole : length m.bytes ≡ pages * 65536
  pub few : pages ≤ 65536

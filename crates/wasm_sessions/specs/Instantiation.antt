-- Instantiation and invocation (Core Specification, sections 4.5.3 to 4.5.5).
use Rattle.std.specs.Prelude.{◌≡◌, ℕ, ◌+◌, ◌*◌, Bool, false, ◌&&◌, nat_le, List, [], ◌∷◌, ◌++◌, length, map, fold, replicate, slice_get, slice_set, slice_index, Option, Some, None, IsTrue}
use Rattle.std.specs.List.{filter_map, flat_map, list_all, enumerate_from, range_with_len}
use Rattle.wasm_values.specs.declared.number.Val.{Val}
use Rattle.wasm_values.specs.declared.number.Val.TheVariants as val
use Rattle.wasm_values.specs.Operators.{number_of}
use Rattle.wasm_syntax.specs.declared.instr.Instr.{Instr}
use Rattle.wasm_syntax.specs.declared.module.Limits.{Limits}
use Rattle.wasm_syntax.specs.declared.module.Export.{Export}
use Rattle.wasm_syntax.specs.declared.module.ExportKind.{ExportKind}
use Rattle.wasm_syntax.specs.declared.module.ExportKind.TheVariants as export
use Rattle.wasm_syntax.specs.declared.module.Global.{Global as GlobalOf}
use Rattle.wasm_syntax.specs.declared.module.Func.{Func as FuncOf}
use Rattle.wasm_syntax.specs.declared.module.Elem.{Elem}
use Rattle.wasm_syntax.specs.declared.module.Segment.{Segment}
use Rattle.wasm_syntax.specs.declared.module.Module.{Module}
use Rattle.wasm_syntax.specs.Trees as tree
use Rattle.wasm_syntax.specs.Trees.{Instruction, Sequence, Empty, Then, sequence_of}
use Rattle.wasm_typing.specs.Valid.{type_at}
use Rattle.wasm_store.specs.declared.store.FuncInst.{FuncInst}
use Rattle.wasm_store.specs.declared.store.FuncInst.TheVariants.{Code}
use Rattle.wasm_store.specs.declared.store.TableInst.{TableInst}
use Rattle.wasm_store.specs.declared.store.MemInst.{MemInst}
use Rattle.wasm_store.specs.declared.store.GlobalInst.{GlobalInst}
use Rattle.wasm_store.specs.declared.store.Extern.{Extern}
use Rattle.wasm_store.specs.declared.store.Extern.TheVariants.{Func, Table, Memory, Global}
use Rattle.wasm_store.specs.declared.store.Instance.{Instance}
use Rattle.wasm_store.specs.declared.store.Store.{Store}
use Rattle.wasm_store.specs.declared.config.Outcome.{Outcome}
use Rattle.wasm_store.specs.declared.config.Outcome.TheVariants.{Running, Done, Trapped}
use Rattle.wasm_store.specs.Configuration.{Layer, Configuration}
use Rattle.wasm_store.specs.Memory.{overwritten}
use Rattle.wasm_store.specs.Control.{type_of_inst, IsFrameOf}
use Rattle.type_safety.specs.Shapes.{HaveTypes}
use Rattle.wasm_sessions.specs.Matching.{MatchImports}

-- ---- entering by the embedder

-- The configuration isn't running.
abbrev pub IsAtRest : Outcome → Type 0
IsAtRest Running = ⊥
IsAtRest (Done values) = Unit {0}
IsAtRest Trapped = Unit {0}

-- The configuration with this frame alone.
abbrev pub alone : Store → Layer → Configuration
alone s layer = record { store = s; frames = layer ∷ []; outcome = Running }

-- The function at an address is entered by the embedder with values of its parameter types, as the only frame. This is no
-- step (section 4.5.5).
abbrev pub InvokedAt : Configuration → (a : ℕ) → (values : List Val) → Configuration → Type 0
InvokedAt c a values d =
    (inst : FuncInst) × (layer : Layer) × IsAtRest c.outcome × (slice_get c.store.funcs a ≡ Some inst) × HaveTypes values (type_of_inst inst).params
    × IsFrameOf c.store.instances a values inst layer × (d ≡ alone c.store layer)

-- An extern is invoked: it is a function, which is entered (section 4.5.5).
abbrev pub Invoked : Configuration → Extern → (values : List Val) → Configuration → Type 0
Invoked c (Func a) values d = InvokedAt c a values d
Invoked c _ values d = ⊥

-- ---- constant expressions

-- A global's value. Where there is no global this is no promise.
abbrev pub global_value : Option GlobalInst → Val
global_value None = val.I32 0
global_value (Some g) = g.value

-- The value of the one instruction of a constant expression, where globals have these addresses (section 3.3.7). Of other
-- instructions this is no promise.
abbrev pub const_value : List GlobalInst → (addresses : List ℕ) → Instruction → Val
const_value globals addresses (tree.Const value) = value
const_value globals addresses (tree.GlobalGet x) = global_value (slice_get globals (slice_index addresses x))
const_value globals addresses _ = val.I32 0

-- The value of a constant expression.
abbrev pub value_of_code : List GlobalInst → (addresses : List ℕ) → Sequence → Val
value_of_code globals addresses Empty = val.I32 0
value_of_code globals addresses (Then i rest) = const_value globals addresses i

-- ---- allocation (section 4.5.3)

-- The address of the function that an extern is.
abbrev pub func_in_extern : Extern → Option ℕ
func_in_extern (Func a) = Some a
func_in_extern _ = None

-- The address of the table that an extern is.
abbrev pub table_in_extern : Extern → Option ℕ
table_in_extern (Table a) = Some a
table_in_extern _ = None

-- The address of the memory that an extern is.
abbrev pub memory_in_extern : Extern → Option ℕ
memory_in_extern (Memory a) = Some a
memory_in_extern _ = None

-- The address of the global that an extern is.
abbrev pub global_in_extern : Extern → Option ℕ
global_in_extern (Global a) = Some a
global_in_extern _ = None

-- The addresses of an instance's functions: the imported ones, and then the next free ones (section 4.5.3.8).
abbrev pub func_addresses : Store → Module → List Extern → List ℕ
func_addresses s m externs = filter_map func_in_extern externs ++ range_with_len (length s.funcs) (length m.funcs)

-- Those of its tables.
abbrev pub table_addresses : Store → Module → List Extern → List ℕ
table_addresses s m externs = filter_map table_in_extern externs ++ range_with_len (length s.tables) (length m.tables)

-- Those of its memories.
abbrev pub memory_addresses : Store → Module → List Extern → List ℕ
memory_addresses s m externs = filter_map memory_in_extern externs ++ range_with_len (length s.memories) (length m.memories)

-- Those of its globals.
abbrev pub global_addresses : Store → Module → List Extern → List ℕ
global_addresses s m externs = filter_map global_in_extern externs ++ range_with_len (length s.globals) (length m.globals)

-- What an export names, by its address (section 4.5.3.8).
abbrev pub exported_extern : Store → Module → List Extern → ExportKind → Extern
exported_extern s m externs (export.Func x) = Func (slice_index (func_addresses s m externs) x)
exported_extern s m externs (export.Table x) = Table (slice_index (table_addresses s m externs) x)
exported_extern s m externs (export.Memory x) = Memory (slice_index (memory_addresses s m externs) x)
exported_extern s m externs (export.Global x) = Global (slice_index (global_addresses s m externs) x)

-- The instance of a module with these externs for its imports (section 4.5.3.8). That it keeps the addresses of the functions
-- that its element segments name, and the module's own functions, is the project's own.
abbrev pub made_instance : Store → Module → List Extern → Instance
made_instance s m externs =
    record {
      types = m.types;
      code = m.funcs;
      funcs = func_addresses s m externs;
      tables = table_addresses s m externs;
      memories = memory_addresses s m externs;
      globals = global_addresses s m externs;
      exports = map (λ (e : Export). (e.name, exported_extern s m externs e.kind)) m.exports;
      elems = flat_map (λ (e : Elem). map (slice_index (func_addresses s m externs)) e.funcs) m.elems;
    }

-- A new function: the k-th of a module whose instance has this number (section 4.5.3.1).
abbrev pub made_func : Module → (instance : ℕ) → (ℕ × FuncOf) → FuncInst
made_func m instance numbered = Code (type_at m.types numbered.1.ty) instance numbered.0

-- A new table: empty entries (section 4.5.3.3).
abbrev pub made_table : Limits → TableInst
made_table l = record { entries = replicate l.min None; max = l.max }

-- A new memory: pages of zeros (section 4.5.3.4).
abbrev pub made_memory : Limits → MemInst
made_memory l = record { bytes = replicate (65536 * l.min) 0; max = l.max }

-- A new global: its expression's value, which may read the imported globals (sections 4.5.3.5 and 4.5.4).
abbrev pub made_global : Store → List Extern → GlobalOf → GlobalInst
made_global s externs g =
    record { ty = g.ty; value = value_of_code s.globals (filter_map global_in_extern externs) (sequence_of g.init) }

-- The store with all that an instantiation allocates after what was there (section 4.5.3.8).
abbrev pub allocated : Store → Module → List Extern → Store
allocated s m externs =
    record {
      funcs = s.funcs ++ map (made_func m (length s.instances)) (enumerate_from 0 m.funcs);
      tables = s.tables ++ map made_table m.tables;
      memories = s.memories ++ map made_memory m.memories;
      globals = s.globals ++ map (made_global s externs) m.globals;
      instances = s.instances ++ made_instance s m externs ∷ [];
    }

-- ---- segments (section 4.5.4)

-- Where a segment begins, in a store with the new instance.
abbrev pub offset_of : Store → Instance → List Instr → ℕ
offset_of s i code = number_of (value_of_code s.globals i.globals (sequence_of code))

-- A table has so many entries.
abbrev pub has_entries : Option TableInst → (count : ℕ) → Bool
has_entries None count = false
has_entries (Some t) count = nat_le count (length t.entries)

-- A memory has so many bytes.
abbrev pub has_bytes : Option MemInst → (count : ℕ) → Bool
has_bytes None count = false
has_bytes (Some m) count = nat_le count (length m.bytes)

-- An element segment lies in its table (section 4.5.4, step 9).
abbrev pub elem_fits : Store → Instance → Elem → Bool
elem_fits s i e = has_entries (slice_get s.tables (slice_index i.tables e.table)) (offset_of s i e.offset + length e.funcs)

-- A data segment lies in its memory (section 4.5.4, step 10).
abbrev pub segment_fits : Store → Instance → Segment → Bool
segment_fits s i e = has_bytes (slice_get s.memories (slice_index i.memories e.memory)) (offset_of s i e.offset + length e.bytes)

-- All segments lie in bounds.
abbrev pub segments_fit : Store → Instance → Module → Bool
segments_fit s i m = list_all (elem_fits s i) m.elems && list_all (segment_fits s i) m.segments

-- A list with its item at a place changed, if there is one.
abbrev pub changed : {A : Type 0} → (A → A) → List A → ℕ → Option A → List A
changed f items n None = items
changed f items n (Some x) = slice_set items n (f x)

-- A list with its item at a place changed.
abbrev pub changed_at : {A : Type 0} → (A → A) → List A → ℕ → List A
changed_at f items n = changed f items n (slice_get items n)

-- The store after an element segment is written (section 4.5.4, step 13).
abbrev pub with_elem : Instance → Store → Elem → Store
with_elem i s e =
    let entries : List (Option ℕ) = map (λ x. Some (slice_index i.funcs x)) e.funcs in
    record s { tables = changed_at (λ (t : TableInst). record t { entries = overwritten t.entries (offset_of s i e.offset) entries }) s.tables (slice_index i.tables e.table) }

-- The store after a data segment is written (section 4.5.4, step 14).
abbrev pub with_segment : Instance → Store → Segment → Store
with_segment i s e =
    record s { memories = changed_at (λ (m : MemInst). record m { bytes = overwritten m.bytes (offset_of s i e.offset) e.bytes }) s.memories (slice_index i.memories e.memory) }

-- The store after all segments are written, in their order: elements, and then data.
abbrev pub initialized : Store → Instance → Module → Store
initialized s i m = fold (with_segment i) (fold (with_elem i) s m.elems) m.segments

-- ---- instantiation

-- The start function is entered, where there is one (section 4.5.4, step 15).
abbrev pub Starts : Store → Instance → (start : Option ℕ) → Configuration → Type 0
Starts s i None d = d ≡ record { store = s; frames = []; outcome = Done [] }
Starts s i (Some x) d =
    (inst : FuncInst) × (layer : Layer) × (slice_get s.funcs (slice_index i.funcs x) ≡ Some inst)
    × IsFrameOf s.instances (slice_index i.funcs x) [] inst layer × (d ≡ alone s layer)

-- A module is instantiated with these externs for its imports: they match, and all segments lie in bounds; then all is
-- allocated, elements and then data are written, and the start function is entered (section 4.5.4). The number of the new
-- instance is that of the instances before.
pub record Instantiated (c : Configuration) (m : Module) (externs : List Extern) (d : Configuration) : Type 0 where
  pub at_rest : IsAtRest c.outcome
  pub matching : MatchImports c.store m externs
  pub in_bounds : IsTrue (segments_fit (allocated c.store m externs) (made_instance c.store m externs) m)
  pub starts : Starts (initialized (allocated c.store m externs) (made_instance c.store m externs) m) (made_instance c.store m externs) m.start d

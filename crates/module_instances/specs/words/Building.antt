-- Words for the parts of an instantiation, as the code makes them one by one.
use Rattle.std.specs.Prelude.{◌≡◌, ℕ, ◌+◌, ◌<◌, ◌≤◌, ◌++◌, All, Option, ◌&&◌, Bool, nat_le, sum_by, List, length, map, slice_get, slice_index, Some}
use Rattle.std.specs.List.{flat_map, range_with_len}
use Rattle.wasm_values.specs.Operators.{number_of}
use Rattle.wasm_values.specs.declared.number.ValType.TheVariants.{I32}
use Rattle.wasm_syntax.specs.declared.instr.Instr.{Instr}
use Rattle.wasm_syntax.specs.declared.module.GlobalType.{GlobalType}
use Rattle.wasm_syntax.specs.declared.module.Segment.{Segment}
use Rattle.wasm_syntax.specs.Trees.{sequence_of}
use Rattle.wasm_typing.specs.Valid.{const_type, tables_of, memories_of, globals_of}
use Rattle.wasm_store.specs.Memory.{pages_of, overwritten}
use Rattle.wasm_sessions.specs.Instantiation.{value_of_code, made_table, made_memory, has_entries, has_bytes, changed_at}
use Rattle.wasm_syntax.specs.declared.module.Limits.{Limits}
use Rattle.wasm_syntax.specs.declared.module.Export.{Export}
use Rattle.wasm_syntax.specs.declared.module.ExportKind.{ExportKind}
use Rattle.wasm_syntax.specs.declared.module.ExportKind.TheVariants as export
use Rattle.wasm_syntax.specs.declared.module.Elem.{Elem}
use Rattle.wasm_syntax.specs.declared.module.Module.{Module}
use Rattle.wasm_store.specs.declared.store.TableInst.{TableInst}
use Rattle.wasm_store.specs.declared.store.MemInst.{MemInst}
use Rattle.wasm_store.specs.declared.store.GlobalInst.{GlobalInst}
use Rattle.wasm_store.specs.declared.store.Extern.{Extern}
use Rattle.wasm_store.specs.declared.store.Extern.TheVariants.{Func, Table, Memory, Global}
use Rattle.wasm_store.specs.declared.store.Instance.{Instance}
use Rattle.wasm_store.specs.declared.store.Store.{Store}
use Rattle.wasm_reduce.specs.declared.policy.Policy.{Policy}
use Rattle.module_instances.specs.Refusals.{are_addresses}
use Rattle.module_instances.specs.declared.numbering.Numbering.{Numbering}

-- A numbering has these addresses.
pub record IsNumbering (n : Numbering) (fs ts ms gs : List ℕ) : Type 0 where
  pub funcs : n.funcs ≡ fs
  pub tables : n.tables ≡ ts
  pub memories : n.memories ≡ ms
  pub globals : n.globals ≡ gs

-- A store stays within the limits if what a module defines is added to it.
abbrev pub stays_within : Policy → Store → Module → Bool
stays_within policy s m =
    nat_le (sum_by pages_of s.memories + sum_by (λ (l : Limits). l.min) m.memories) policy.pages
    && nat_le (sum_by (λ (t : TableInst). length t.entries) s.tables + sum_by (λ (l : Limits). l.min) m.tables) 1000000
    && are_addresses (length s.funcs + length m.funcs) && are_addresses (length s.tables + length m.tables)
    && are_addresses (length s.memories + length m.memories) && are_addresses (length s.globals + length m.globals)
    && are_addresses (length s.instances + 1)

-- What an export names, where the parts of a module have these addresses (section 4.5.3.8).
abbrev pub named_extern : Numbering → ExportKind → Extern
named_extern n (export.Func x) = Func (slice_index n.funcs x)
named_extern n (export.Table x) = Table (slice_index n.tables x)
named_extern n (export.Memory x) = Memory (slice_index n.memories x)
named_extern n (export.Global x) = Global (slice_index n.globals x)

-- The instance of a module whose parts have these addresses (section 4.5.3.8).
abbrev pub numbered_instance : Numbering → Module → Instance
numbered_instance n m =
    record {
      types = m.types;
      code = m.funcs;
      funcs = n.funcs;
      tables = n.tables;
      memories = n.memories;
      globals = n.globals;
      exports = map (λ (e : Export). (e.name, named_extern n e.kind)) m.exports;
      elems = flat_map (λ (e : Elem). map (slice_index n.funcs) e.funcs) m.elems;
    }

-- ---- segments

-- An element segment lies in its table, where these are the tables and globals, with these addresses.
abbrev pub elem_fits_in : List TableInst → List GlobalInst → (tables globals : List ℕ) → Elem → Bool
elem_fits_in all values tables globals e =
    has_entries (slice_get all (slice_index tables e.table)) (number_of (value_of_code values globals (sequence_of e.offset)) + length e.funcs)

-- A data segment lies in its memory, likewise.
abbrev pub segment_fits_in : List MemInst → List GlobalInst → (memories globals : List ℕ) → Segment → Bool
segment_fits_in all values memories globals e =
    has_bytes (slice_get all (slice_index memories e.memory)) (number_of (value_of_code values globals (sequence_of e.offset)) + length e.bytes)

-- An element segment would lie in its table, once tables and globals are made.
abbrev pub elem_fits_before : Store → Module → Numbering → List GlobalInst → Elem → Bool
elem_fits_before s m n globals =
    elem_fits_in (s.tables ++ map made_table m.tables) (s.globals ++ globals) (n.tables ++ range_with_len (length s.tables) (length m.tables)) (n.globals ++ range_with_len (length s.globals) (length globals))

-- A data segment would lie in its memory, likewise.
abbrev pub segment_fits_before : Store → Module → Numbering → List GlobalInst → Segment → Bool
segment_fits_before s m n globals =
    segment_fits_in (s.memories ++ map made_memory m.memories) (s.globals ++ globals) (n.memories ++ range_with_len (length s.memories) (length m.memories)) (n.globals ++ range_with_len (length s.globals) (length globals))

-- The imported addresses exist, and with what is made they are as many as the module's tables, memories and globals.
pub record IsBefore (s : Store) (m : Module) (n : Numbering) (globals : List GlobalInst) : Type 0 where
  pub tables_there : All (λ a. a < length s.tables) n.tables
  pub memories_there : All (λ a. a < length s.memories) n.memories
  pub globals_there : All (λ a. a < length s.globals) n.globals
  pub tables_count : length (tables_of m) ≡ length n.tables + length m.tables
  pub memories_count : length (memories_of m) ≡ length n.memories + length m.memories
  pub globals_count : length (globals_of m) ≡ length n.globals + length globals

-- An expression is a constant of type i32 among some globals.
abbrev pub HasConstOffset : List Instr → Type 0
HasConstOffset code = (types : List GlobalType) × (const_type types code ≡ Some I32)

-- The tables after an element segment is written.
abbrev pub tables_written : Instance → List GlobalInst → List TableInst → Elem → List TableInst
tables_written i globals tables e =
    let entries : List (Option ℕ) = map (λ x. Some (slice_index i.funcs x)) e.funcs in
    let at = number_of (value_of_code globals i.globals (sequence_of e.offset)) in
    changed_at (λ (t : TableInst). record t { entries = overwritten t.entries at entries }) tables (slice_index i.tables e.table)

-- The memories after a data segment is written.
abbrev pub memories_written : Instance → List GlobalInst → List MemInst → Segment → List MemInst
memories_written i globals memories e =
    let at = number_of (value_of_code globals i.globals (sequence_of e.offset)) in
    changed_at (λ (m : MemInst). record m { bytes = overwritten m.bytes at e.bytes }) memories (slice_index i.memories e.memory)

-- ---- all addresses

-- All addresses of an instance, by those of what it imports.
abbrev pub full : Store → Module → Numbering → Numbering
full s m n =
    record {
      funcs = n.funcs ++ range_with_len (length s.funcs) (length m.funcs);
      tables = n.tables ++ range_with_len (length s.tables) (length m.tables);
      memories = n.memories ++ range_with_len (length s.memories) (length m.memories);
      globals = n.globals ++ range_with_len (length s.globals) (length m.globals);
    }

-- What a module defines can have addresses.
pub record HasRoom (s : Store) (m : Module) : Type 0 where
  pub funcs : length s.funcs + length m.funcs ≤ 4294967295
  pub tables : length s.tables + length m.tables ≤ 4294967295
  pub memories : length s.memories + length m.memories ≤ 4294967295
  pub globals : length s.globals + length m.globals ≤ 4294967295
  pub instances : length s.instances + 1 ≤ 4294967295

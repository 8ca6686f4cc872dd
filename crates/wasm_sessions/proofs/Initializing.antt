-- Segments that lie in bounds are written without a change of shape or size.
use Rattle.std.proofs.Common.{◌≡◌, ℕ, ◌+◌, ◌<◌, ◌≤◌, ◌&&◌, nat_le, Bool, true, false, IsTrue, List, [], ◌∷◌, Option, Some, None, IfSome, option_map, All, length, map, set, slice_get, refl, sym, ap, subst, ◌∙◌, leb-true}
use Rattle.std.specs.Prelude.{slice_index, fold}
use Rattle.std.specs.List.{list_all}
use Rattle.std.proofs.lemmas.List.{map-set, length-map}
use Rattle.std.proofs.lemmas.List.Elements.{All-map, All-head, All-tail}
use Rattle.wasm_values.specs.Operators.{number_of}
use Rattle.wasm_syntax.specs.declared.module.Elem.{Elem}
use Rattle.wasm_syntax.specs.declared.module.Segment.{Segment}
use Rattle.wasm_syntax.specs.declared.module.Module.{Module}
use Rattle.wasm_syntax.specs.Trees.{sequence_of}
use Rattle.wasm_store.specs.declared.store.TableInst.{TableInst}
use Rattle.wasm_store.specs.declared.store.MemInst.{MemInst}
use Rattle.wasm_store.specs.declared.store.GlobalInst.{GlobalInst}
use Rattle.wasm_store.specs.declared.store.Instance.{Instance}
use Rattle.wasm_store.specs.declared.store.Store.{Store}
use Rattle.wasm_store.specs.Memory.{overwritten}
use Rattle.type_safety.specs.Shapes.{Shape, shape_of}
use Rattle.type_safety.specs.Stores.{TableTyped, MemoryTyped, StoreTyped}
use Rattle.type_safety.proofs.Lists.{get-map, all-get, set_same}
use Rattle.type_safety.proofs.Memories.{length-overwritten, All-overwritten, overwritten_typed, with_bytes_typed, shape-with_bytes}
use Rattle.wasm_sessions.specs.Instantiation.{value_of_code, offset_of, has_entries, has_bytes, elem_fits, segment_fits, changed, with_elem, with_segment, initialized}
use Rattle.wasm_sessions.proofs.HostLaws.{shape-with_entries, with_entries_typed}
use Rattle.wasm_sessions.proofs.Importing.{get-map-is}

abbrev pub table_size : TableInst → ℕ
table_size t = length t.entries

abbrev pub memory_size : MemInst → ℕ
memory_size m = length m.bytes

-- A store is typed, with the shape, the globals and the sizes of another.
pub record Kept (s t : Store) : Type 0 where
  pub store : StoreTyped t
  pub shape : shape_of t ≡ shape_of s
  pub globals : t.globals ≡ s.globals
  pub tables : map table_size t.tables ≡ map table_size s.tables
  pub memories : map memory_size t.memories ≡ map memory_size s.memories

-- A size that is known is at least so much.
abbrev pub has_size : Option ℕ → ℕ → Bool
has_size None n = false
has_size (Some k) n = nat_le n k

pub entries-size : (o : Option TableInst) (n : ℕ) → has_entries o n ≡ has_size (option_map table_size o) n
entries-size None n = refl
entries-size (Some t) n = refl

pub bytes-size : (o : Option MemInst) (n : ℕ) → has_bytes o n ≡ has_size (option_map memory_size o) n
bytes-size None n = refl
bytes-size (Some m) n = refl

both : (a b : Bool) → IsTrue (a && b) → IsTrue a × IsTrue b
both true b h = (refl, h)
both false b h = cc

module _ (s : Store) (i : Instance) where
  same_offset : (t : Store) (code : _) → t.globals ≡ s.globals → offset_of t i code ≡ offset_of s i code
  same_offset t code h = ap (λ (gs : List GlobalInst). number_of (value_of_code gs i.globals (sequence_of code))) h

  same_entries : (t : Store) (a n : ℕ) → map table_size t.tables ≡ map table_size s.tables → has_entries (slice_get t.tables a) n ≡ has_entries (slice_get s.tables a) n
  same_entries t a n h =
      entries-size (slice_get t.tables a) n ∙ ap (λ o. has_size o n) (sym (get-map-is table_size t.tables a) ∙ ap (λ l. slice_get l a) h ∙ get-map-is table_size s.tables a)
      ∙ sym (entries-size (slice_get s.tables a) n)

  same_bytes : (t : Store) (a n : ℕ) → map memory_size t.memories ≡ map memory_size s.memories → has_bytes (slice_get t.memories a) n ≡ has_bytes (slice_get s.memories a) n
  same_bytes t a n h =
      bytes-size (slice_get t.memories a) n ∙ ap (λ o. has_size o n) (sym (get-map-is memory_size t.memories a) ∙ ap (λ l. slice_get l a) h ∙ get-map-is memory_size s.memories a)
      ∙ sym (bytes-size (slice_get s.memories a) n)

  -- ---- elements

  table_written : (t : Store) (a at : ℕ) (entries : List (Option ℕ)) (o : Option TableInst) → Kept s t → All (λ entry. IfSome entry (λ x. x < length (shape_of s).funcs)) entries → slice_get t.tables a ≡ o → IsTrue (has_entries o (at + length entries)) → Kept s (record t { tables = changed (λ (x : TableInst). record x { entries = overwritten x.entries at entries }) t.tables a o })
  table_written t a at entries None k all there h = cc
  table_written t a at entries (Some x) k all there h =
      let P : Shape → Option ℕ → Type 0 = λ sh entry. IfSome entry (λ y. y < length sh.funcs) in
      let long : at + length entries ≤ length x.entries = leb-true (at + length entries) (length x.entries) h in
      let new = overwritten x.entries at entries in
      let size : length new ≡ length x.entries = length-overwritten x.entries at entries long in
      let old = all-get (TableTyped (shape_of t)) t.tables a x k.store.tables there in
      let mine : All (P (shape_of t)) entries = subst (λ (sh : Shape). All (P sh) entries) (sym k.shape) all in
      let typed : TableTyped (shape_of t) (record x { entries = new }) =
      record {
        entries = All-overwritten (P (shape_of t)) x.entries at entries old.entries mine;
        few = subst (λ n. n ≤ 4294967295) (sym size) old.few;
        max = subst (λ n. IfSome x.max (λ max. n ≤ max)) (sym size) old.max;
      }
      in
      let sizes : map table_size (set t.tables a (record x { entries = new })) ≡ map table_size t.tables =
      map-set table_size t.tables a (record x { entries = new }) ∙ ap (set (map table_size t.tables) a) size
      ∙ set_same (map table_size t.tables) a (length x.entries) (get-map table_size t.tables a x there)
      in
      record {
        store = with_entries_typed t a x new k.store typed;
        shape = shape-with_entries t a x new ∙ k.shape;
        globals = k.globals;
        tables = sizes ∙ k.tables;
        memories = k.memories;
      }

  elem_written : (t : Store) (e : Elem) → Kept s t → All (λ x. slice_index i.funcs x < length (shape_of s).funcs) e.funcs → IsTrue (elem_fits s i e) → Kept s (with_elem i t e)
  elem_written t e k all h =
      let a = slice_index i.tables e.table in
      let entries : List (Option ℕ) = map (λ x. Some (slice_index i.funcs x)) e.funcs in
      let count : length entries ≡ length e.funcs = length-map e.funcs (λ x. Some (slice_index i.funcs x)) in
      let fits : has_entries (slice_get t.tables a) (offset_of t i e.offset + length entries) ≡ true =
      ap (λ n. has_entries (slice_get t.tables a) (n + length entries)) (same_offset t e.offset k.globals)
      ∙ ap (λ n. has_entries (slice_get t.tables a) (offset_of s i e.offset + n)) count
      ∙ same_entries t a (offset_of s i e.offset + length e.funcs) k.tables ∙ h
      in
      table_written t a (offset_of t i e.offset) entries (slice_get t.tables a) k (All-map (λ entry. IfSome entry (λ x. x < length (shape_of s).funcs)) (λ x. Some (slice_index i.funcs x)) e.funcs all) refl fits

  elems_written : (t : Store) (es : List Elem) → Kept s t → All (λ (e : Elem). All (λ x. slice_index i.funcs x < length (shape_of s).funcs) e.funcs) es → IsTrue (list_all (elem_fits s i) es) → Kept s (fold (with_elem i) t es)
  elems_written t [] k all h = k
  elems_written t (e ∷ es) k all h =
      let parts = both (elem_fits s i e) (list_all (elem_fits s i) es) h in
      let P : Elem → Type 0 = λ e. All (λ x. slice_index i.funcs x < length (shape_of s).funcs) e.funcs in
      elems_written (with_elem i t e) es (elem_written t e k (All-head P e es all) parts.0) (All-tail P e es all) parts.1

  -- ---- data

  memory_written : (t : Store) (a at : ℕ) (bytes : List ℕ) (o : Option MemInst) → Kept s t → All (λ b. b < 256) bytes → slice_get t.memories a ≡ o → IsTrue (has_bytes o (at + length bytes)) → Kept s (record t { memories = changed (λ (x : MemInst). record x { bytes = overwritten x.bytes at bytes }) t.memories a o })
  memory_written t a at bytes None k all there h = cc
  memory_written t a at bytes (Some x) k all there h =
      let long : at + length bytes ≤ length x.bytes = leb-true (at + length bytes) (length x.bytes) h in
      let new = overwritten x.bytes at bytes in
      let old = all-get MemoryTyped t.memories a x k.store.memories there in
      let sizes : map memory_size (set t.memories a (record x { bytes = new })) ≡ map memory_size t.memories =
      map-set memory_size t.memories a (record x { bytes = new }) ∙ ap (set (map memory_size t.memories) a) (length-overwritten x.bytes at bytes long)
      ∙ set_same (map memory_size t.memories) a (length x.bytes) (get-map memory_size t.memories a x there)
      in
      record {
        store = with_bytes_typed t a x new k.store (overwritten_typed x at bytes old all long);
        shape = shape-with_bytes t a x new ∙ k.shape;
        globals = k.globals;
        tables = k.tables;
        memories = sizes ∙ k.memories;
      }

  segment_written : (t : Store) (e : Segment) → Kept s t → All (λ b. b < 256) e.bytes → IsTrue (segment_fits s i e) → Kept s (with_segment i t e)
  segment_written t e k all h =
      let a = slice_index i.memories e.memory in
      let fits : has_bytes (slice_get t.memories a) (offset_of t i e.offset + length e.bytes) ≡ true =
      ap (λ n. has_bytes (slice_get t.memories a) (n + length e.bytes)) (same_offset t e.offset k.globals)
      ∙ same_bytes t a (offset_of s i e.offset + length e.bytes) k.memories ∙ h
      in
      memory_written t a (offset_of t i e.offset) e.bytes (slice_get t.memories a) k all refl fits

  segments_written : (t : Store) (es : List Segment) → Kept s t → All (λ (e : Segment). All (λ b. b < 256) e.bytes) es → IsTrue (list_all (segment_fits s i) es) → Kept s (fold (with_segment i) t es)
  segments_written t [] k all h = k
  segments_written t (e ∷ es) k all h =
      let parts = both (segment_fits s i e) (list_all (segment_fits s i) es) h in
      let P : Segment → Type 0 = λ e. All (λ b. b < 256) e.bytes in
      segments_written (with_segment i t e) es (segment_written t e k (All-head P e es all) parts.0) (All-tail P e es all) parts.1

  pub initialized_typed : (m : Module) → StoreTyped s → All (λ (e : Elem). All (λ x. slice_index i.funcs x < length (shape_of s).funcs) e.funcs) m.elems → All (λ (e : Segment). All (λ b. b < 256) e.bytes) m.segments → IsTrue (list_all (elem_fits s i) m.elems && list_all (segment_fits s i) m.segments) → Kept s (initialized s i m)
  initialized_typed m store elems segments h =
      let parts = both (list_all (elem_fits s i) m.elems) (list_all (segment_fits s i) m.segments) h in
      let first : Kept s s = record { store = store; shape = refl; globals = refl; tables = refl; memories = refl } in
      segments_written (fold (with_elem i) s m.elems) m.segments (elems_written s m.elems first elems parts.0) segments parts.1

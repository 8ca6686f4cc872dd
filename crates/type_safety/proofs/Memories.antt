-- Writes and growths keep stores typed, and change no shape.
use Rattle.std.proofs.Common.{◌≡◌, ℕ, zero, suc, ◌+◌, ◌*◌, ◌/◌, ◌%◌, ◌<◌, ◌≤◌, ◌&&◌, nat_le, Bool, true, false, IsTrue, List, ◌++◌, Option, Some, None, IfSome, All, length, take, drop, map, slice_get, replicate, refl, sym, ap, subst, ◌∙◌, arith, length-append, length-take, length-drop, leb-true}
use Rattle.std.proofs.lemmas.List.{length-set, length-replicate, map-set}
use Rattle.std.proofs.lemmas.List.Elements.{All-nil, All-cons, All-append, All-take, All-drop, All-set, All-replicate}
use Rattle.wasm_values.specs.declared.number.Val.{Val}
use Rattle.wasm_values.specs.Operators.{type_of, bytes_of_number}
use Rattle.wasm_syntax.specs.declared.module.GlobalType.{GlobalType}
use Rattle.wasm_typing.specs.Valid.{ValInRange}
use Rattle.wasm_store.specs.declared.store.MemInst.{MemInst}
use Rattle.wasm_store.specs.declared.store.GlobalInst.{GlobalInst}
use Rattle.wasm_store.specs.declared.store.Store.{Store}
use Rattle.wasm_store.specs.Numeric.{with_global}
use Rattle.wasm_values.specs.Types.{is_at_most}
use Rattle.wasm_store.specs.Memory.{items_at, overwritten, is_within, pages_of, with_bytes, can_grow, grown_bytes}
use Rattle.type_safety.specs.Shapes.{Shape, shape_of}
use Rattle.type_safety.specs.Stores.{FuncInstTyped, TableTyped, MemoryTyped, GlobalTyped, InstanceTyped, StoreTyped}
use Rattle.type_safety.proofs.Lists.{get-map, set_same}

-- ---- bytes

pub bytes_of_number-bytes : (k n : ℕ) → All (λ b. b < 256) (bytes_of_number k n)
bytes_of_number-bytes zero n = All-nil (λ b. b < 256)
bytes_of_number-bytes (suc k) n = All-cons (λ b. b < 256) (n % 256) (bytes_of_number k (n / 256)) (grind arith) (bytes_of_number-bytes k (n / 256))

pub length-items_at : (bytes : List ℕ) (at width : ℕ) → IsTrue (is_within bytes at width) → length (items_at bytes at width) ≡ width
length-items_at bytes at width h = let k : at + width ≤ length bytes = leb-true (at + width) (length bytes) h in grind (arith, length-take, length-drop)

pub length-overwritten : {A : Type 0} → (items : List A) (at : ℕ) (others : List A) → at + length others ≤ length items → length (overwritten items at others) ≡ length items
length-overwritten items at others h =
    grind (arith, length-append (take at items ++ others) (drop (at + length others) items), length-append (take at items) others, length-take, length-drop)

pub All-overwritten : {A : Type 0} → (P : A → Type 0) (items : List A) (at : ℕ) (others : List A) → All P items → All P others → All P (overwritten items at others)
All-overwritten P items at others all new =
    All-append P (take at items ++ others) (drop (at + length others) items) (All-append P (take at items) others (All-take P at items all) new) (All-drop P (at + length others) items all)

-- ---- a memory

pub overwritten_typed : (mem : MemInst) (at : ℕ) (others : List ℕ) → MemoryTyped mem → All (λ b. b < 256) others → at + length others ≤ length mem.bytes → MemoryTyped (record mem { bytes = overwritten mem.bytes at others })
overwritten_typed mem at others t all h =
    record {
      bytes = All-overwritten (λ b. b < 256) mem.bytes at others t.bytes all;
      pages = t.pages;
      whole = length-overwritten mem.bytes at others h ∙ t.whole;
      few = t.few;
      max = t.max;
    }

pub pages_are : (mem : MemInst) (t : MemoryTyped mem) → pages_of mem ≡ t.pages
pages_are mem t = ap (λ n. n / 65536) t.whole ∙ grind arith

both : (a b : Bool) → IsTrue (a && b) → IsTrue a × IsTrue b
both true b h = (refl, h)
both false b h = cc

at_most : (n : ℕ) (max : Option ℕ) → IsTrue (is_at_most n max) → IfSome max (λ m. n ≤ m)
at_most n None h = tt
at_most n (Some m) h = leb-true n m h

pub grown_typed : (mem : MemInst) (pages : ℕ) → MemoryTyped mem → IsTrue (can_grow mem pages) → MemoryTyped (record mem { bytes = grown_bytes mem pages })
grown_typed mem pages t h =
    let P : ℕ → Type 0 = λ b. b < 256 in
    let parts = both (nat_le (pages_of mem + pages) 65536) (is_at_most (pages_of mem + pages) mem.max) h in
    let few : pages_of mem + pages ≤ 65536 = leb-true (pages_of mem + pages) 65536 parts.0 in
    let bound : IfSome mem.max (λ m. pages_of mem + pages ≤ m) = at_most (pages_of mem + pages) mem.max parts.1 in
    record {
      bytes = All-append P mem.bytes (replicate (65536 * pages) 0) t.bytes (All-replicate P (65536 * pages) 0 (omega arith));
      pages = t.pages + pages;
      whole =
          length-append mem.bytes (replicate (65536 * pages) 0) ∙ ap (λ n. length mem.bytes + n) (length-replicate (65536 * pages) 0) ∙ omega (arith, t.whole);
      few = subst (λ n. n + pages ≤ 65536) (pages_are mem t) few;
      max = subst (λ n. IfSome mem.max (λ m. n + pages ≤ m)) (pages_are mem t) bound;
    }

-- ---- a store

pub shape-with_bytes : (s : Store) (m : ℕ) (mem : MemInst) (bytes : List ℕ) → shape_of (with_bytes s m mem bytes) ≡ shape_of s
shape-with_bytes s m mem bytes =
    let make : ℕ → Shape = λ n. record { funcs = s.funcs; instances = s.instances; globals = map (λ (g : GlobalInst). g.ty) s.globals; tables = length s.tables; memories = n } in
    ap make (length-set s.memories m (record mem { bytes = bytes }))

pub with_bytes_typed : (s : Store) (m : ℕ) (mem : MemInst) (bytes : List ℕ) → StoreTyped s → MemoryTyped (record mem { bytes = bytes }) → StoreTyped (with_bytes s m mem bytes)
with_bytes_typed s m mem bytes store t =
    let same = sym (shape-with_bytes s m mem bytes) in
    record {
      funcs = subst (λ (x : Shape). All (FuncInstTyped x) s.funcs) same store.funcs;
      tables = subst (λ (x : Shape). All (TableTyped x) s.tables) same store.tables;
      memories = All-set MemoryTyped s.memories m (record mem { bytes = bytes }) t store.memories;
      globals = store.globals;
      instances = subst (λ (x : Shape). All (InstanceTyped x) s.instances) same store.instances;
    }

pub shape-with_global : (s : Store) (a : ℕ) (g : GlobalInst) (v : Val) → slice_get s.globals a ≡ Some g → shape_of (with_global s a g v) ≡ shape_of s
shape-with_global s a g v there =
    let kind : GlobalInst → GlobalType = λ x. x.ty in
    let make : List GlobalType → Shape = λ gs. record { funcs = s.funcs; instances = s.instances; globals = gs; tables = length s.tables; memories = length s.memories } in
    ap make (map-set kind s.globals a (record g { value = v }) ∙ set_same (map kind s.globals) a g.ty (get-map kind s.globals a g there))

pub with_global_typed : (s : Store) (a : ℕ) (g : GlobalInst) (v : Val) → slice_get s.globals a ≡ Some g → StoreTyped s → type_of v ≡ g.ty.value → ValInRange v → StoreTyped (with_global s a g v)
with_global_typed s a g v there store fits ok =
    let same = sym (shape-with_global s a g v there) in
    record {
      funcs = subst (λ (x : Shape). All (FuncInstTyped x) s.funcs) same store.funcs;
      tables = subst (λ (x : Shape). All (TableTyped x) s.tables) same store.tables;
      memories = store.memories;
      globals = All-set GlobalTyped s.globals a (record g { value = v }) (fits, ok) store.globals;
      instances = subst (λ (x : Shape). All (InstanceTyped x) s.instances) same store.instances;
    }

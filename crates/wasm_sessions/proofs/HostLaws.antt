-- What hosts and the embedder do keeps configurations typed.
use Rattle.std.proofs.Common.{◌≡◌, ℕ, ◌+◌, ◌<◌, ◌≤◌, ◌&&◌, nat_le, Bool, true, false, IsTrue, List, [], ◌∷◌, ◌++◌, Option, Some, None, IfSome, All, inl, inr, length, map, set, reverse, replicate, slice_get, refl, sym, ap, subst, ◌∙◌, arith, length-append, leb-true, append-nil}
use Rattle.std.proofs.lemmas.List.{length-set, length-replicate, reverse-reverse}
use Rattle.std.proofs.lemmas.List.Elements.{All-nil, All-cons, All-append, All-head, All-set, All-replicate}
use Rattle.std.proofs.lemmas.Option.{slice_get_within}
use Rattle.wasm_values.specs.declared.number.Val.{Val}
use Rattle.wasm_values.specs.Operators.{type_of}
use Rattle.wasm_syntax.specs.declared.module.FuncType.{FuncType}
use Rattle.wasm_typing.specs.Typing.{Types}
use Rattle.wasm_typing.specs.Valid.{ValInRange}
use Rattle.wasm_store.specs.declared.store.FuncInst.{FuncInst}
use Rattle.wasm_store.specs.declared.store.FuncInst.TheVariants.{Code, Host}
use Rattle.wasm_store.specs.declared.store.TableInst.{TableInst}
use Rattle.wasm_store.specs.declared.store.MemInst.{MemInst}
use Rattle.wasm_store.specs.declared.store.GlobalInst.{GlobalInst}
use Rattle.wasm_store.specs.declared.store.Extern.{Extern}
use Rattle.wasm_store.specs.declared.store.Extern.TheVariants.{Func, Table, Memory, Global}
use Rattle.wasm_store.specs.declared.store.Store.{Store}
use Rattle.wasm_store.specs.declared.config.Outcome.{Outcome}
use Rattle.wasm_store.specs.declared.config.Outcome.TheVariants.{Running, Done, Trapped}
use Rattle.wasm_store.specs.Configuration.{Layer, OfCode, OfHost, Configuration}
use Rattle.wasm_values.specs.Types.{is_at_most}
use Rattle.wasm_store.specs.Memory.{with_bytes, grown_bytes}
use Rattle.wasm_store.specs.Control.{type_of_inst, IsFrameOf}
use Rattle.type_safety.specs.Shapes.{types, HaveTypes, Shape, shape_of, ExternExists}
use Rattle.type_safety.specs.Stores.{FuncInstTyped, TableTyped, MemoryTyped, InstanceTyped, StoreTyped}
use Rattle.type_safety.specs.Frames.{HostTyped, LayerTyped, LayersTyped}
use Rattle.type_safety.specs.Typed.{OutcomeTyped, Typed}
use Rattle.type_safety.proofs.Lists.{all-get, same_some, map-reverse, All-reverse}
use Rattle.type_safety.proofs.Memories.{with_bytes_typed, shape-with_bytes, grown_typed, with_global_typed, shape-with_global}
use Rattle.type_safety.proofs.Frames.{given_typed, trapped_typed}
use Rattle.type_safety.proofs.Calling.{entered_typed}
use Rattle.wasm_sessions.specs.Pool.{IsExported, IsHostFunc, InPool, IsSharedByTable, InReach}
use Rattle.wasm_sessions.specs.Instantiation.{IsAtRest, Invoked}
use Rattle.wasm_sessions.specs.Hosts.{HostAdded, HasHostOnTop, Write, Byte, Value, Entry, Grow, GrowTable, with_entries, can_grow_table, IsEntryInReach, WritesStore, HostMakes, HostCall, HostReturn, HostTrap}
use Rattle.wasm_sessions.proofs.Extending.{all-map, Extends, func_typed_still, table_typed_still, instance_typed_still}

-- ---- what is in the pool exists

pub exported_exists : (s : Store) → StoreTyped s → (e : Extern) → IsExported s e → ExternExists (shape_of s) e
exported_exists s store e x =
    let i = all-get (InstanceTyped (shape_of s)) s.instances x.number x.instance store.instances x.there in
    all-get (λ y. ExternExists (shape_of s) y.1) x.instance.exports x.place (x.name, e) i.exports x.export_there

host_exists : (s : Store) (e : Extern) → IsHostFunc s e → ExternExists (shape_of s) e
host_exists s (Func a) h = slice_get_within s.funcs a (Host h.0) h.1
host_exists s (Table a) h = absurd h
host_exists s (Memory a) h = absurd h
host_exists s (Global a) h = absurd h

pub pool_exists : (s : Store) → StoreTyped s → (e : Extern) → InPool s e → ExternExists (shape_of s) e
pool_exists s store e h = elim h [ inl x ↦ exported_exists s store e x | inr x ↦ host_exists s e x ]

reach_exists : (s : Store) → StoreTyped s → (a : ℕ) → InReach s a → a < length s.funcs
reach_exists s store a h =
    let shared : IsSharedByTable s a → a < length s.funcs =
    λ x. let i = all-get (InstanceTyped (shape_of s)) s.instances x.number x.instance store.instances x.there in all-get (λ b. b < length s.funcs) x.instance.elems x.place a i.elems x.named
    in
    elim h [ inl x ↦ pool_exists s store (Func a) x | inr x ↦ shared x ]

-- ---- frames

-- The frame of a function, entered with values of its parameter types, is typed.
pub frame_typed : (s : Store) → StoreTyped s → (a : ℕ) (values : List Val) (inst : FuncInst) (layer : Layer) → slice_get s.funcs a ≡ Some inst → HaveTypes values (type_of_inst inst).params → IsFrameOf s.instances a values inst layer → LayerTyped (shape_of s) layer [] (reverse (type_of_inst inst).results)
frame_typed s store a values (Code ty instance code) layer there have h =
    let back : HaveTypes (reverse (reverse values)) ty.params = subst (λ v. HaveTypes v ty.params) (sym (reverse-reverse values)) have in
    subst (λ l. LayerTyped (shape_of s) l [] (reverse ty.results)) (sym h.2) (entered_typed s store a ty instance code h.0 (reverse values) there h.1 back)
frame_typed s store a values (Host ty) layer there have h =
    let host : HostTyped (shape_of s) a values [] (reverse ty.results) =
    record { ty = ty; func_there = there; results_are = refl; arguments = have; ranges = All-nil ValInRange }
    in
    subst (λ l. LayerTyped (shape_of s) l [] (reverse ty.results)) (sym h) host

-- A host's frame on top may be given anything.
pub any_given : (s : Shape) (frames : List Layer) (given : Types) → HasHostOnTop frames → LayersTyped s frames [] → LayersTyped s frames given
any_given s [] given top ls = absurd top
any_given s (OfCode f ∷ below) given top ls = absurd top
any_given s (OfHost func args values ∷ below) given top ls = ls

runs : (outcome : Outcome) (layer : Layer) (frames : List Layer) → outcome ≡ Running → OutcomeTyped outcome (layer ∷ frames)
runs outcome layer frames h = subst (λ o. OutcomeTyped o (layer ∷ frames)) (sym h) tt

pub invoked_typed : (c d : Configuration) (e : Extern) (values : List Val) → Typed c → Invoked c e values d → Typed d
invoked_typed c d (Func a) values t h =
    let frame = frame_typed c.store t.store a values h.0 h.1 h.3 h.4 h.5 in
    subst Typed (sym h.6) (record { store = t.store; outcome = tt; frames = (reverse (type_of_inst h.0).results, frame, tt) })
invoked_typed c d (Table a) values t h = absurd h
invoked_typed c d (Memory a) values t h = absurd h
invoked_typed c d (Global a) values t h = absurd h

pub call_typed : (c d : Configuration) (a : ℕ) (values : List Val) → Typed c → HostCall c a values d → Typed d
call_typed c d a values t h =
    let results = reverse (type_of_inst h.0).results in
    let frame = frame_typed c.store t.store a values h.0 h.1 h.5 h.6 h.7 in
    let below = any_given (shape_of c.store) c.frames results h.3 t.frames in
    subst Typed (sym h.8) (record { store = t.store; outcome = runs c.outcome h.1 c.frames h.2; frames = (results, frame, below) })

pub return_typed : (c d : Configuration) (values : List Val) → Typed c → HostReturn c values d → Typed d
return_typed c d values t h =
    let layers = subst (λ l. LayersTyped (shape_of c.store) l []) h.6 t.frames in
    let host = layers.1 in
    let same : Host host.ty ≡ Host h.4 = same_some (slice_get c.store.funcs h.0) (Host host.ty) (Host h.4) host.func_there h.7 in
    let ty : type_of_inst (Host host.ty) ≡ type_of_inst (Host h.4) = ap type_of_inst same in
    let is : types (reverse values) ≡ layers.0 =
    map-reverse type_of values ∙ ap reverse h.8.0 ∙ ap (λ (x : FuncType). reverse x.results) (sym ty) ∙ sym host.results_are
    in
    subst Typed (sym h.9) (given_typed c.store t.store (reverse values) h.3 layers.0 is (All-reverse ValInRange values h.8.1) layers.2)

pub trap_typed : (c d : Configuration) → Typed c → HostTrap c d → Typed d
trap_typed c d t h = subst Typed (sym h.2) (trapped_typed c.store t.store)

-- ---- writes

-- The same frames over another store of the same shape.
with_store : (c : Configuration) (s : Store) → Typed c → StoreTyped s → shape_of s ≡ shape_of c.store → Typed (record c { store = s })
with_store c s t store same =
    record { store = store; outcome = t.outcome; frames = subst (λ (x : Shape). LayersTyped x c.frames []) (sym same) t.frames }

pub shape-with_entries : (s : Store) (a : ℕ) (table : TableInst) (entries : List (Option ℕ)) → shape_of (with_entries s a table entries) ≡ shape_of s
shape-with_entries s a table entries =
    let make : ℕ → Shape = λ n. record { funcs = s.funcs; instances = s.instances; globals = map (λ (g : GlobalInst). g.ty) s.globals; tables = n; memories = length s.memories } in
    ap make (length-set s.tables a (record table { entries = entries }))

pub with_entries_typed : (s : Store) (a : ℕ) (table : TableInst) (entries : List (Option ℕ)) → StoreTyped s → TableTyped (shape_of s) (record table { entries = entries }) → StoreTyped (with_entries s a table entries)
with_entries_typed s a table entries store t =
    let same = sym (shape-with_entries s a table entries) in
    record {
      funcs = subst (λ (x : Shape). All (FuncInstTyped x) s.funcs) same store.funcs;
      tables = subst (λ (x : Shape). All (TableTyped x) (set s.tables a (record table { entries = entries }))) same (All-set (TableTyped (shape_of s)) s.tables a (record table { entries = entries }) t store.tables);
      memories = store.memories;
      globals = store.globals;
      instances = subst (λ (x : Shape). All (InstanceTyped x) s.instances) same store.instances;
    }

byte_typed : (mem : MemInst) (at value : ℕ) → MemoryTyped mem → value < 256 → MemoryTyped (record mem { bytes = set mem.bytes at value })
byte_typed mem at value t h =
    record {
      bytes = All-set (λ b. b < 256) mem.bytes at value h t.bytes;
      pages = t.pages;
      whole = length-set mem.bytes at value ∙ t.whole;
      few = t.few;
      max = t.max;
    }

entry_exists : (s : Store) → StoreTyped s → (entry : Option ℕ) → IsEntryInReach s entry → IfSome entry (λ a. a < length s.funcs)
entry_exists s store None h = tt
entry_exists s store (Some a) h = reach_exists s store a h

entry_typed : (s : Store) (table : TableInst) (at : ℕ) (entry : Option ℕ) → TableTyped (shape_of s) table → IfSome entry (λ a. a < length s.funcs) → TableTyped (shape_of s) (record table { entries = set table.entries at entry })
entry_typed s table at entry t h =
    record {
      entries = All-set (λ entry. IfSome entry (λ a. a < length s.funcs)) table.entries at entry h t.entries;
      few = subst (λ n. n ≤ 4294967295) (sym (length-set table.entries at entry)) t.few;
      max = subst (λ n. IfSome table.max (λ max. n ≤ max)) (sym (length-set table.entries at entry)) t.max;
    }

both : (a b : Bool) → IsTrue (a && b) → IsTrue a × IsTrue b
both true b h = (refl, h)
both false b h = cc

at_most : (n : ℕ) (max : Option ℕ) → IsTrue (is_at_most n max) → IfSome max (λ m. n ≤ m)
at_most n None h = tt
at_most n (Some m) h = leb-true n m h

more_entries_typed : (s : Store) (table : TableInst) (more : ℕ) → TableTyped (shape_of s) table → IsTrue (can_grow_table table more) → TableTyped (shape_of s) (record table { entries = table.entries ++ replicate more None })
more_entries_typed s table more t h =
    let parts = both (nat_le (length table.entries + more) 4294967295) (is_at_most (length table.entries + more) table.max) h in
    let long : length table.entries + more ≡ length (table.entries ++ replicate more None) =
    sym (length-append table.entries (replicate more None) ∙ ap (λ n. length table.entries + n) (length-replicate more None))
    in
    let P : Option ℕ → Type 0 = λ entry. IfSome entry (λ a. a < length s.funcs) in
    record {
      entries = All-append P table.entries (replicate more None) t.entries (All-replicate P more None tt);
      few = subst (λ n. n ≤ 4294967295) long (leb-true (length table.entries + more) 4294967295 parts.0);
      max = subst (λ n. IfSome table.max (λ max. n ≤ max)) long (at_most (length table.entries + more) table.max parts.1);
    }

one_value : (v : Val) (g : GlobalInst) → HaveTypes (v ∷ []) (g.ty.value ∷ []) → (type_of v ≡ g.ty.value) × ValInRange v
one_value v g h = let e : type_of v ≡ g.ty.value = cc h.0 in (e, All-head ValInRange v [] h.1)

record Same (s t : Store) : Type 0 where
  store : StoreTyped t
  shape : shape_of t ≡ shape_of s

along : (s t u : Store) → t ≡ u → Same s u → Same s t
along s t u e h = subst (Same s) (sym e) h

written : (s t : Store) (write : Write) → StoreTyped s → WritesStore s write t → Same s t
written s t (Byte m at value) store h =
    let mem = all-get MemoryTyped s.memories m h.0 store.memories h.2 in
    let bytes = set h.0.bytes at value in
    along s t (with_bytes s m h.0 bytes) h.5 (record { store = with_bytes_typed s m h.0 bytes store (byte_typed h.0 at value mem h.4); shape = shape-with_bytes s m h.0 bytes })
written s t (Value a value) store h =
    let v = one_value value h.0 h.4 in
    along s t _ h.5 (record { store = with_global_typed s a h.0 value h.2 store v.0 v.1; shape = shape-with_global s a h.0 value h.2 })
written s t (Entry a at entry) store h =
    let table = all-get (TableTyped (shape_of s)) s.tables a h.0 store.tables h.2 in
    let entries = set h.0.entries at entry in
    along s t (with_entries s a h.0 entries) h.5 (
    record { store = with_entries_typed s a h.0 entries store (entry_typed s h.0 at entry table (entry_exists s store entry h.4)); shape = shape-with_entries s a h.0 entries }
    )
written s t (Grow m pages) store h =
    let mem = all-get MemoryTyped s.memories m h.0 store.memories h.2 in
    let bytes = grown_bytes h.0 pages in
    along s t (with_bytes s m h.0 bytes) h.4 (record { store = with_bytes_typed s m h.0 bytes store (grown_typed h.0 pages mem h.3); shape = shape-with_bytes s m h.0 bytes })
written s t (GrowTable a more) store h =
    let table = all-get (TableTyped (shape_of s)) s.tables a h.0 store.tables h.2 in
    let entries = h.0.entries ++ replicate more None in
    along s t (with_entries s a h.0 entries) h.4 (
    record { store = with_entries_typed s a h.0 entries store (more_entries_typed s h.0 more table h.3); shape = shape-with_entries s a h.0 entries }
    )

pub write_typed : (c d : Configuration) (write : Write) → Typed c → HostMakes c write d → Typed d
write_typed c d write t h =
    let w = written c.store h.0 write t.store h.2 in
    subst Typed (sym h.3) (with_store c h.0 t w.store w.shape)

-- ---- a new host function

pub no_frames : (outcome : Outcome) (frames : List Layer) → IsAtRest outcome → OutcomeTyped outcome frames → frames ≡ []
no_frames Running frames rest t = absurd rest
no_frames (Done values) frames rest t = t.0
no_frames Trapped frames rest t = t

extends_by_host : (s : Store) (ty : FuncType) → Extends (shape_of s) (shape_of (record s { funcs = s.funcs ++ Host ty ∷ [] }))
extends_by_host s ty =
    record {
      funcs_more = Host ty ∷ [];
      funcs = refl;
      instances_more = [];
      instances = sym (append-nil s.instances);
      globals_more = [];
      globals = sym (append-nil (map (λ (g : GlobalInst). g.ty) s.globals));
      tables = omega arith;
      memories = omega arith;
    }

pub added_typed : (c d : Configuration) (ty : FuncType) → Typed c → HostAdded c ty d → Typed d
added_typed c d ty t h =
    let s = c.store in
    let old = shape_of s in
    let new = shape_of (record s { funcs = s.funcs ++ Host ty ∷ [] }) in
    let e = extends_by_host s ty in
    let store : StoreTyped (record s { funcs = s.funcs ++ Host ty ∷ [] }) =
    record {
      funcs = All-append (FuncInstTyped new) s.funcs (Host ty ∷ []) (all-map (FuncInstTyped old) (FuncInstTyped new) s.funcs (func_typed_still old new e) t.store.funcs) (All-cons (FuncInstTyped new) (Host ty) [] h.1 (All-nil (FuncInstTyped new)));
      tables = all-map (TableTyped old) (TableTyped new) s.tables (table_typed_still old new e) t.store.tables;
      memories = t.store.memories;
      globals = t.store.globals;
      instances = all-map (InstanceTyped old) (InstanceTyped new) s.instances (instance_typed_still old new e) t.store.instances;
    }
    in
    let none : c.frames ≡ [] = no_frames c.outcome c.frames h.0 t.outcome in
    let frames : LayersTyped new c.frames [] = subst (λ l. LayersTyped new l []) (sym none) tt in
    subst Typed (sym h.2) (record { store = store; outcome = t.outcome; frames = frames })

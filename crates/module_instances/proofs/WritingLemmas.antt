-- Items that are written into a list, one by one, and lists of which one item is changed.
use Rattle.std.proofs.Common.{◌≡◌, ℕ, zero, suc, ◌+◌, ◌*◌, ◌-◌, ◌<◌, ◌≤◌, ◌&&◌, nat_le, Bool, true, false, IsTrue, List, [], ◌∷◌, ◌++◌, Option, Some, None, length, map, take, drop, set, get_or, slice_get, refl, sym, ap, subst, ◌∙◌, arith, append_assoc, add-one, drop-cons, leb-true}
use Rattle.std.specs.Prelude.{slice_index, fold}
use Rattle.std.specs.List.{list_all, range_with_len}
use Rattle.std.proofs.lemmas.List.{take_more, map-append, map-set, length-map, length-append, length-take-le, length-replicate}
use Rattle.std.proofs.Math.Seq.{set-append_seam}
use Rattle.std.proofs.lemmas.List.Sums.{fold_more}
use Rattle.wasm_values.specs.declared.number.Val.{Val}
use Rattle.wasm_values.specs.Operators.{number_of}
use Rattle.wasm_syntax.specs.declared.module.Limits.{Limits}
use Rattle.wasm_syntax.specs.declared.module.Elem.{Elem}
use Rattle.wasm_syntax.specs.declared.module.Segment.{Segment}
use Rattle.wasm_syntax.specs.Trees.{sequence_of}
use Rattle.wasm_store.specs.declared.store.TableInst.{TableInst}
use Rattle.wasm_store.specs.declared.store.MemInst.{MemInst}
use Rattle.wasm_store.specs.declared.store.GlobalInst.{GlobalInst}
use Rattle.wasm_store.specs.declared.store.Instance.{Instance}
use Rattle.wasm_store.specs.Memory.{overwritten}
use Rattle.type_safety.proofs.Lists.{set_same, get-map}
use Rattle.type_safety.proofs.Memories.{length-overwritten}
use Rattle.wasm_sessions.specs.Instantiation.{value_of_code, made_table, made_memory, has_entries, has_bytes, changed}
use Rattle.module_instances.specs.words.Building.{elem_fits_in, segment_fits_in, tables_written, memories_written}
use Rattle.wasm_sessions.proofs.Importing.{get-map-is}
use Rattle.wasm_sessions.proofs.Initializing.{table_size, memory_size, has_size, entries-size, bytes-size}
use Rattle.module_instances.proofs.BuildingLemmas.{resolved_new}
use Rattle.wasm_store.proofs.FrameLaws.{same_inst}

-- One more item.
pub overwritten_more : {A : Type 0} → (xs : List A) (at : ℕ) (zs : List A) (a : A) → at + length zs < length xs → set (overwritten xs at zs) (at + length zs) a ≡ overwritten xs at (zs ++ a ∷ [])
overwritten_more {A} xs at zs a within =
    let n = at + length zs in
    let front = take at xs ++ zs in
    let inner : at ≤ length xs = omega arith in
    let long : length front ≡ n = length-append (take at xs) zs ∙ ap (λ k. k + length zs) (length-take-le at xs inner) in
    let more : n + 1 ≡ at + length (zs ++ a ∷ []) = omega (arith, length-append zs (a ∷ [])) in
    let rest : drop n xs ≡ get_or xs n a ∷ drop (n + 1) xs = rw (add-one, drop-cons xs n a) in
    let regroup : front ++ a ∷ drop (n + 1) xs ≡ (take at xs ++ (zs ++ a ∷ [])) ++ drop (n + 1) xs = simp append_assoc in
    ap (λ l. set (front ++ l) n a) rest ∙ ap (λ k. set (front ++ get_or xs n a ∷ drop (n + 1) xs) k a) (sym long)
    ∙ set-append_seam front (get_or xs n a) (drop (n + 1) xs) a ∙ regroup ∙ ap (λ k. (take at xs ++ (zs ++ a ∷ [])) ++ drop k xs) more

pub written_more : {A B : Type 0} → (f : A → B) (xs now next : List B) (at k : ℕ) (ys : List A) (d : A) (b : B) → at + length ys ≤ length xs → k < length ys → now ≡ overwritten xs at (map f (take k ys)) → next ≡ set now (at + k) b → b ≡ f (get_or ys k d) → next ≡ overwritten xs at (map f (take (k + 1) ys))
written_more f xs now next at k ys d b fits within was is here =
    let inner : k ≤ length ys = omega arith in
    let long : length (map f (take k ys)) ≡ k = length-map (take k ys) f ∙ length-take-le k ys inner in
    let room : at + length (map f (take k ys)) < length xs = omega (arith, long) in
    is ∙ ap (λ l. set l (at + k) b) was ∙ ap (λ j. set (overwritten xs at (map f (take k ys))) (at + j) b) (sym long)
    ∙ overwritten_more xs at (map f (take k ys)) b room
    ∙ ap (λ x. overwritten xs at (map f (take k ys) ++ x ∷ [])) here
    ∙ ap (overwritten xs at) (sym (ap (map f) (take_more ys k d within) ∙ map-append f (take k ys) (get_or ys k d ∷ [])))

pub bytes_more : {B : Type 0} → (xs now next : List B) (at k : ℕ) (ys : List B) (d b : B) → at + length ys ≤ length xs → k < length ys → now ≡ overwritten xs at (take k ys) → next ≡ set now (at + k) b → b ≡ get_or ys k d → next ≡ overwritten xs at (take (k + 1) ys)
bytes_more xs now next at k ys d b fits within was is here =
    let inner : k ≤ length ys = omega arith in
    let long : length (take k ys) ≡ k = length-take-le k ys inner in
    let room : at + length (take k ys) < length xs = omega (arith, long) in
    is ∙ ap (λ l. set l (at + k) b) was ∙ ap (λ j. set (overwritten xs at (take k ys)) (at + j) b) (sym long)
    ∙ overwritten_more xs at (take k ys) b room
    ∙ ap (λ x. overwritten xs at (take k ys ++ x ∷ [])) here
    ∙ ap (overwritten xs at) (sym (take_more ys k d within))

map-at : {A B : Type 0} → (f : A → B) (xs : List A) (k : ℕ) (d : A) (e : B) → k < length xs → f (get_or xs k d) ≡ get_or (map f xs) k e
map-at f [] k d e h = absurd (omega arith)
map-at f (x ∷ xs) zero d e h = refl
map-at f (x ∷ xs) (suc k) d e h = let inner : k < length xs = omega arith in map-at f xs k d e inner

-- What is made has the sizes of its limits.
pub made_entries : (xs : List TableInst) (made : List Limits) (imported : List ℕ) (x : ℕ) (d : Limits) (count : ℕ) → length imported ≤ x → x < length imported + length made → has_entries (slice_get (xs ++ map made_table made) (slice_index (imported ++ range_with_len (length xs) (length made)) x)) count ≡ nat_le count (get_or made (x - length imported) d).min
made_entries xs made imported x d count past within =
    let k = x - length imported in
    let l = get_or made k d in
    let inner : k < length made = omega arith in
    let long = length-map made made_table in
    let inside : k < length (map made_table made) = subst (λ n. k < n) (sym long) inner in
    let is : made_table l ≡ get_or (map made_table made) k (made_table l) = map-at made_table made k d (made_table l) inner in
    ap (λ n. has_entries (slice_get (xs ++ map made_table made) (slice_index (imported ++ range_with_len (length xs) n) x)) count) (sym long)
    ∙ ap (λ o. has_entries o count) (resolved_new xs (map made_table made) imported x (made_table l) past inside is)
    ∙ ap (nat_le count) (length-replicate l.min None)

pub made_bytes : (xs : List MemInst) (made : List Limits) (imported : List ℕ) (x : ℕ) (d : Limits) (count : ℕ) → length imported ≤ x → x < length imported + length made → has_bytes (slice_get (xs ++ map made_memory made) (slice_index (imported ++ range_with_len (length xs) (length made)) x)) count ≡ nat_le count (65536 * (get_or made (x - length imported) d).min)
made_bytes xs made imported x d count past within =
    let k = x - length imported in
    let l = get_or made k d in
    let inner : k < length made = omega arith in
    let long = length-map made made_memory in
    let inside : k < length (map made_memory made) = subst (λ n. k < n) (sym long) inner in
    let is : made_memory l ≡ get_or (map made_memory made) k (made_memory l) = map-at made_memory made k d (made_memory l) inner in
    ap (λ n. has_bytes (slice_get (xs ++ map made_memory made) (slice_index (imported ++ range_with_len (length xs) n) x)) count) (sym long)
    ∙ ap (λ o. has_bytes o count) (resolved_new xs (map made_memory made) imported x (made_memory l) past inside is)
    ∙ ap (nat_le count) (length-replicate (65536 * l.min) 0)

both : (a b : Bool) → (a && b) ≡ true → (a ≡ true) × (b ≡ true)
both true b h = (refl, h)
both false b h = cc

-- ---- one segment

table_there : (o : Option TableInst) (n : ℕ) → IsTrue (has_entries o n) → (t : TableInst) × (o ≡ Some t)
table_there None n h = cc
table_there (Some t) n h = (t, refl)

memory_there : (o : Option MemInst) (n : ℕ) → IsTrue (has_bytes o n) → (m : MemInst) × (o ≡ Some m)
memory_there None n h = cc
memory_there (Some m) n h = (m, refl)

pub elem_is : (i : Instance) (gs : List GlobalInst) (ts all result : List TableInst) (e : Elem) (t : TableInst) (a n : ℕ) (entries : List (Option ℕ)) (v : Val) → all ≡ ts → a ≡ slice_index i.tables e.table → t ≡ get_or all a t → n ≡ number_of v → v ≡ value_of_code gs i.globals (sequence_of e.offset) → entries ≡ overwritten t.entries n (map (λ x. Some (slice_index i.funcs x)) e.funcs) → result ≡ set all a (record t { entries = entries }) → IsTrue (elem_fits_in ts gs i.tables i.globals e) → result ≡ tables_written i gs ts e
elem_is i gs ts all result e t a n entries v same address read at value written is fits =
    let A = slice_index i.tables e.table in
    let new : List (Option ℕ) = map (λ x. Some (slice_index i.funcs x)) e.funcs in
    let place = number_of (value_of_code gs i.globals (sequence_of e.offset)) in
    let found = table_there (slice_get ts A) (place + length e.funcs) fits in
    let mine : t ≡ get_or all A t = read ∙ ap (λ k. get_or all k t) address in
    let here : found.0 ≡ t = same_inst ts all A t found.0 mine same found.1 in
    let f : TableInst → TableInst = λ t. record t { entries = overwritten t.entries place new } in
    let make : List (Option ℕ) → TableInst = λ l. record t { entries = l } in
    let content : entries ≡ overwritten t.entries place new = written ∙ ap (λ k. overwritten t.entries k new) (at ∙ ap number_of value) in
    is ∙ ap (λ k. set all k (make entries)) address ∙ ap (λ l. set l A (make entries)) same ∙ ap (λ l. set ts A (make l)) content
    ∙ ap (λ x. set ts A (f x)) (sym here) ∙ sym (ap (changed f ts A) found.1)

pub segment_is : (i : Instance) (gs : List GlobalInst) (ms all result : List MemInst) (e : Segment) (m : MemInst) (a n : ℕ) (bytes others : List ℕ) (v : Val) → all ≡ ms → a ≡ slice_index i.memories e.memory → m ≡ get_or all a m → n ≡ number_of v → v ≡ value_of_code gs i.globals (sequence_of e.offset) → bytes ≡ overwritten m.bytes n others → others ≡ e.bytes → result ≡ set all a (record m { bytes = bytes }) → IsTrue (segment_fits_in ms gs i.memories i.globals e) → result ≡ memories_written i gs ms e
segment_is i gs ms all result e m a n bytes others v same address read at value written others_are is fits =
    let A = slice_index i.memories e.memory in
    let place = number_of (value_of_code gs i.globals (sequence_of e.offset)) in
    let found = memory_there (slice_get ms A) (place + length e.bytes) fits in
    let mine : m ≡ get_or all A m = read ∙ ap (λ k. get_or all k m) address in
    let here : found.0 ≡ m = same_inst ms all A m found.0 mine same found.1 in
    let f : MemInst → MemInst = λ m. record m { bytes = overwritten m.bytes place e.bytes } in
    let make : List ℕ → MemInst = λ l. record m { bytes = l } in
    let content : bytes ≡ overwritten m.bytes place e.bytes =
    written ∙ ap (λ k. overwritten m.bytes k others) (at ∙ ap number_of value) ∙ ap (overwritten m.bytes place) others_are
    in
    is ∙ ap (λ k. set all k (make bytes)) address ∙ ap (λ l. set l A (make bytes)) same ∙ ap (λ l. set ms A (make l)) content
    ∙ ap (λ x. set ms A (f x)) (sym here) ∙ sym (ap (changed f ms A) found.1)

-- ---- sizes stay

elem_sizes : (ts : List TableInst) (a at : ℕ) (entries : List (Option ℕ)) (o : Option TableInst) → slice_get ts a ≡ o → IsTrue (has_entries o (at + length entries)) → map table_size (changed (λ (t : TableInst). record t { entries = overwritten t.entries at entries }) ts a o) ≡ map table_size ts
elem_sizes ts a at entries None there h = cc
elem_sizes ts a at entries (Some x) there h =
    let long : at + length entries ≤ length x.entries = leb-true (at + length entries) (length x.entries) h in
    let new = overwritten x.entries at entries in
    map-set table_size ts a (record x { entries = new }) ∙ ap (set (map table_size ts) a) (length-overwritten x.entries at entries long)
    ∙ set_same (map table_size ts) a (length x.entries) (get-map table_size ts a x there)

segment_sizes : (ms : List MemInst) (a at : ℕ) (bytes : List ℕ) (o : Option MemInst) → slice_get ms a ≡ o → IsTrue (has_bytes o (at + length bytes)) → map memory_size (changed (λ (m : MemInst). record m { bytes = overwritten m.bytes at bytes }) ms a o) ≡ map memory_size ms
segment_sizes ms a at bytes None there h = cc
segment_sizes ms a at bytes (Some x) there h =
    let long : at + length bytes ≤ length x.bytes = leb-true (at + length bytes) (length x.bytes) h in
    let new = overwritten x.bytes at bytes in
    map-set memory_size ms a (record x { bytes = new }) ∙ ap (set (map memory_size ms) a) (length-overwritten x.bytes at bytes long)
    ∙ set_same (map memory_size ms) a (length x.bytes) (get-map memory_size ms a x there)

same_entries : (ts us : List TableInst) (a n : ℕ) → map table_size us ≡ map table_size ts → has_entries (slice_get us a) n ≡ has_entries (slice_get ts a) n
same_entries ts us a n h =
    entries-size (slice_get us a) n ∙ ap (λ o. has_size o n) (sym (get-map-is table_size us a) ∙ ap (λ l. slice_get l a) h ∙ get-map-is table_size ts a)
    ∙ sym (entries-size (slice_get ts a) n)

same_bytes : (ms ns : List MemInst) (a n : ℕ) → map memory_size ns ≡ map memory_size ms → has_bytes (slice_get ns a) n ≡ has_bytes (slice_get ms a) n
same_bytes ms ns a n h =
    bytes-size (slice_get ns a) n ∙ ap (λ o. has_size o n) (sym (get-map-is memory_size ns a) ∙ ap (λ l. slice_get l a) h ∙ get-map-is memory_size ms a)
    ∙ sym (bytes-size (slice_get ms a) n)

pub list_all-same : {X : Type 0} → (p q : X → Bool) → ((x : X) → p x ≡ q x) → (xs : List X) → list_all p xs ≡ list_all q xs
list_all-same p q same [] = refl
list_all-same p q same (x ∷ xs) = ap (λ b. b && list_all p xs) (same x) ∙ ap (λ b. q x && b) (list_all-same p q same xs)

pub list_all-at : {X : Type 0} → (p : X → Bool) (xs : List X) (k : ℕ) (d : X) → list_all p xs ≡ true → k < length xs → p (get_or xs k d) ≡ true
list_all-at p [] k d h within = absurd (omega arith)
list_all-at p (x ∷ xs) zero d h within = (both (p x) (list_all p xs) h).0
list_all-at p (x ∷ xs) (suc k) d h within = let inner : k < length xs = omega arith in list_all-at p xs k d (both (p x) (list_all p xs) h).1 inner

-- ---- one more segment

pub elems_more : (i : Instance) (gs : List GlobalInst) (start now next : List TableInst) (es : List Elem) (k : ℕ) (e : Elem) → k < length es → e ≡ get_or es k e → now ≡ fold (tables_written i gs) start (take k es) → list_all (elem_fits_in now gs i.tables i.globals) es ≡ true → next ≡ tables_written i gs now e → (next ≡ fold (tables_written i gs) start (take (k + 1) es)) × (list_all (elem_fits_in next gs i.tables i.globals) es ≡ true)
elems_more i gs start now next es k e within read was fits is =
    let here : elem_fits_in now gs i.tables i.globals e ≡ true =
    ap (elem_fits_in now gs i.tables i.globals) read ∙ list_all-at (elem_fits_in now gs i.tables i.globals) es k e fits within
    in
    let A = slice_index i.tables e.table in
    let at = number_of (value_of_code gs i.globals (sequence_of e.offset)) in
    let entries : List (Option ℕ) = map (λ x. Some (slice_index i.funcs x)) e.funcs in
    let room : has_entries (slice_get now A) (at + length entries) ≡ true =
    ap (λ n. has_entries (slice_get now A) (at + n)) (length-map e.funcs (λ x. Some (slice_index i.funcs x))) ∙ here
    in
    let sizes : map table_size next ≡ map table_size now = ap (map table_size) is ∙ elem_sizes now A at entries (slice_get now A) refl room in (
      is ∙ ap (tables_written i gs now) read ∙ ap (λ l. tables_written i gs l (get_or es k e)) was ∙ sym (fold_more (tables_written i gs) start es k e within),
      list_all-same (elem_fits_in next gs i.tables i.globals) (elem_fits_in now gs i.tables i.globals)
          (λ x. same_entries now next (slice_index i.tables x.table) (number_of (value_of_code gs i.globals (sequence_of x.offset)) + length x.funcs) sizes) es ∙ fits,
    )

pub segments_more : (i : Instance) (gs : List GlobalInst) (start now next : List MemInst) (es : List Segment) (k : ℕ) (e : Segment) → k < length es → e ≡ get_or es k e → now ≡ fold (memories_written i gs) start (take k es) → list_all (segment_fits_in now gs i.memories i.globals) es ≡ true → next ≡ memories_written i gs now e → (next ≡ fold (memories_written i gs) start (take (k + 1) es)) × (list_all (segment_fits_in next gs i.memories i.globals) es ≡ true)
segments_more i gs start now next es k e within read was fits is =
    let here : segment_fits_in now gs i.memories i.globals e ≡ true =
    ap (segment_fits_in now gs i.memories i.globals) read ∙ list_all-at (segment_fits_in now gs i.memories i.globals) es k e fits within
    in
    let A = slice_index i.memories e.memory in
    let at = number_of (value_of_code gs i.globals (sequence_of e.offset)) in
    let sizes : map memory_size next ≡ map memory_size now = ap (map memory_size) is ∙ segment_sizes now A at e.bytes (slice_get now A) refl here in (
      is ∙ ap (memories_written i gs now) read ∙ ap (λ l. memories_written i gs l (get_or es k e)) was ∙ sym (fold_more (memories_written i gs) start es k e within),
      list_all-same (segment_fits_in next gs i.memories i.globals) (segment_fits_in now gs i.memories i.globals)
          (λ x. same_bytes now next (slice_index i.memories x.memory) (number_of (value_of_code gs i.globals (sequence_of x.offset)) + length x.bytes) sizes) es ∙ fits,
    )

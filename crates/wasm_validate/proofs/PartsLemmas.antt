-- A module without faults is valid part by part, and a valid one has no faults.
use Rattle.std.proofs.Common.{◌≡◌, ℕ, ◌+◌, ◌<◌, ◌≤◌, zero, suc, Bool, true, false, ◌&&◌, ◌||◌, not, nat_eq, nat_lt, List, [], ◌∷◌, ◌++◌, length, map, take, slice_get, get_or, Option, Some, None, refl, sym, ap, ◌∙◌, subst, arith, ◌⊎◌, inl, inr, IfSome, option_map, Err}
use Rattle.std.specs.List.{filter_map, cons_option, All, list_any, list_all}
use Rattle.std.specs.Option.{is_some}
use Rattle.std.specs.Str.{bytes_eq}
use Rattle.std.specs.Cmp.Lexicographic.{same_text, other_text}
use Rattle.std.proofs.lemmas.List.{length-append, length-map}
use Rattle.std.proofs.lemmas.List.Sums.{AllPass-from_list_all, list_all-from_AllPass}
use Rattle.std.proofs.lemmas.Option.{slice_get-get_or, slice_get_within, get_or_from_slice_get, slice_get-map}
use Rattle.wasm_values.specs.declared.number.ValType.{ValType}
use Rattle.wasm_values.specs.declared.number.ValType.TheVariants.{I32}
use Rattle.wasm_syntax.specs.declared.module.FuncType.{FuncType}
use Rattle.wasm_syntax.specs.declared.module.Import.{Import}
use Rattle.wasm_syntax.specs.declared.module.Export.{Export}
use Rattle.wasm_syntax.specs.declared.module.ExportKind.{ExportKind}
use Rattle.wasm_syntax.specs.declared.module.ExportKind.TheVariants as export
use Rattle.wasm_syntax.specs.declared.module.Global.{Global}
use Rattle.wasm_syntax.specs.declared.module.Func.{Func}
use Rattle.wasm_syntax.specs.declared.module.Elem.{Elem}
use Rattle.wasm_syntax.specs.declared.module.Segment.{Segment}
use Rattle.wasm_syntax.specs.declared.module.Module.{Module}
use Rattle.wasm_syntax.specs.declared.module.Marks.{Marks}
use Rattle.wasm_syntax.specs.FlatForm.{flat_body}
use Rattle.wasm_typing.specs.declared.fault.ValidWord.{ValidWord}
use Rattle.wasm_typing.specs.declared.fault.ValidWord.TheVariants as word
use Rattle.wasm_typing.specs.declared.fault.ValidFault.{ValidFault}
use Rattle.wasm_typing.specs.declared.fault.ValidFault.TheVariants as fault
use Rattle.body_check.specs.words.Answers.{Answers}
use Rattle.wasm_typing.specs.Valid.{type_at, context_of, table_import, memory_import, func_types_of, funcs_of, tables_of, memories_of, globals_of, imported_globals_of, const_type, TypeValid, TableValid, MemoryValid, ImportValid, GlobalValid, ExportValid, AreApart, StartValid, ElemValid, SegmentValid, FuncValid, PartsValid, Valid}
use Rattle.wasm_typing.specs.faults.Faults.{Condition, condition, type_fault, import_fault, func_fault, module_table_fault, module_memory_fault, global_fault, names_one, export_fault, is_empty_type, start_fault, elem_fault, segment_fault, has_type, NoFault, HasNoFault, BodiesValid, FirstFault, StartFault, CodeFault, InvalidAt}
use Rattle.body_check.proofs.ActLemmas.{first_holds, rest_holds, both_hold, lt_from, lt_to, same_type_to, same_type_self}
use Rattle.wasm_validate.proofs.ValidLemmas.{all_from, none_from, type_valid, type_none, func_valid, func_none, row_valid, row_none, table_valid, table_none, memory_valid, memory_none, one_table, one_memory, to_zero}
use Rattle.body_check.proofs.PrefixLemmas.{typed_through}

-- ---- constant expressions

typed_to : (o : Option ValType) (t : ValType) → has_type o t ≡ true → o ≡ Some t
typed_to None t e = cc
typed_to (Some s) t e = ap Some (same_type_to s t e)

typed_from : (o : Option ValType) (t : ValType) → o ≡ Some t → has_type o t ≡ true
typed_from o t e = ap (λ p. has_type p t) e ∙ same_type_self t

global_valid : (m : Module) (g : Global) → global_fault m g ≡ None → GlobalValid m g
global_valid m g h =
    let ty = const_type (imported_globals_of m) g.init in
    typed_to ty g.ty.value (first_holds (has_type ty g.ty.value) word.WrongType [] (rest_holds (is_some ty) word.Const (condition (has_type ty g.ty.value) word.WrongType ∷ []) h))

global_none : (m : Module) (g : Global) → GlobalValid m g → global_fault m g ≡ None
global_none m g h =
    let ty = const_type (imported_globals_of m) g.init in
    both_hold (is_some ty) word.Const (condition (has_type ty g.ty.value) word.WrongType ∷ []) (ap is_some h) (both_hold (has_type ty g.ty.value) word.WrongType [] (typed_from ty g.ty.value h) refl)

-- ---- exports

named : (m : Module) (k : ExportKind) → names_one m k ≡ true → ExportValid m k
named m (export.Func f) h = lt_from f (length (func_types_of m)) h
named m (export.Table t) h = lt_from t (length (tables_of m)) h
named m (export.Memory k) h = lt_from k (length (memories_of m)) h
named m (export.Global g) h = lt_from g (length (globals_of m)) h

names : (m : Module) (k : ExportKind) → ExportValid m k → names_one m k ≡ true
names m (export.Func f) h = lt_to f (length (func_types_of m)) h
names m (export.Table t) h = lt_to t (length (tables_of m)) h
names m (export.Memory k) h = lt_to k (length (memories_of m)) h
names m (export.Global g) h = lt_to g (length (globals_of m)) h

or_both : (a b : Bool) → a ≡ false → b ≡ false → (a || b) ≡ false
or_both true b e f = cc
or_both false b e f = f

same_bytes : (x : List ℕ) (b : Bool) → bytes_eq x x ≡ b → b ≡ true
same_bytes x true e = refl
same_bytes x false e = absurd (other_text x x (sym e) refl)

or_true_left : (a b : Bool) → a ≡ true → (a || b) ≡ true
or_true_left true b e = refl
or_true_left false b e = cc

or_true_right : (a b : Bool) → b ≡ true → (a || b) ≡ true
or_true_right true b e = refl
or_true_right false b e = e

seen_before : (xs : List (List ℕ)) (i j : ℕ) (x : List ℕ) → i < j → slice_get xs i ≡ Some x → list_any (bytes_eq x) (take j xs) ≡ true
seen_before [] i j x h e = cc
seen_before (y ∷ xs) i zero x h e = absurd (omega (arith, h))
seen_before (y ∷ xs) zero (suc j) x h e =
    let same : y ≡ x = cc in
    or_true_left (bytes_eq x y) (list_any (bytes_eq x) (take j xs)) (ap (bytes_eq x) same ∙ same_bytes x (bytes_eq x x) refl)
seen_before (y ∷ xs) (suc i) (suc j) x h e =
    or_true_right (bytes_eq x y) (list_any (bytes_eq x) (take j xs)) (seen_before xs i j x (omega (arith, h)) e)

apart_from : (xs : List (List ℕ)) → ((n : ℕ) (x : List ℕ) → slice_get xs n ≡ Some x → list_any (bytes_eq x) (take n xs) ≡ false) → AreApart xs
apart_from xs new i j x e f = elim (order i j) [
  | inl before ↦ absurd (never (sym (seen_before xs i j x before e) ∙ new j x f))
  | inr rest ↦ elim rest [ inl same ↦ same | inr after ↦ absurd (never (sym (seen_before xs j i x after f) ∙ new i x e)) ]
]
  where
    order : (i j : ℕ) → (i < j) ⊎ ((i ≡ j) ⊎ (j < i))
    order i j = grind arith

    never : true ≡ false → ⊥
    never e = cc

unseen : (xs : List (List ℕ)) (n : ℕ) (x : List ℕ) → ((k : ℕ) → k < n → slice_get xs k ≡ Some x → ⊥) → list_any (bytes_eq x) (take n xs) ≡ false
unseen [] zero x h = refl
unseen [] (suc n) x h = refl
unseen (y ∷ xs) zero x h = refl
unseen (y ∷ xs) (suc n) x h =
    or_both (bytes_eq x y) (list_any (bytes_eq x) (take n xs)) (first (bytes_eq x y) refl) (unseen xs n x (λ k less e. h (suc k) (omega (arith, less)) e))
  where
    first : (b : Bool) → bytes_eq x y ≡ b → b ≡ false
    first false e = refl
    first true e = absurd (h 0 (omega arith) (ap Some (sym (same_text x y (sym e)))))

apart_to : (xs : List (List ℕ)) → AreApart xs → (n : ℕ) (x : List ℕ) → slice_get xs n ≡ Some x → list_any (bytes_eq x) (take n xs) ≡ false
apart_to xs apart n x e = unseen xs n x (λ k less f. let same = apart k n x f e in omega (arith, less, same))

taken_names : (es : List Export) (n : ℕ) → take n (map (λ (o : Export). o.name) es) ≡ map (λ (o : Export). o.name) (take n es)
taken_names [] n = by_zero n
  where
    by_zero : (n : ℕ) → take n (map (λ (o : Export). o.name) []) ≡ map (λ (o : Export). o.name) (take n [])
    by_zero zero = refl
    by_zero (suc n) = refl
taken_names (e ∷ es) zero = refl
taken_names (e ∷ es) (suc n) = ap (λ xs. e.name ∷ xs) (taken_names es n)

not_true : (b : Bool) → not b ≡ true → b ≡ false
not_true true e = cc
not_true false e = refl

not_false : (b : Bool) → b ≡ false → not b ≡ true
not_false true e = cc
not_false false e = refl

export_valid : (m : Module) (n : ℕ) (e : Export) → export_fault m n e ≡ None → ExportValid m e.kind
export_valid m n e h =
    named m e.kind (first_holds (names_one m e.kind) word.Index (condition (not (list_any (bytes_eq e.name) (map (λ (o : Export). o.name) (take n m.exports)))) word.Export ∷ []) h)

export_new : (m : Module) (n : ℕ) (e : Export) → export_fault m n e ≡ None → list_any (bytes_eq e.name) (map (λ (o : Export). o.name) (take n m.exports)) ≡ false
export_new m n e h =
    let b = list_any (bytes_eq e.name) (map (λ (o : Export). o.name) (take n m.exports)) in
    not_true b (first_holds (not b) word.Export [] (rest_holds (names_one m e.kind) word.Index (condition (not b) word.Export ∷ []) h))

named_at : (es : List Export) (n : ℕ) (x : List ℕ) → slice_get (map (λ (o : Export). o.name) es) n ≡ Some x → (e : Export) × (slice_get es n ≡ Some e) × (e.name ≡ x)
named_at [] n x h = cc
named_at (e ∷ es) zero x h = (e, refl, cc)
named_at (e ∷ es) (suc n) x h = named_at es n x h

names_distinct : (m : Module) → NoFault (export_fault m) m.exports → AreApart (map (λ (e : Export). e.name) m.exports)
names_distinct m none =
    let f : Export → List ℕ = λ e. e.name in
    apart_from (map f m.exports) (λ n x h.
    let (e, there, same) = named_at m.exports n x h in
    let P : List ℕ → Type 0 = λ y. list_any (bytes_eq y) (take n (map f m.exports)) ≡ false in
    subst P same (ap (list_any (bytes_eq e.name)) (taken_names m.exports n) ∙ export_new m n e (none n e there)))

export_none : (m : Module) → All (λ (e : Export). ExportValid m e.kind) m.exports → AreApart (map (λ (e : Export). e.name) m.exports) → NoFault (export_fault m) m.exports
export_none m valid distinct n e there =
    let f : Export → List ℕ = λ o. o.name in
    let b = list_any (bytes_eq e.name) (map f (take n m.exports)) in
    let here = apart_to (map f m.exports) distinct n e.name (slice_get-map f m.exports n ∙ ap (λ o. option_map f o) there) in
    let V : Export → Type 0 = λ o. ExportValid m o.kind in
    both_hold (names_one m e.kind) word.Index (condition (not b) word.Export ∷ [])
    (names m e.kind (subst V (get_or_from_slice_get m.exports n e e there) (valid n e (slice_get_within m.exports n e there))))
    (both_hold (not b) word.Export [] (not_false b (ap (list_any (bytes_eq e.name)) (sym (taken_names m.exports n)) ∙ here)) refl)

-- ---- start

empty_list : {X : Type 0} (xs : List X) → nat_eq (length xs) 0 ≡ true → xs ≡ []
empty_list [] e = refl
empty_list (x ∷ xs) e = absurd (positive (length xs) e)
  where
    positive : (n : ℕ) → nat_eq (suc n) 0 ≡ true → ⊥
    positive n e = grind arith

and_left : (a b : Bool) → (a && b) ≡ true → a ≡ true
and_left true b e = refl
and_left false b e = cc

and_right : (a b : Bool) → (a && b) ≡ true → b ≡ true
and_right true b e = e
and_right false b e = cc

empty_type : (o : Option FuncType) → is_empty_type o ≡ true → o ≡ Some (record { params = []; results = [] })
empty_type None e = cc
empty_type (Some ty) e =
    let p = empty_list ty.params (and_left (nat_eq (length ty.params) 0) (nat_eq (length ty.results) 0) e) in
    let r = empty_list ty.results (and_right (nat_eq (length ty.params) 0) (nat_eq (length ty.results) 0) e) in
    λ j. Some (record { params = p j; results = r j })

start_valid : (m : Module) (f : ℕ) → start_fault m f ≡ None → StartValid m f
start_valid m f h =
    empty_type (slice_get (funcs_of m) f)
    (first_holds (is_empty_type (slice_get (funcs_of m) f)) word.Start [] (rest_holds (nat_lt f (length (func_types_of m))) word.Index (condition (is_empty_type (slice_get (funcs_of m) f)) word.Start ∷ []) h))

-- ---- segments

all_below : (numbers : List ℕ) (count : ℕ) → list_all (λ f. nat_lt f count) numbers ≡ true → All (λ f. f < count) numbers
all_below numbers count h = λ k d less. lt_from (get_or numbers k d) count (AllPass-from_list_all (λ f. nat_lt f count) numbers h k d less)

below_all : (numbers : List ℕ) (count : ℕ) → All (λ f. f < count) numbers → list_all (λ f. nat_lt f count) numbers ≡ true
below_all numbers count h = list_all-from_AllPass (λ f. nat_lt f count) numbers (λ k d less. lt_to (get_or numbers k d) count (h k d less))

elem_valid : (m : Module) (e : Elem) → elem_fault m e ≡ None → ElemValid m e
elem_valid m e h =
    let ty = const_type (globals_of m) e.offset in
    let b = list_all (λ f. nat_lt f (length (func_types_of m))) e.funcs in
    let t = nat_lt e.table (length (tables_of m)) in
    let last : List Condition = condition b word.Index ∷ [] in
    let third : List Condition = condition (has_type ty I32) word.WrongType ∷ last in
    let second : List Condition = condition (is_some ty) word.Const ∷ third in
    let h1 = rest_holds t word.Index second h in
    let h2 = rest_holds (is_some ty) word.Const third h1 in (
      lt_from e.table (length (tables_of m)) (first_holds t word.Index second h),
      typed_to ty I32 (first_holds (has_type ty I32) word.WrongType last h2),
      all_below e.funcs (length (func_types_of m)) (first_holds b word.Index [] (rest_holds (has_type ty I32) word.WrongType last h2)),
    )

elem_none : (m : Module) (e : Elem) → ElemValid m e → elem_fault m e ≡ None
elem_none m e h =
    let ty = const_type (globals_of m) e.offset in
    let b = list_all (λ f. nat_lt f (length (func_types_of m))) e.funcs in
    let t = nat_lt e.table (length (tables_of m)) in
    let last : List Condition = condition b word.Index ∷ [] in
    let third : List Condition = condition (has_type ty I32) word.WrongType ∷ last in
    both_hold t word.Index (condition (is_some ty) word.Const ∷ third) (lt_to e.table (length (tables_of m)) h.0)
    (both_hold (is_some ty) word.Const third (ap is_some h.1)
    (both_hold (has_type ty I32) word.WrongType last (typed_from ty I32 h.1) (both_hold b word.Index [] (below_all e.funcs (length (func_types_of m)) h.2) refl)))

segment_valid : (m : Module) (s : Segment) → segment_fault m s ≡ None → SegmentValid m s
segment_valid m s h =
    let ty = const_type (globals_of m) s.offset in
    let t = nat_lt s.memory (length (memories_of m)) in
    let last : List Condition = condition (has_type ty I32) word.WrongType ∷ [] in
    let second : List Condition = condition (is_some ty) word.Const ∷ last in (
      lt_from s.memory (length (memories_of m)) (first_holds t word.Index second h),
      typed_to ty I32 (first_holds (has_type ty I32) word.WrongType [] (rest_holds (is_some ty) word.Const last (rest_holds t word.Index second h))),
    )

segment_none : (m : Module) (s : Segment) → SegmentValid m s → segment_fault m s ≡ None
segment_none m s h =
    let ty = const_type (globals_of m) s.offset in
    let t = nat_lt s.memory (length (memories_of m)) in
    let last : List Condition = condition (has_type ty I32) word.WrongType ∷ [] in
    both_hold t word.Index (condition (is_some ty) word.Const ∷ last) (lt_to s.memory (length (memories_of m)) h.0)
    (both_hold (is_some ty) word.Const last (ap is_some h.1) (both_hold (has_type ty I32) word.WrongType [] (typed_from ty I32 h.1) refl))

-- ---- all parts

start_from : (m : Module) (o : Option ℕ) → IfSome o (λ f. start_fault m f ≡ None) → IfSome o (StartValid m)
start_from m None h = tt
start_from m (Some f) h = start_valid m f h

pub parts_valid : (m : Module) → HasNoFault m → PartsValid m
parts_valid m h =
    record {
      types = all_from (λ n. type_fault) TypeValid m.types (λ n. type_valid) h.types;
      imports = all_from (import_fault m) (λ (i : Import). ImportValid m.types i.kind) m.imports (λ n i. row_valid m.types _ _ i.kind) h.imports;
      funcs = all_from (λ n. func_fault m) (λ (f : Func). f.ty < length m.types) m.funcs (λ n. func_valid m) h.funcs;
      tables = all_from (module_table_fault m) TableValid m.tables (λ n l e. (table_valid _ l e).1) h.tables;
      one_table = one_table m h.imports h.tables;
      memories = all_from (module_memory_fault m) MemoryValid m.memories (λ n l e. (memory_valid _ l e).1) h.memories;
      one_memory = one_memory m h.imports h.memories;
      globals = all_from (λ n. global_fault m) (GlobalValid m) m.globals (λ n. global_valid m) h.globals;
      exports = all_from (export_fault m) (λ (e : Export). ExportValid m e.kind) m.exports (λ n e. export_valid m n e) h.exports;
      names = names_distinct m h.exports;
      start = start_from m m.start h.start;
      elems = all_from (λ n. elem_fault m) (ElemValid m) m.elems (λ n. elem_valid m) h.elems;
      bodies = λ k d less. h.bodies k (get_or m.funcs k d) (slice_get-get_or m.funcs k d less);
      segments = all_from (λ n. segment_fault m) (SegmentValid m) m.segments (λ n. segment_valid m) h.segments;
    }

-- ---- a valid module has no faults

start_to : (m : Module) (o : Option ℕ) → IfSome o (StartValid m) → IfSome o (λ f. start_fault m f ≡ None)
start_to m None h = tt
start_to m (Some f) h =
    both_hold (nat_lt f (length (func_types_of m))) word.Index (condition (is_empty_type (slice_get (funcs_of m) f)) word.Start ∷ [])
    (lt_to f (length (func_types_of m)) (let w = slice_get_within (funcs_of m) f _ h in let l = length-map (func_types_of m) (type_at m.types) in omega (arith, w, l)))
    (both_hold (is_empty_type (slice_get (funcs_of m) f)) word.Start [] (ap is_empty_type h) refl)

-- what is given before an entry that gives something
given_before : {X Y : Type 0} (f : X → Option Y) (xs : List X) (n : ℕ) (x : X) → slice_get xs n ≡ Some x → is_some (f x) ≡ true → suc (length (filter_map f (take n xs))) ≤ length (filter_map f xs)
given_before f [] n x h e = cc
given_before {X} {Y} f (y ∷ xs) zero x h e =
    let same : y ≡ x = cc in some_first (f y) (ap (λ z. is_some (f z)) same ∙ e)
  where
    some_first : (o : Option Y) → is_some o ≡ true → 1 ≤ length (cons_option o (filter_map f xs))
    some_first None e = cc
    some_first (Some z) e = omega arith
given_before {X} {Y} f (y ∷ xs) (suc n) x h e = with_first (f y) (given_before f xs n x h e)
  where
    with_first : (o : Option Y) → suc (length (filter_map f (take n xs))) ≤ length (filter_map f xs) → suc (length (cons_option o (filter_map f (take n xs)))) ≤ length (cons_option o (filter_map f xs))
    with_first None less = less
    with_first (Some z) less = omega (arith, less)

first_import : {Y : Type 0} (f : Import → Option Y) (is : List Import) (more : List Y) (n : ℕ) (i : Import) → length (filter_map f is ++ more) ≤ 1 → slice_get is n ≡ Some i → is_some (f i) ≡ true →
    nat_eq (length (filter_map f (take n is))) 0 ≡ true
first_import f is more n i few h e =
    let g = given_before f is n i h e in
    let l = length-append (filter_map f is) more in
    to_zero (length (filter_map f (take n is))) (omega (arith, g, l, few))

to_zero_sum : {Y : Type 0} (given more : List Y) (n : ℕ) → length (given ++ more) ≤ 1 → n < length more → nat_eq (length given + n) 0 ≡ true
to_zero_sum given more n few h = let l = length-append given more in to_zero (length given + n) (omega (arith, l, few, h))

pub parts_none : (m : Module) → PartsValid m → HasNoFault m
parts_none m h =
    record {
      types = none_from (λ n. type_fault) TypeValid m.types (λ n. type_none) h.types;
      imports = λ n i there.
          let V : Import → Type 0 = λ j. ImportValid m.types j.kind in
          row_none m.types _ _ i.kind (subst V (get_or_from_slice_get m.imports n i i there) (h.imports n i (slice_get_within m.imports n i there)))
          (λ some. first_import (λ (j : Import). table_import j.kind) m.imports m.tables n i h.one_table there some)
          (λ some. first_import (λ (j : Import). memory_import j.kind) m.imports m.memories n i h.one_memory there some);
      funcs = none_from (λ n. func_fault m) (λ (f : Func). f.ty < length m.types) m.funcs (λ n. func_none m) h.funcs;
      tables = λ n l there.
          table_none _ l (to_zero_sum (filter_map (λ (j : Import). table_import j.kind) m.imports) m.tables n h.one_table (slice_get_within m.tables n l there))
          (subst TableValid (get_or_from_slice_get m.tables n l l there) (h.tables n l (slice_get_within m.tables n l there)));
      memories = λ n l there.
          memory_none _ l (to_zero_sum (filter_map (λ (j : Import). memory_import j.kind) m.imports) m.memories n h.one_memory (slice_get_within m.memories n l there))
          (subst MemoryValid (get_or_from_slice_get m.memories n l l there) (h.memories n l (slice_get_within m.memories n l there)));
      globals = none_from (λ n. global_fault m) (GlobalValid m) m.globals (λ n. global_none m) h.globals;
      exports = export_none m h.exports h.names;
      start = start_to m m.start h.start;
      elems = none_from (λ n. elem_fault m) (ElemValid m) m.elems (λ n. elem_none m) h.elems;
      bodies = λ n f there. subst (FuncValid m) (get_or_from_slice_get m.funcs n f f there) (h.bodies n f (slice_get_within m.funcs n f there));
      segments = none_from (λ n. segment_fault m) (SegmentValid m) m.segments (λ n. segment_none m) h.segments;
    }

-- ---- a fault refutes it

no_first : {X : Type 0} (fault : ℕ → X → Option ValidWord) (xs : List X) (places : List ℕ) (at : ℕ) (w : ValidWord) → FirstFault fault xs places at w → NoFault fault xs → ⊥
no_first fault xs places at w f none = never w (sym (none f.entry f.item f.there) ∙ f.here)
  where
    never : (w : ValidWord) → None ≡ Some w → ⊥
    never w e = cc

no_start : (m : Module) (o : Option ℕ) (place at : ℕ) (w : ValidWord) → StartFault m o place at w → IfSome o (λ f. start_fault m f ≡ None) → ⊥
no_start m None place at w f none = f
no_start m (Some s) place at w f none = never w (sym none ∙ f.0)
  where
    never : (w : ValidWord) → None ≡ Some w → ⊥
    never w e = cc

no_code : (m : Module) (code : List (List ℕ)) (at : ℕ) (w : ValidWord) → CodeFault m code at w → BodiesValid m → ⊥
no_code m code at w f valid =
    f.body.here (typed_through (context_of m f.func) f.func.body f.body.number (slice_get_within (flat_body f.func.body) f.body.number f.body.item f.body.there) (valid f.number f.func f.there))

pub refuted : (m : Module) (k : Marks) (at : ℕ) (w : ValidWord) → InvalidAt m k at w → HasNoFault m → ⊥
refuted m k at w i h =
    elim i [
      | inl f ↦ no_first (λ n. type_fault) m.types k.types at w f h.types
      | inr i1 ↦
          elim i1.1 [
            | inl f ↦ no_first (import_fault m) m.imports k.imports at w f h.imports
            | inr i2 ↦
                elim i2.1 [
                  | inl f ↦ no_first (λ n. func_fault m) m.funcs k.funcs at w f h.funcs
                  | inr i3 ↦
                      elim i3.1 [
                        | inl f ↦ no_first (module_table_fault m) m.tables k.tables at w f h.tables
                        | inr i4 ↦
                            elim i4.1 [
                              | inl f ↦ no_first (module_memory_fault m) m.memories k.memories at w f h.memories
                              | inr i5 ↦
                                  elim i5.1 [
                                    | inl f ↦ no_first (λ n. global_fault m) m.globals k.globals at w f h.globals
                                    | inr i6 ↦
                                        elim i6.1 [
                                          | inl f ↦ no_first (export_fault m) m.exports k.exports at w f h.exports
                                          | inr i7 ↦
                                              elim i7.1 [
                                                | inl f ↦ no_start m m.start k.start at w f h.start
                                                | inr i8 ↦
                                                    elim i8.1 [
                                                      | inl f ↦ no_first (λ n. elem_fault m) m.elems k.elems at w f h.elems
                                                      | inr i9 ↦
                                                          elim i9.1 [
                                                            | inl f ↦ no_code m k.code at w f h.bodies
                                                            | inr i10 ↦
                                                                no_first (λ n. segment_fault m) m.segments k.segments at w i10.1 h.segments
                                                          ]
                                                    ]
                                              ]
                                        ]
                                  ]
                            ]
                      ]
                ]
          ]
    ]

pub refusal : {A : Type 0} (m : Module) (k : Marks) (e : ValidFault) (holds : A → Type 0) → Answers {A = Unit {0}} (λ done. HasNoFault m) (InvalidAt m k) (Err e) →
    Answers holds (λ at w. InvalidAt m k at w × (Valid m → ⊥)) (Err e)
refusal m k (fault.Invalid at w) holds a = (a, λ valid. refuted m k at w a (parts_none m valid.parts))
refusal m k fault.OutOfMemory holds a = tt

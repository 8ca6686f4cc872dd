-- Entries without faults are valid, and valid entries have no faults.
use Rattle.std.proofs.Common.{◌≡◌, ℕ, ◌+◌, ◌<◌, ◌≤◌, zero, suc, Bool, true, false, ◌&&◌, nat_eq, nat_lt, nat_le, List, [], ◌∷◌, length, map, take, slice_get, get_or, Option, Some, None, refl, sym, ap, ◌∙◌, subst, arith, IfSome}
use Rattle.std.specs.List.{filter_map, cons_option, All}
use Rattle.std.specs.Option.{is_some}
use Rattle.std.proofs.lemmas.List.{length-append}
use Rattle.std.proofs.lemmas.List.Elements.{All-append}
use Rattle.std.proofs.lemmas.Option.{slice_get-get_or, slice_get_within, get_or_from_slice_get}
use Rattle.wasm_syntax.specs.declared.module.FuncType.{FuncType}
use Rattle.wasm_syntax.specs.declared.module.Limits.{Limits}
use Rattle.wasm_syntax.specs.declared.module.Import.{Import}
use Rattle.wasm_syntax.specs.declared.module.ImportKind.{ImportKind}
use Rattle.wasm_syntax.specs.declared.module.ImportKind.TheVariants as import
use Rattle.wasm_syntax.specs.declared.module.Func.{Func}
use Rattle.wasm_syntax.specs.declared.module.Module.{Module}
use Rattle.wasm_typing.specs.declared.fault.ValidWord.{ValidWord}
use Rattle.wasm_typing.specs.declared.fault.ValidWord.TheVariants as word
use Rattle.wasm_typing.specs.Valid.{func_import, table_import, memory_import, tables_of, memories_of, TypeValid, TableValid, MemoryValid, ImportValid}
use Rattle.wasm_typing.specs.faults.Faults.{condition, type_fault, table_fault, memory_fault, import_row, import_fault, func_fault, module_table_fault, module_memory_fault, is_within, are_pages, NoFault}
use Rattle.wasm_values.specs.Types.{is_at_most}
use Rattle.body_check.specs.words.Answers.{HasTypes}
use Rattle.body_check.proofs.ActLemmas.{first_holds, rest_holds, both_hold, lt_from, lt_to, le_from, le_to}

pub all_from : {X : Type 0} (fault : ℕ → X → Option ValidWord) (P : X → Type 0) (xs : List X) → ((n : ℕ) (x : X) → fault n x ≡ None → P x) → NoFault fault xs → All P xs
all_from fault P xs valid none = λ k d h. valid k (get_or xs k d) (none k (get_or xs k d) (slice_get-get_or xs k d h))

all_at : {X : Type 0} (P : X → Type 0) (xs : List X) (n : ℕ) (x : X) → All P xs → slice_get xs n ≡ Some x → P x
all_at P xs n x all e = subst P (get_or_from_slice_get xs n x x e) (all n x (slice_get_within xs n x e))

pub none_from : {X : Type 0} (fault : ℕ → X → Option ValidWord) (P : X → Type 0) (xs : List X) → ((n : ℕ) (x : X) → P x → fault n x ≡ None) → All P xs → NoFault fault xs
none_from fault P xs sound all n x e = sound n x (all_at P xs n x all e)

-- ---- types and functions

pub type_valid : (ty : FuncType) → type_fault ty ≡ None → TypeValid ty
type_valid ty h = le_from (length ty.results) 1 (first_holds (nat_le (length ty.results) 1) word.WrongType [] h)

pub type_none : (ty : FuncType) → TypeValid ty → type_fault ty ≡ None
type_none ty h = both_hold (nat_le (length ty.results) 1) word.WrongType [] (le_to (length ty.results) 1 h) refl

pub func_valid : (m : Module) (f : Func) → func_fault m f ≡ None → f.ty < length m.types
func_valid m f h = lt_from f.ty (length m.types) (first_holds (nat_lt f.ty (length m.types)) word.Index [] h)

pub func_none : (m : Module) (f : Func) → f.ty < length m.types → func_fault m f ≡ None
func_none m f h = both_hold (nat_lt f.ty (length m.types)) word.Index [] (lt_to f.ty (length m.types) h) refl

-- ---- limits

at_most_from : (n : ℕ) (o : Option ℕ) → is_at_most n o ≡ true → IfSome o (λ max. n ≤ max)
at_most_from n None h = tt
at_most_from n (Some max) h = le_from n max h

at_most_to : (n : ℕ) (o : Option ℕ) → IfSome o (λ max. n ≤ max) → is_at_most n o ≡ true
at_most_to n None h = refl
at_most_to n (Some max) h = le_to n max h

and_both : (a b : Bool) → a ≡ true → b ≡ true → (a && b) ≡ true
and_both true b e f = f
and_both false b e f = cc

and_left : (a b : Bool) → (a && b) ≡ true → a ≡ true
and_left true b e = refl
and_left false b e = cc

and_right : (a b : Bool) → (a && b) ≡ true → b ≡ true
and_right true b e = e
and_right false b e = cc

pages_from : (l : Limits) → are_pages l ≡ true → MemoryValid l
pages_from l h =
    let a = and_left (is_at_most l.min l.max) (nat_le l.min 65536 && is_within l.max 65536) h in
    let b = and_right (is_at_most l.min l.max) (nat_le l.min 65536 && is_within l.max 65536) h in
    (le_from l.min 65536 (and_left (nat_le l.min 65536) (is_within l.max 65536) b), both l.max a (and_right (nat_le l.min 65536) (is_within l.max 65536) b))
  where
    both : (o : Option ℕ) → is_at_most l.min o ≡ true → is_within o 65536 ≡ true → IfSome o (λ max. (l.min ≤ max) × (max ≤ 65536))
    both None a b = tt
    both (Some max) a b = (le_from l.min max a, le_from max 65536 b)

pages_to : (l : Limits) → MemoryValid l → are_pages l ≡ true
pages_to l h =
    let (a, b) = both l.max h.1 in
    and_both (is_at_most l.min l.max) (nat_le l.min 65536 && is_within l.max 65536) a (and_both (nat_le l.min 65536) (is_within l.max 65536) (le_to l.min 65536 h.0) b)
  where
    both : (o : Option ℕ) → IfSome o (λ max. (l.min ≤ max) × (max ≤ 65536)) → (is_at_most l.min o ≡ true) × (is_within o 65536 ≡ true)
    both None a = (refl, refl)
    both (Some max) a = (le_to l.min max a.0, le_to max 65536 a.1)

pub table_valid : (first : Bool) (l : Limits) → table_fault first l ≡ None → (first ≡ true) × TableValid l
table_valid first l h = (
  first_holds first word.Count (condition (is_at_most l.min l.max) word.Limits ∷ []) h,
  at_most_from l.min l.max (first_holds (is_at_most l.min l.max) word.Limits [] (rest_holds first word.Count (condition (is_at_most l.min l.max) word.Limits ∷ []) h)),
)

pub table_none : (first : Bool) (l : Limits) → first ≡ true → TableValid l → table_fault first l ≡ None
table_none first l e h = both_hold first word.Count (condition (is_at_most l.min l.max) word.Limits ∷ []) e (both_hold (is_at_most l.min l.max) word.Limits [] (at_most_to l.min l.max h) refl)

pub memory_valid : (first : Bool) (l : Limits) → memory_fault first l ≡ None → (first ≡ true) × MemoryValid l
memory_valid first l h = (
  first_holds first word.Count (condition (are_pages l) word.Limits ∷ []) h,
  pages_from l (first_holds (are_pages l) word.Limits [] (rest_holds first word.Count (condition (are_pages l) word.Limits ∷ []) h)),
)

pub memory_none : (first : Bool) (l : Limits) → first ≡ true → MemoryValid l → memory_fault first l ≡ None
memory_none first l e h = both_hold first word.Count (condition (are_pages l) word.Limits ∷ []) e (both_hold (are_pages l) word.Limits [] (pages_to l h) refl)

-- ---- imports

pub row_valid : (types : List FuncType) (a b : Bool) (k : ImportKind) → import_row (length types) a b k ≡ None → ImportValid types k
row_valid types a b (import.Func t) h = lt_from t (length types) (first_holds (nat_lt t (length types)) word.Index [] h)
row_valid types a b (import.Table l) h = (table_valid a l h).1
row_valid types a b (import.Memory l) h = (memory_valid b l h).1
row_valid types a b (import.Global g) h = tt

row_table : (count : ℕ) (a b : Bool) (k : ImportKind) → import_row count a b k ≡ None → is_some (table_import k) ≡ true → a ≡ true
row_table count a b (import.Func t) h e = cc
row_table count a b (import.Table l) h e = (table_valid a l h).0
row_table count a b (import.Memory l) h e = cc
row_table count a b (import.Global g) h e = cc

row_memory : (count : ℕ) (a b : Bool) (k : ImportKind) → import_row count a b k ≡ None → is_some (memory_import k) ≡ true → b ≡ true
row_memory count a b (import.Func t) h e = cc
row_memory count a b (import.Table l) h e = cc
row_memory count a b (import.Memory l) h e = (memory_valid b l h).0
row_memory count a b (import.Global g) h e = cc

pub row_none : (types : List FuncType) (a b : Bool) (k : ImportKind) → ImportValid types k → (is_some (table_import k) ≡ true → a ≡ true) → (is_some (memory_import k) ≡ true → b ≡ true) →
    import_row (length types) a b k ≡ None
row_none types a b (import.Func t) h e f = both_hold (nat_lt t (length types)) word.Index [] (lt_to t (length types) h) refl
row_none types a b (import.Table l) h e f = table_none a l (e refl) h
row_none types a b (import.Memory l) h e f = memory_none b l (f refl) h
row_none types a b (import.Global g) h e f = refl

-- ---- at most one

none_given : {X Y : Type 0} (f : X → Option Y) (xs : List X) → ((n : ℕ) (x : X) → slice_get xs n ≡ Some x → is_some (f x) ≡ false) → length (filter_map f xs) ≡ 0
none_given f [] h = refl
none_given {X} {Y} f (x ∷ xs) h = skipped (f x) (h 0 x refl) ∙ none_given f xs (λ n y e. h (suc n) y e)
  where
    skipped : (o : Option Y) → is_some o ≡ false → length (cons_option o (filter_map f xs)) ≡ length (filter_map f xs)
    skipped None e = refl
    skipped (Some y) e = cc

is_zero : (n : ℕ) → nat_eq n 0 ≡ true → n ≡ 0
is_zero n h = grind arith

pub to_zero : (n : ℕ) → n ≡ 0 → nat_eq n 0 ≡ true
to_zero n h = grind arith

one_given : {X Y : Type 0} (f : X → Option Y) (xs : List X) →
    ((n : ℕ) (x : X) → slice_get xs n ≡ Some x → is_some (f x) ≡ true → length (filter_map f (take n xs)) ≡ 0) → length (filter_map f xs) ≤ 1
one_given f [] h = omega arith
one_given {X} {Y} f (x ∷ xs) h = by_first (f x) refl (λ g. one_given f xs g)
  where
    at_first : (o : Option Y) → f x ≡ o → (k : ℕ) → length (filter_map f (take (suc k) (x ∷ xs))) ≡ length (cons_option o (filter_map f (take k xs)))
    at_first o e k = ap (λ p. length (cons_option p (filter_map f (take k xs)))) e

    later : (b : Bool) (z : X) (n : ℕ) → is_some (f z) ≡ b → slice_get xs n ≡ Some z → (y : Y) → f x ≡ Some y → b ≡ false
    later false z n s e y first = refl
    later true z n s e y first =
        let none = h (suc n) z e s in
        let some = at_first (Some y) first n in
        absurd (omega (arith, none, some))

    by_first : (o : Option Y) → f x ≡ o → (((n : ℕ) (z : X) → slice_get xs n ≡ Some z → is_some (f z) ≡ true → length (filter_map f (take n xs)) ≡ 0) → length (filter_map f xs) ≤ 1) →
        length (cons_option (f x) (filter_map f xs)) ≤ 1
    by_first None e ih =
        let rest = ih (λ n z there some. sym (at_first None e n) ∙ h (suc n) z there some) in
        let same : length (cons_option (f x) (filter_map f xs)) ≡ length (filter_map f xs) = ap (λ p. length (cons_option p (filter_map f xs))) e in
        omega (arith, rest, same)
    by_first (Some y) e ih =
        let none = none_given f xs (λ n z there. later (is_some (f z)) z n refl there y e) in
        let same : length (cons_option (f x) (filter_map f xs)) ≡ suc (length (filter_map f xs)) = ap (λ p. length (cons_option p (filter_map f xs))) e in
        omega (arith, none, same)

defined_few : {X : Type 0} (imported : ℕ) (xs : List X) → imported ≤ 1 → ((n : ℕ) (x : X) → slice_get xs n ≡ Some x → imported + n ≡ 0) → imported + length xs ≤ 1
defined_few imported [] h none = omega (arith, h)
defined_few imported (x ∷ []) h none = let z = none 0 x refl in omega (arith, z)
defined_few imported (x ∷ y ∷ xs) h none = let z = none 1 y refl in absurd (omega (arith, z))

pub one_table : (m : Module) → NoFault (import_fault m) m.imports → NoFault (module_table_fault m) m.tables → length (tables_of m) ≤ 1
one_table m imports tables =
    let f : Import → Option Limits = λ i. table_import i.kind in
    let few = one_given f m.imports (λ n x there some. is_zero (length (filter_map f (take n m.imports))) (row_table (length m.types) _ _ x.kind (imports n x there) some)) in
    let both = defined_few (length (filter_map f m.imports)) m.tables few (λ n x there. is_zero (length (filter_map f m.imports) + n) (table_valid (nat_eq (length (filter_map f m.imports) + n) 0) x (tables n x there)).0) in
    let l = length-append (filter_map f m.imports) m.tables in
    omega (arith, both, l)

pub one_memory : (m : Module) → NoFault (import_fault m) m.imports → NoFault (module_memory_fault m) m.memories → length (memories_of m) ≤ 1
one_memory m imports memories =
    let f : Import → Option Limits = λ i. memory_import i.kind in
    let few = one_given f m.imports (λ n x there some. is_zero (length (filter_map f (take n m.imports))) (row_memory (length m.types) _ _ x.kind (imports n x there) some)) in
    let both = defined_few (length (filter_map f m.imports)) m.memories few (λ n x there. is_zero (length (filter_map f m.imports) + n) (memory_valid (nat_eq (length (filter_map f m.imports) + n) 0) x (memories n x there)).0) in
    let l = length-append (filter_map f m.imports) m.memories in
    omega (arith, both, l)

-- ---- types of functions

all_cons : {X : Type 0} (P : X → Type 0) (x : X) (xs : List X) → P x → All P xs → All P (x ∷ xs)
all_cons P x xs p all zero d h = p
all_cons P x xs p all (suc k) d h = all k d (omega (arith, h))

all_given : {X Y : Type 0} (f : X → Option Y) (P : Y → Type 0) (xs : List X) → ((n : ℕ) (x : X) (y : Y) → slice_get xs n ≡ Some x → f x ≡ Some y → P y) → All P (filter_map f xs)
all_given f P [] h = λ k d less. absurd (omega (arith, less))
all_given {X} {Y} f P (x ∷ xs) h = more (f x) refl (all_given f P xs (λ n z y e s. h (suc n) z y e s))
  where
    more : (o : Option Y) → f x ≡ o → All P (filter_map f xs) → All P (cons_option o (filter_map f xs))
    more None e all = all
    more (Some y) e all = all_cons P y (filter_map f xs) (h 0 x y refl e) all

all_mapped : {X Y : Type 0} (f : X → Y) (P : Y → Type 0) (xs : List X) → ((n : ℕ) (x : X) → slice_get xs n ≡ Some x → P (f x)) → All P (map f xs)
all_mapped f P [] h = λ k d less. absurd (omega (arith, less))
all_mapped f P (x ∷ xs) h = all_cons P (f x) (map f xs) (h 0 x refl) (all_mapped f P xs (λ n z e. h (suc n) z e))

row_func : (types : List FuncType) (a b : Bool) (k : ImportKind) (t : ℕ) → import_row (length types) a b k ≡ None → func_import k ≡ Some t → t < length types
row_func types a b (import.Func u) t h e = let same : u ≡ t = cc in subst (λ n. n < length types) same (row_valid types a b (import.Func u) h)
row_func types a b (import.Table l) t h e = cc
row_func types a b (import.Memory l) t h e = cc
row_func types a b (import.Global g) t h e = cc

pub has_types : (m : Module) → NoFault (λ n. type_fault) m.types → NoFault (import_fault m) m.imports → NoFault (λ n. func_fault m) m.funcs → HasTypes m
has_types m types imports funcs =
    let f : Import → Option ℕ = λ i. func_import i.kind in
    let P : ℕ → Type 0 = λ t. t < length m.types in
    record {
      few = all_from (λ n. type_fault) TypeValid m.types (λ n. type_valid) types;
      known = All-append P (filter_map f m.imports) (map (λ (g : Func). g.ty) m.funcs)
          (all_given f P m.imports (λ n x t there is. row_func m.types _ _ x.kind t (imports n x there) is))
          (all_mapped (λ (g : Func). g.ty) P m.funcs (λ n g there. func_valid m g (funcs n g there)));
      own = all_from (λ n. func_fault m) (λ (g : Func). g.ty < length m.types) m.funcs (λ n. func_valid m) funcs;
    }

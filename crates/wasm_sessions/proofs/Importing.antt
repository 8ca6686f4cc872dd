-- What the addresses of a new instance name.
use Rattle.std.proofs.Common.{◌≡◌, ℕ, zero, suc, ◌+◌, ◌&&◌, Bool, true, false, IsTrue, List, [], ◌∷◌, ◌++◌, Option, Some, None, option_map, All, length, map, slice_get, refl, sym, ap, ◌∙◌, arith, append_assoc, length-append}
use Rattle.std.specs.List.{filter_map, cons_option, range_with_len}
use Rattle.std.proofs.lemmas.List.Elements.{All-nil, All-cons}
use Rattle.wasm_values.specs.declared.number.ValType.{ValType}
use Rattle.wasm_values.specs.declared.number.ValType.TheVariants.{I32, I64}
use Rattle.wasm_syntax.specs.declared.module.FuncType.{FuncType}
use Rattle.wasm_syntax.specs.declared.module.GlobalType.{GlobalType}
use Rattle.wasm_syntax.specs.declared.module.Import.{Import}
use Rattle.wasm_syntax.specs.declared.module.ImportKind.{ImportKind}
use Rattle.wasm_syntax.specs.declared.module.ImportKind.TheVariants as import
use Rattle.wasm_typing.specs.Valid.{func_import, table_import, memory_import, global_import, type_or_none, type_at}
use Rattle.wasm_store.specs.declared.store.FuncInst.{FuncInst}
use Rattle.wasm_store.specs.declared.store.TableInst.{TableInst}
use Rattle.wasm_store.specs.declared.store.MemInst.{MemInst}
use Rattle.wasm_store.specs.declared.store.GlobalInst.{GlobalInst}
use Rattle.wasm_store.specs.declared.store.Extern.{Extern}
use Rattle.wasm_store.specs.declared.store.Extern.TheVariants.{Func, Table, Memory, Global}
use Rattle.wasm_store.specs.declared.store.Store.{Store}
use Rattle.wasm_values.specs.Types.{is_same_type}
use Rattle.wasm_store.specs.Control.{type_of_inst}
use Rattle.wasm_store.proofs.TypeLaws.{types-eq}
use Rattle.wasm_sessions.specs.Matching.{is_func_of_type, is_table_within, is_memory_within, is_same_flag, is_global_of_type, does_match}
use Rattle.wasm_sessions.specs.Instantiation.{func_in_extern, table_in_extern, memory_in_extern, global_in_extern}

-- ---- lists

pub map-parts : {A B : Type 0} → (f : A → B) (xs ys : List A) → map f (xs ++ ys) ≡ map f xs ++ map f ys
map-parts f [] ys = refl
map-parts f (x ∷ xs) ys = ap (λ l. f x ∷ l) (map-parts f xs ys)

pub map-same : {A B : Type 0} → (f g : A → B) → ((x : A) → f x ≡ g x) → (xs : List A) → map f xs ≡ map g xs
map-same f g h [] = refl
map-same f g h (x ∷ xs) = ap (λ y. y ∷ map f xs) (h x) ∙ ap (λ l. g x ∷ l) (map-same f g h xs)

pub get-map-is : {A B : Type 0} → (f : A → B) (xs : List A) (n : ℕ) → slice_get (map f xs) n ≡ option_map f (slice_get xs n)
get-map-is f [] n = refl
get-map-is f (x ∷ xs) zero = refl
get-map-is f (x ∷ xs) (suc n) = get-map-is f xs n

-- Items that are imported and those that are new, as the images of addresses.
pub two_parts : {B : Type 0} → (g : ℕ → Option B) (xs ys : List B) (a b : List ℕ) → map (λ x. Some x) xs ≡ map g a → map (λ x. Some x) ys ≡ map g b → map (λ x. Some x) (xs ++ ys) ≡ map g (a ++ b)
two_parts g xs ys a b h k =
    map-parts (λ x. Some x) xs ys ∙ ap (λ l. l ++ map (λ x. Some x) ys) h ∙ ap (λ l. map g a ++ l) k ∙ sym (map-parts g a b)

pub get-seam : {A : Type 0} → (xs : List A) (y : A) (ys : List A) → slice_get (xs ++ y ∷ ys) (length xs) ≡ Some y
get-seam [] y ys = refl
get-seam (x ∷ xs) y ys = get-seam xs y ys

-- What is appended to a list is found at the next free places.
pub new_parts : {A B : Type 0} → (f : A → B) (g : ℕ → Option B) (xs ys : List A) → ((n : ℕ) → g n ≡ option_map f (slice_get (xs ++ ys) n)) → map (λ x. Some x) (map f ys) ≡ map g (range_with_len (length xs) (length ys))
new_parts f g xs [] h = refl
new_parts f g xs (y ∷ ys) h =
    let here : g (length xs) ≡ Some (f y) = h (length xs) ∙ ap (option_map f) (get-seam xs y ys) in
    let longer : length (xs ++ y ∷ []) ≡ length xs + 1 = length-append xs (y ∷ []) in
    let moved : (n : ℕ) → g n ≡ option_map f (slice_get ((xs ++ y ∷ []) ++ ys) n) = λ n. h n ∙ ap (λ l. option_map f (slice_get l n)) (sym (append_assoc xs (y ∷ []) ys)) in
    let rest : map (λ x. Some x) (map f ys) ≡ map g (range_with_len (length xs + 1) (length ys)) =
    new_parts f g (xs ++ y ∷ []) ys moved ∙ ap (λ n. map g (range_with_len n (length ys))) longer
    in
    ap (λ o. o ∷ map (λ x. Some x) (map f ys)) (sym here) ∙ ap (λ l. g (length xs) ∷ l) rest

-- ---- imports

-- What is wanted of an import is what is found at an extern's address.
abbrev pub Agrees : {B : Type 0} → (ℕ → Option B) → Option B → Option ℕ → Type 0
Agrees g None None = Unit {0}
Agrees g None (Some a) = ⊥
Agrees g (Some b) None = ⊥
Agrees g (Some b) (Some a) = g a ≡ Some b

cons_agree : {B : Type 0} → (g : ℕ → Option B) (o : Option B) (p : Option ℕ) (xs : List B) (a : List ℕ) → Agrees g o p → map (λ x. Some x) xs ≡ map g a → map (λ x. Some x) (cons_option o xs) ≡ map g (cons_option p a)
cons_agree g None None xs a h k = k
cons_agree g None (Some n) xs a h k = absurd h
cons_agree g (Some b) None xs a h k = absurd h
cons_agree g (Some b) (Some n) xs a h k = ap (λ o. o ∷ map (λ x. Some x) xs) (sym h) ∙ ap (λ l. g n ∷ l) k

pub imported_parts : {B : Type 0} → (s : Store) (types : List FuncType) (want : ImportKind → Option B) (named : Extern → Option ℕ) (g : ℕ → Option B) → ((e : Extern) (k : ImportKind) → IsTrue (does_match s types e k) → Agrees g (want k) (named e)) → (externs : List Extern) (imports : List Import) → length externs ≡ length imports → ((k : ℕ) (e : Extern) (i : Import) → slice_get externs k ≡ Some e → slice_get imports k ≡ Some i → IsTrue (does_match s types e i.kind)) → map (λ x. Some x) (filter_map (λ (i : Import). want i.kind) imports) ≡ map g (filter_map named externs)
imported_parts s types want named g agree [] [] count each = refl
imported_parts s types want named g agree [] (i ∷ is) count each = let no : ⊥ = omega (arith, count) in absurd no
imported_parts s types want named g agree (e ∷ es) [] count each = let no : ⊥ = omega (arith, count) in absurd no
imported_parts s types want named g agree (e ∷ es) (i ∷ is) count each =
    let fewer : length es ≡ length is = omega (arith, count) in
    cons_agree g (want i.kind) (named e) (filter_map (λ (i : Import). want i.kind) is) (filter_map named es) (agree e i.kind (each 0 e i refl refl)) (
    imported_parts s types want named g agree es is fewer (λ k. each (suc k))
    )

-- ---- the four kinds

-- A function that was found has the wanted type.
func_found : (types : List FuncType) (g : ℕ → Option FuncType) (a t : ℕ) (o : Option FuncInst) (p : Option FuncType) → ((f : FuncInst) → o ≡ Some f → g a ≡ Some (type_of_inst f)) → slice_get types t ≡ p → IsTrue (is_func_of_type o p) → g a ≡ Some (type_at types t)
func_found types g a t None p still there h = cc
func_found types g a t (Some f) None still there h = cc
func_found types g a t (Some f) (Some w) still there h =
    still f refl ∙ ap (λ x. Some x) (types-eq (type_of_inst f) w h) ∙ ap (λ o. Some (type_or_none o)) (sym there)

-- The wanted type of an import, if it is a function.
abbrev pub func_wanted : List FuncType → ImportKind → Option FuncType
func_wanted types k = option_map (type_at types) (func_import k)

pub funcs_agree : (s : Store) (types : List FuncType) (g : ℕ → Option FuncType) → ((a : ℕ) (f : FuncInst) → slice_get s.funcs a ≡ Some f → g a ≡ Some (type_of_inst f)) → (e : Extern) (k : ImportKind) → IsTrue (does_match s types e k) → Agrees g (func_wanted types k) (func_in_extern e)
funcs_agree s types g still (Func a) (import.Func t) h = func_found types g a t (slice_get s.funcs a) (slice_get types t) (still a) refl h
funcs_agree s types g still (Table a) (import.Table l) h = tt
funcs_agree s types g still (Memory a) (import.Memory l) h = tt
funcs_agree s types g still (Global a) (import.Global t) h = tt
funcs_agree s types g still _ _ h = cc

same_type-is : (a b : ValType) → IsTrue (is_same_type a b) → a ≡ b
same_type-is I32 I32 h = refl
same_type-is I32 I64 h = cc
same_type-is I64 I32 h = cc
same_type-is I64 I64 h = refl

same_flag-is : (a b : Bool) → IsTrue (is_same_flag a b) → a ≡ b
same_flag-is true true h = refl
same_flag-is true false h = cc
same_flag-is false true h = cc
same_flag-is false false h = refl

both : (a b : Bool) → IsTrue (a && b) → IsTrue a × IsTrue b
both true b h = (refl, h)
both false b h = cc

global_types-is : (a b : GlobalType) → IsTrue (is_same_type a.value b.value && is_same_flag a.mutable b.mutable) → a ≡ b
global_types-is a b h =
    let parts = both (is_same_type a.value b.value) (is_same_flag a.mutable b.mutable) h in
    let make : ValType → Bool → GlobalType = λ v m. record { value = v; mutable = m } in
    ap (λ v. make v a.mutable) (same_type-is a.value b.value parts.0) ∙ ap (λ m. make b.value m) (same_flag-is a.mutable b.mutable parts.1)

global_found : (g : ℕ → Option GlobalType) (a : ℕ) (t : GlobalType) (o : Option GlobalInst) → ((x : GlobalInst) → o ≡ Some x → g a ≡ Some x.ty) → IsTrue (is_global_of_type o t) → g a ≡ Some t
global_found g a t None still h = cc
global_found g a t (Some x) still h = still x refl ∙ ap (λ y. Some y) (global_types-is x.ty t h)

pub globals_agree : (s : Store) (types : List FuncType) (g : ℕ → Option GlobalType) → ((a : ℕ) (x : GlobalInst) → slice_get s.globals a ≡ Some x → g a ≡ Some x.ty) → (e : Extern) (k : ImportKind) → IsTrue (does_match s types e k) → Agrees g (global_import k) (global_in_extern e)
globals_agree s types g still (Func a) (import.Func t) h = tt
globals_agree s types g still (Table a) (import.Table l) h = tt
globals_agree s types g still (Memory a) (import.Memory l) h = tt
globals_agree s types g still (Global a) (import.Global t) h = global_found g a t (slice_get s.globals a) (still a) h
globals_agree s types g still _ _ h = cc

table_found : {B : Type 0} → (g : ℕ → Option B) (b : B) (a : ℕ) (l : _) (o : Option TableInst) → ((x : TableInst) → o ≡ Some x → g a ≡ Some b) → IsTrue (is_table_within o l) → g a ≡ Some b
table_found g b a l None still h = cc
table_found g b a l (Some x) still h = still x refl

-- That a table is wanted.
abbrev pub table_wanted : ImportKind → Option (Unit {0})
table_wanted k = option_map (λ _. tt) (table_import k)

pub tables_agree : (s : Store) (types : List FuncType) (g : ℕ → Option (Unit {0})) → ((a : ℕ) (x : TableInst) → slice_get s.tables a ≡ Some x → g a ≡ Some tt) → (e : Extern) (k : ImportKind) → IsTrue (does_match s types e k) → Agrees g (table_wanted k) (table_in_extern e)
tables_agree s types g still (Func a) (import.Func t) h = tt
tables_agree s types g still (Table a) (import.Table l) h = table_found g tt a l (slice_get s.tables a) (still a) h
tables_agree s types g still (Memory a) (import.Memory l) h = tt
tables_agree s types g still (Global a) (import.Global t) h = tt
tables_agree s types g still _ _ h = cc

memory_found : {B : Type 0} → (g : ℕ → Option B) (b : B) (a : ℕ) (l : _) (o : Option MemInst) → ((x : MemInst) → o ≡ Some x → g a ≡ Some b) → IsTrue (is_memory_within o l) → g a ≡ Some b
memory_found g b a l None still h = cc
memory_found g b a l (Some x) still h = still x refl

-- That a memory is wanted.
abbrev pub memory_wanted : ImportKind → Option (Unit {0})
memory_wanted k = option_map (λ _. tt) (memory_import k)

pub memories_agree : (s : Store) (types : List FuncType) (g : ℕ → Option (Unit {0})) → ((a : ℕ) (x : MemInst) → slice_get s.memories a ≡ Some x → g a ≡ Some tt) → (e : Extern) (k : ImportKind) → IsTrue (does_match s types e k) → Agrees g (memory_wanted k) (memory_in_extern e)
memories_agree s types g still (Func a) (import.Func t) h = tt
memories_agree s types g still (Table a) (import.Table l) h = tt
memories_agree s types g still (Memory a) (import.Memory l) h = memory_found g tt a l (slice_get s.memories a) (still a) h
memories_agree s types g still (Global a) (import.Global t) h = tt
memories_agree s types g still _ _ h = cc

-- ---- what such an image tells

-- Each address names something.
pub image_all : {B : Type 0} → (g : ℕ → Option B) (P : ℕ → Type 0) (xs : List B) (a : List ℕ) → ((n : ℕ) (b : B) → g n ≡ Some b → P n) → map (λ x. Some x) xs ≡ map g a → All P a
image_all g P [] [] tells h = All-nil P
image_all g P [] (n ∷ a) tells h = cc
image_all g P (x ∷ xs) [] tells h = cc
image_all g P (x ∷ xs) (n ∷ a) tells h =
    let here : g n ≡ Some x = cc in
    let rest : map (λ x. Some x) xs ≡ map g a = cc in
    All-cons P n a (tells n x here) (image_all g P xs a tells rest)

pub image_length : {B : Type 0} → (g : ℕ → Option B) (xs : List B) (a : List ℕ) → map (λ x. Some x) xs ≡ map g a → length xs ≡ length a
image_length g [] [] h = refl
image_length g [] (n ∷ a) h = cc
image_length g (x ∷ xs) [] h = cc
image_length g (x ∷ xs) (n ∷ a) h =
    let rest : map (λ x. Some x) xs ≡ map g a = cc in
    let few = image_length g xs a rest in
    omega (arith, few)

cons_then : {B C : Type 0} → (f : B → C) (o : Option B) (ys : List C) (xs : List B) → ys ≡ map f xs → cons_option (option_map f o) ys ≡ map f (cons_option o xs)
cons_then f None ys xs h = h
cons_then f (Some y) ys xs h = ap (λ l. f y ∷ l) h

-- What is kept of a list and then changed.
pub filter_map-then : {A B C : Type 0} → (h : A → Option B) (f : B → C) (xs : List A) → filter_map (λ x. option_map f (h x)) xs ≡ map f (filter_map h xs)
filter_map-then h f [] = refl
filter_map-then h f (x ∷ xs) = cons_then f (h x) (filter_map (λ x. option_map f (h x)) xs) (filter_map h xs) (filter_map-then h f xs)

-- What an instantiation allocates is typed.
use Rattle.std.proofs.Common.{◌≡◌, ℕ, zero, suc, ◌+◌, ◌*◌, ◌^◌, ◌<◌, ◌≤◌, if◌then◌else◌, Bool, true, false, List, [], ◌∷◌, ◌++◌, Option, Some, None, IfSome, option_map, All, length, map, slice_get, refl, sym, ap, subst, ◌∙◌, arith, length-append}
use Rattle.std.specs.Prelude.{slice_index}
use Rattle.std.specs.List.{filter_map, flat_map, enumerate_from, range_with_len}
use Rattle.std.proofs.lemmas.List.{length-map, length-replicate}
use Rattle.std.proofs.lemmas.List.FromFn.{length-enumerate_from}
use Rattle.std.proofs.lemmas.List.Elements.{All-nil, All-cons, All-append, All-map, All-replicate, All-head, All-tail}
use Rattle.std.proofs.lemmas.Option.{slice_get_within}
use Rattle.wasm_values.specs.declared.number.Val.{Val}
use Rattle.wasm_values.specs.declared.number.ValType.{ValType}
use Rattle.wasm_values.specs.Operators.{type_of}
use Rattle.wasm_syntax.specs.declared.instr.Instr as source
use Rattle.wasm_syntax.specs.declared.module.GlobalType.{GlobalType}
use Rattle.wasm_syntax.specs.declared.module.Limits.{Limits}
use Rattle.wasm_syntax.specs.declared.module.Import.{Import}
use Rattle.wasm_syntax.specs.declared.module.Export.{Export}
use Rattle.wasm_syntax.specs.declared.module.ExportKind.{ExportKind}
use Rattle.wasm_syntax.specs.declared.module.ExportKind.TheVariants as export
use Rattle.wasm_syntax.specs.declared.module.Global.{Global as GlobalOf}
use Rattle.wasm_syntax.specs.declared.module.Func.{Func as FuncOf}
use Rattle.wasm_syntax.specs.declared.module.Elem.{Elem}
use Rattle.wasm_syntax.specs.declared.module.Module.{Module}
use Rattle.wasm_syntax.specs.Trees.{sequence_of}
use Rattle.wasm_typing.specs.Valid.{func_import, table_import, memory_import, global_import, type_or_none, type_at, func_types_of, funcs_of, tables_of, memories_of, imported_globals_of, globals_of, context_of, immutable_type, const_type, TypeValid, TableValid, MemoryValid, GlobalValid, ExportValid, ElemValid, FuncValid, ValInRange, SequenceInRange, LimitsInRange, IsWord, Valid}
use Rattle.wasm_store.specs.declared.store.FuncInst.{FuncInst}
use Rattle.wasm_store.specs.declared.store.TableInst.{TableInst}
use Rattle.wasm_store.specs.declared.store.MemInst.{MemInst}
use Rattle.wasm_store.specs.declared.store.GlobalInst.{GlobalInst}
use Rattle.wasm_store.specs.declared.store.Extern.{Extern}
use Rattle.wasm_store.specs.declared.store.Store.{Store}
use Rattle.wasm_store.specs.Control.{type_of_inst}
use Rattle.type_safety.specs.Shapes.{shape_of, func_type_at, IsContextOf, ExternExists}
use Rattle.type_safety.specs.Stores.{FuncInstTyped, TableTyped, MemoryTyped, GlobalTyped, InstanceTyped, StoreTyped}
use Rattle.type_safety.proofs.Lists.{of_get, get-map, of_option_map, all-get, there}
use Rattle.wasm_sessions.specs.Matching.{MatchImports}
use Rattle.wasm_sessions.specs.Instantiation.{value_of_code, global_value, func_in_extern, table_in_extern, memory_in_extern, global_in_extern, func_addresses, table_addresses, memory_addresses, global_addresses, exported_extern, made_instance, made_func, made_table, made_memory, made_global, allocated}
use Rattle.wasm_sessions.proofs.Extending.{all-map, get-append, Extends, func_typed_still, table_typed_still, instance_typed_still}
use Rattle.wasm_sessions.proofs.Importing.{map-parts, map-same, get-map-is, two_parts, get-seam, new_parts, imported_parts, func_wanted, funcs_agree, globals_agree, table_wanted, tables_agree, memory_wanted, memories_agree, image_all, image_length, filter_map-then}

-- ---- constant expressions

pub slice_index-is : (xs : List ℕ) (n x : ℕ) → slice_get xs n ≡ Some x → slice_index xs n ≡ x
slice_index-is [] n x h = cc
slice_index-is (y ∷ xs) zero x h = cc
slice_index-is (y ∷ xs) (suc n) x h = slice_index-is xs n x h

not_none : (b : Bool) (x t : ValType) → (if b then None else Some x) ≡ Some t → x ≡ t
not_none true x t h = cc
not_none false x t h = cc

immutable-is : (o : Option GlobalType) (t : ValType) → immutable_type o ≡ Some t → (g : GlobalType) × (o ≡ Some g) × (g.value ≡ t)
immutable-is None t h = cc
immutable-is (Some g) t h = (g, refl, not_none g.mutable g.value t h)

-- The value of a constant expression has its type, where the globals that it may read are these.
const_typed : (globals : List GlobalInst) (addresses : List ℕ) (types : List GlobalType) (t : ValType) → All GlobalTyped globals → map (λ x. Some x) types ≡ map (λ a. option_map (λ (g : GlobalInst). g.ty) (slice_get globals a)) addresses → (init : List source.Instr) → SequenceInRange (sequence_of init) → const_type types init ≡ Some t → (type_of (value_of_code globals addresses (sequence_of init)) ≡ t) × ValInRange (value_of_code globals addresses (sequence_of init))
const_typed globals addresses types t all named (source.Const v ∷ []) range h = (cc, range.0)
const_typed globals addresses types t all named (source.GlobalGet x ∷ []) range h =
    let g = immutable-is (slice_get types x) t h in
    let mapped : slice_get (map (λ a. option_map (λ (g : GlobalInst). g.ty) (slice_get globals a)) addresses) x ≡ Some (Some g.0) =
    ap (λ l. slice_get l x) (sym named) ∙ get-map (λ x. Some x) types x g.0 g.1
    in
    let a = of_get (λ a. option_map (λ (g : GlobalInst). g.ty) (slice_get globals a)) addresses x (Some g.0) mapped in
    let global = of_option_map (λ (g : GlobalInst). g.ty) (slice_get globals a.0) g.0 a.2 in
    let typed = all-get GlobalTyped globals a.0 global.0 all global.1 in
    let value : global.0.value ≡ global_value (slice_get globals (slice_index addresses x)) =
    sym (ap global_value (ap (slice_get globals) (slice_index-is addresses x a.0 a.1) ∙ global.1))
    in (
      subst (λ (v : Val). type_of v ≡ t) value (typed.0 ∙ ap (λ (y : GlobalType). y.value) global.2 ∙ g.2),
      subst ValInRange value typed.1,
    )
const_typed globals addresses types t all named _ range h = cc

-- ---- lists

all-enumerated : {A : Type 0} → (P : ℕ × A → Type 0) (n : ℕ) (xs : List A) → ((k : ℕ) (x : A) → slice_get xs k ≡ Some x → P (n + k, x)) → All P (enumerate_from n xs)
all-enumerated P n [] h = All-nil P
all-enumerated P n (x ∷ xs) h =
    let first : n + 0 ≡ n = omega arith in
    let next : (k : ℕ) → n + suc k ≡ n + 1 + k = λ k. omega arith in
    All-cons P (n, x) (enumerate_from (n + 1) xs) (subst (λ m. P (m, x)) first (h 0 x refl)) (
    all-enumerated P (n + 1) xs (λ k y g. subst (λ m. P (m, y)) (next k) (h (suc k) y g))
    )

all-flat_map : {A B : Type 0} → (P : B → Type 0) (f : A → List B) (xs : List A) → All (λ x. All P (f x)) xs → All P (flat_map f xs)
all-flat_map P f [] h = All-nil P
all-flat_map P f (x ∷ xs) h =
    All-append P (f x) (flat_map f xs) (All-head (λ x. All P (f x)) x xs h) (all-flat_map P f xs (All-tail (λ x. All P (f x)) x xs h))

types_of_made : (m : Module) (n j : ℕ) (fs : List FuncOf) → map type_of_inst (map (made_func m n) (enumerate_from j fs)) ≡ map (type_at m.types) (map (λ (f : FuncOf). f.ty) fs)
types_of_made m n j [] = refl
types_of_made m n j (f ∷ fs) = ap (λ l. type_at m.types f.ty ∷ l) (types_of_made m n (j + 1) fs)

types_of_globals : (s : Store) (externs : List Extern) (gs : List GlobalOf) → map (λ (g : GlobalInst). g.ty) (map (made_global s externs) gs) ≡ map (λ (g : GlobalOf). g.ty) gs
types_of_globals s externs [] = refl
types_of_globals s externs (g ∷ gs) = ap (λ l. g.ty ∷ l) (types_of_globals s externs gs)

-- The one value of the unit type.
abbrev one : Unit {0}
one = tt

units : {A : Type 0} → (o : Option A) (x : A) → o ≡ Some x → option_map (λ _. one) o ≡ Some one
units o x h = ap (option_map (λ _. one)) h

module _ (s : Store) (store : StoreTyped s) (m : Module) (valid : Valid m) (externs : List Extern) (match : MatchImports s m externs) where
  pub extends : Extends (shape_of s) (shape_of (allocated s m externs))
  extends =
      record {
        funcs_more = map (made_func m (length s.instances)) (enumerate_from 0 m.funcs);
        funcs = refl;
        instances_more = made_instance s m externs ∷ [];
        instances = refl;
        globals_more = map (λ (g : GlobalInst). g.ty) (map (made_global s externs) m.globals);
        globals = map-parts (λ (g : GlobalInst). g.ty) s.globals (map (made_global s externs) m.globals);
        tables = omega (arith, length-append s.tables (map made_table m.tables));
        memories = omega (arith, length-append s.memories (map made_memory m.memories));
      }

  -- ---- what the addresses name

  pub funcs_image : map (λ x. Some x) (funcs_of m) ≡ map (func_type_at (shape_of (allocated s m externs))) (func_addresses s m externs)
  funcs_image =
      let g = func_type_at (shape_of (allocated s m externs)) in
      let made = map (made_func m (length s.instances)) (enumerate_from 0 m.funcs) in
      let indices = filter_map (λ (i : Import). func_import i.kind) m.imports in
      let still : (a : ℕ) (f : FuncInst) → slice_get s.funcs a ≡ Some f → g a ≡ Some (type_of_inst f) = λ a f h. ap (option_map type_of_inst) (get-append s.funcs made a f h) in
      let imported : map (λ x. Some x) (map (type_at m.types) indices) ≡ map g (filter_map func_in_extern externs) =
      ap (map (λ x. Some x)) (sym (filter_map-then (λ (i : Import). func_import i.kind) (type_at m.types) m.imports))
      ∙ imported_parts s m.types (func_wanted m.types) func_in_extern g (funcs_agree s m.types g still) externs m.imports match.count match.each
      in
      let many : length made ≡ length m.funcs = length-map (enumerate_from 0 m.funcs) (made_func m (length s.instances)) ∙ length-enumerate_from 0 m.funcs in
      let defined : map (λ x. Some x) (map (type_at m.types) (map (λ (f : FuncOf). f.ty) m.funcs)) ≡ map g (range_with_len (length s.funcs) (length m.funcs)) =
      ap (map (λ x. Some x)) (sym (types_of_made m (length s.instances) 0 m.funcs)) ∙ new_parts type_of_inst g s.funcs made (λ n. refl)
      ∙ ap (λ n. map g (range_with_len (length s.funcs) n)) many
      in
      ap (map (λ x. Some x)) (map-parts (type_at m.types) indices (map (λ (f : FuncOf). f.ty) m.funcs))
      ∙ two_parts g (map (type_at m.types) indices) (map (type_at m.types) (map (λ (f : FuncOf). f.ty) m.funcs)) (filter_map func_in_extern externs) (range_with_len (length s.funcs) (length m.funcs)) imported defined

  -- The types of the globals at the addresses of imports, in the old store.
  pub imported_globals_image : map (λ x. Some x) (imported_globals_of m) ≡ map (λ a. option_map (λ (g : GlobalInst). g.ty) (slice_get s.globals a)) (filter_map global_in_extern externs)
  imported_globals_image =
      let g : ℕ → Option GlobalType = λ a. option_map (λ (g : GlobalInst). g.ty) (slice_get s.globals a) in
      imported_parts s m.types global_import global_in_extern g (globals_agree s m.types g (λ a x h. ap (option_map (λ (g : GlobalInst). g.ty)) h)) externs m.imports match.count match.each

  pub globals_image : map (λ x. Some x) (globals_of m) ≡ map (slice_get (shape_of (allocated s m externs)).globals) (global_addresses s m externs)
  globals_image =
      let kind : GlobalInst → GlobalType = λ g. g.ty in
      let made = map (made_global s externs) m.globals in
      let g : ℕ → Option GlobalType = λ a. option_map kind (slice_get (s.globals ++ made) a) in
      let still : (a : ℕ) (x : GlobalInst) → slice_get s.globals a ≡ Some x → g a ≡ Some x.ty = λ a x h. ap (option_map kind) (get-append s.globals made a x h) in
      let imported : map (λ x. Some x) (imported_globals_of m) ≡ map g (filter_map global_in_extern externs) =
      imported_parts s m.types global_import global_in_extern g (globals_agree s m.types g still) externs m.imports match.count match.each
      in
      let many : length made ≡ length m.globals = length-map m.globals (made_global s externs) in
      let defined : map (λ x. Some x) (map (λ (g : GlobalOf). g.ty) m.globals) ≡ map g (range_with_len (length s.globals) (length m.globals)) =
      ap (map (λ x. Some x)) (sym (types_of_globals s externs m.globals)) ∙ new_parts kind g s.globals made (λ n. refl)
      ∙ ap (λ n. map g (range_with_len (length s.globals) n)) many
      in
      two_parts g (imported_globals_of m) (map (λ (g : GlobalOf). g.ty) m.globals) (filter_map global_in_extern externs) (range_with_len (length s.globals) (length m.globals)) imported defined
      ∙ map-same g (slice_get (map kind (s.globals ++ made))) (λ a. sym (get-map-is kind (s.globals ++ made) a)) (global_addresses s m externs)

  tables_image : map (λ x. Some x) (filter_map (λ (i : Import). table_wanted i.kind) m.imports ++ map (λ _. one) (map made_table m.tables)) ≡ map (λ a. option_map (λ _. one) (slice_get (s.tables ++ map made_table m.tables) a)) (table_addresses s m externs)
  tables_image =
      let made = map made_table m.tables in
      let g : ℕ → Option (Unit {0}) = λ a. option_map (λ _. one) (slice_get (s.tables ++ made) a) in
      let imported = imported_parts s m.types table_wanted table_in_extern g (tables_agree s m.types g (λ a x h. units (slice_get (s.tables ++ made) a) x (get-append s.tables made a x h))) externs m.imports match.count match.each in
      let defined : map (λ x. Some x) (map (λ _. one) made) ≡ map g (range_with_len (length s.tables) (length m.tables)) =
      new_parts (λ _. one) g s.tables made (λ n. refl) ∙ ap (λ n. map g (range_with_len (length s.tables) n)) (length-map m.tables made_table)
      in
      two_parts g (filter_map (λ (i : Import). table_wanted i.kind) m.imports) (map (λ _. one) made) (filter_map table_in_extern externs) (range_with_len (length s.tables) (length m.tables)) imported defined

  memories_image : map (λ x. Some x) (filter_map (λ (i : Import). memory_wanted i.kind) m.imports ++ map (λ _. one) (map made_memory m.memories)) ≡ map (λ a. option_map (λ _. one) (slice_get (s.memories ++ map made_memory m.memories) a)) (memory_addresses s m externs)
  memories_image =
      let made = map made_memory m.memories in
      let g : ℕ → Option (Unit {0}) = λ a. option_map (λ _. one) (slice_get (s.memories ++ made) a) in
      let imported = imported_parts s m.types memory_wanted memory_in_extern g (memories_agree s m.types g (λ a x h. units (slice_get (s.memories ++ made) a) x (get-append s.memories made a x h))) externs m.imports match.count match.each in
      let defined : map (λ x. Some x) (map (λ _. one) made) ≡ map g (range_with_len (length s.memories) (length m.memories)) =
      new_parts (λ _. one) g s.memories made (λ n. refl) ∙ ap (λ n. map g (range_with_len (length s.memories) n)) (length-map m.memories made_memory)
      in
      two_parts g (filter_map (λ (i : Import). memory_wanted i.kind) m.imports) (map (λ _. one) made) (filter_map memory_in_extern externs) (range_with_len (length s.memories) (length m.memories)) imported defined

  pub tables_length : length (tables_of m) ≡ length (table_addresses s m externs)
  tables_length =
      let wanted = filter_map-then (λ (i : Import). table_import i.kind) (λ _. one) m.imports in
      let imports = filter_map (λ (i : Import). table_import i.kind) m.imports in
      let made = map made_table m.tables in
      let unit : Limits → Unit {0} = λ _. one in
      let long = image_length (λ a. option_map (λ _. one) (slice_get (s.tables ++ made) a)) (filter_map (λ (i : Import). table_wanted i.kind) m.imports ++ map (λ _. one) made) (table_addresses s m externs) tables_image in
      let wants : length (filter_map (λ (i : Import). table_wanted i.kind) m.imports) ≡ length imports = ap length wanted ∙ length-map imports unit in
      let makes : length (map (λ (x : TableInst). one) made) ≡ length m.tables = length-map made (λ _. one) ∙ length-map m.tables made_table in
      length-append imports m.tables ∙ ap (λ n. n + length m.tables) (sym wants) ∙ ap (λ n. length (filter_map (λ (i : Import). table_wanted i.kind) m.imports) + n) (sym makes)
      ∙ sym (length-append (filter_map (λ (i : Import). table_wanted i.kind) m.imports) (map (λ _. one) made)) ∙ long

  pub memories_length : length (memories_of m) ≡ length (memory_addresses s m externs)
  memories_length =
      let wanted = filter_map-then (λ (i : Import). memory_import i.kind) (λ _. one) m.imports in
      let imports = filter_map (λ (i : Import). memory_import i.kind) m.imports in
      let made = map made_memory m.memories in
      let unit : Limits → Unit {0} = λ _. one in
      let long = image_length (λ a. option_map (λ _. one) (slice_get (s.memories ++ made) a)) (filter_map (λ (i : Import). memory_wanted i.kind) m.imports ++ map (λ _. one) made) (memory_addresses s m externs) memories_image in
      let wants : length (filter_map (λ (i : Import). memory_wanted i.kind) m.imports) ≡ length imports = ap length wanted ∙ length-map imports unit in
      let makes : length (map (λ (x : MemInst). one) made) ≡ length m.memories = length-map made (λ _. one) ∙ length-map m.memories made_memory in
      length-append imports m.memories ∙ ap (λ n. n + length m.memories) (sym wants) ∙ ap (λ n. length (filter_map (λ (i : Import). memory_wanted i.kind) m.imports) + n) (sym makes)
      ∙ sym (length-append (filter_map (λ (i : Import). memory_wanted i.kind) m.imports) (map (λ _. one) made)) ∙ long

  -- ---- the new instance

  funcs_exist : All (λ a. a < length (shape_of (allocated s m externs)).funcs) (func_addresses s m externs)
  funcs_exist =
      let sh = shape_of (allocated s m externs) in
      image_all (func_type_at sh) (λ a. a < length sh.funcs) (funcs_of m) (func_addresses s m externs) (λ a t h. let f = of_option_map type_of_inst (slice_get sh.funcs a) t h in slice_get_within sh.funcs a f.0 f.1) funcs_image

  globals_exist : All (λ a. a < length (shape_of (allocated s m externs)).globals) (global_addresses s m externs)
  globals_exist =
      let sh = shape_of (allocated s m externs) in
      image_all (slice_get sh.globals) (λ a. a < length sh.globals) (globals_of m) (global_addresses s m externs) (λ a t h. slice_get_within sh.globals a t h) globals_image

  tables_exist : All (λ a. a < length (s.tables ++ map made_table m.tables)) (table_addresses s m externs)
  tables_exist =
      let all = s.tables ++ map made_table m.tables in
      image_all (λ a. option_map (λ _. one) (slice_get all a)) (λ a. a < length all) (filter_map (λ (i : Import). table_wanted i.kind) m.imports ++ map (λ _. one) (map made_table m.tables)) (table_addresses s m externs) (
      λ a t h. let f = of_option_map (λ _. one) (slice_get all a) t h in slice_get_within all a f.0 f.1
      ) tables_image

  memories_exist : All (λ a. a < length (s.memories ++ map made_memory m.memories)) (memory_addresses s m externs)
  memories_exist =
      let all = s.memories ++ map made_memory m.memories in
      image_all (λ a. option_map (λ _. one) (slice_get all a)) (λ a. a < length all) (filter_map (λ (i : Import). memory_wanted i.kind) m.imports ++ map (λ _. one) (map made_memory m.memories)) (memory_addresses s m externs) (
      λ a t h. let f = of_option_map (λ _. one) (slice_get all a) t h in slice_get_within all a f.0 f.1
      ) memories_image

  pub funcs_length : length (func_types_of m) ≡ length (func_addresses s m externs)
  funcs_length =
      sym (length-map (func_types_of m) (type_at m.types)) ∙ image_length (func_type_at (shape_of (allocated s m externs))) (funcs_of m) (func_addresses s m externs) funcs_image

  pub globals_length : length (globals_of m) ≡ length (global_addresses s m externs)
  globals_length = image_length (slice_get (shape_of (allocated s m externs)).globals) (globals_of m) (global_addresses s m externs) globals_image

  -- The address at an index names something.
  pub func_at_index : (x : ℕ) → x < length (func_types_of m) → slice_index (func_addresses s m externs) x < length (shape_of (allocated s m externs)).funcs
  func_at_index x h = funcs_exist x 0 (subst (λ n. x < n) funcs_length h)

  export_exists : (k : ExportKind) → ExportValid m k → ExternExists (shape_of (allocated s m externs)) (exported_extern s m externs k)
  export_exists (export.Func x) h = func_at_index x h
  export_exists (export.Table x) h = tables_exist x 0 (subst (λ n. x < n) tables_length h)
  export_exists (export.Memory x) h = memories_exist x 0 (subst (λ n. x < n) memories_length h)
  export_exists (export.Global x) h = globals_exist x 0 (subst (λ n. x < n) globals_length h)

  elems_exist : (e : Elem) → ElemValid m e → All (λ a. a < length (shape_of (allocated s m externs)).funcs) (map (slice_index (func_addresses s m externs)) e.funcs)
  elems_exist e h =
      All-map (λ a. a < length (shape_of (allocated s m externs)).funcs) (slice_index (func_addresses s m externs)) e.funcs (
      all-map (λ x. x < length (func_types_of m)) (λ x. slice_index (func_addresses s m externs) x < length (shape_of (allocated s m externs)).funcs) e.funcs func_at_index h.2
      )

  pub instance_typed : InstanceTyped (shape_of (allocated s m externs)) (made_instance s m externs)
  instance_typed =
      let sh = shape_of (allocated s m externs) in
      record {
        types = valid.parts.types;
        funcs = funcs_exist;
        tables = tables_exist;
        one_table = subst (λ n. n ≤ 1) tables_length valid.parts.one_table;
        memories = memories_exist;
        one_memory = subst (λ n. n ≤ 1) memories_length valid.parts.one_memory;
        globals = globals_exist;
        exports =
            All-map (λ e. ExternExists sh e.1) (λ (e : Export). (e.name, exported_extern s m externs e.kind)) m.exports (
            all-map (λ (e : Export). ExportValid m e.kind) (λ (e : Export). ExternExists sh (exported_extern s m externs e.kind)) m.exports (λ e h. export_exists e.kind h) valid.parts.exports
            );
        elems =
            all-flat_map (λ a. a < length sh.funcs) (λ (e : Elem). map (slice_index (func_addresses s m externs)) e.funcs) m.elems (
            all-map (ElemValid m) (λ (e : Elem). All (λ a. a < length sh.funcs) (map (slice_index (func_addresses s m externs)) e.funcs)) m.elems elems_exist valid.parts.elems
            );
      }

  pub context_is : (f : FuncOf) → IsContextOf (shape_of (allocated s m externs)) (made_instance s m externs) (context_of m f)
  context_is f =
      record { types = refl; funcs = funcs_image; globals = globals_image; tables = tables_length; memories = memories_length }

  -- ---- what is new

  func_made : (k : ℕ) (f : FuncOf) → slice_get m.funcs k ≡ Some f → FuncInstTyped (shape_of (allocated s m externs)) (made_func m (length s.instances) (0 + k, f))
  func_made k f h =
      let at : 0 + k ≡ k = omega arith in
      let known : f.ty < length m.types = all-get (λ (f : FuncOf). f.ty < length m.types) m.funcs k f valid.parts.funcs h in
      let ty = there m.types f.ty known in
      let is : type_at m.types f.ty ≡ ty.0 = ap type_or_none ty.1 in
      let fine : TypeValid ty.0 = all-get TypeValid m.types f.ty ty.0 valid.parts.types ty.1 in
      let ranges = all-get (λ (f : FuncOf). IsWord f.ty × SequenceInRange (sequence_of f.body)) m.funcs k f valid.ranges.funcs h in (
        subst TypeValid (sym is) fine,
        record {
          inst = made_instance s m externs;
          inst_there = get-seam s.instances (made_instance s m externs) [];
          fn = f;
          fn_there = ap (slice_get m.funcs) at ∙ h;
          type_is = ty.1 ∙ ap (λ x. Some x) (sym is);
          context = context_of m f;
          context_is = context_is f;
          locals = refl;
          results = refl;
          body = all-get (FuncValid m) m.funcs k f valid.parts.bodies h;
          ranges = ranges.1;
        },
      )

  table_made : (l : Limits) → LimitsInRange l → TableValid l → TableTyped (shape_of (allocated s m externs)) (made_table l)
  table_made l range h =
      let P : Option ℕ → Type 0 = λ entry. IfSome entry (λ a. a < length (shape_of (allocated s m externs)).funcs) in
      let long = length-replicate l.min (let none : Option ℕ = None in none) in
      let word : l.min < 2 ^ 32 = range.0 in
      let few : l.min ≤ 4294967295 = omega (arith, word) in
      record {
        entries = All-replicate P l.min None tt;
        few = subst (λ n. n ≤ 4294967295) (sym long) few;
        max = subst (λ n. IfSome l.max (λ max. n ≤ max)) (sym long) h;
      }

  at_most : (n : ℕ) (max : Option ℕ) → IfSome max (λ max. (n ≤ max) × (max ≤ 65536)) → IfSome max (λ max. n ≤ max)
  at_most n None h = tt
  at_most n (Some max) h = h.0

  memory_made : (l : Limits) → MemoryValid l → MemoryTyped (made_memory l)
  memory_made l h =
      record {
        bytes = All-replicate (λ b. b < 256) (65536 * l.min) 0 (omega arith);
        pages = l.min;
        whole = length-replicate (65536 * l.min) 0 ∙ omega arith;
        few = h.0;
        max = at_most l.min l.max h.1;
      }

  global_made : (k : ℕ) (g : GlobalOf) → slice_get m.globals k ≡ Some g → GlobalTyped (made_global s externs g)
  global_made k g h =
      let const = all-get (GlobalValid m) m.globals k g valid.parts.globals h in
      let range = all-get (λ (g : GlobalOf). SequenceInRange (sequence_of g.init)) m.globals k g valid.ranges.globals h in
      const_typed s.globals (filter_map global_in_extern externs) (imported_globals_of m) g.ty.value store.globals imported_globals_image g.init range const

  all-by_place : {A : Type 0} → (P : A → Type 0) (xs : List A) → ((k : ℕ) (x : A) → slice_get xs k ≡ Some x → P x) → All P xs
  all-by_place P [] h = All-nil P
  all-by_place P (x ∷ xs) h = All-cons P x xs (h 0 x refl) (all-by_place P xs (λ k. h (suc k)))

  pub allocated_typed : StoreTyped (allocated s m externs)
  allocated_typed =
      let old = shape_of s in
      let sh = shape_of (allocated s m externs) in
      let e = extends in
      record {
        funcs =
            All-append (FuncInstTyped sh) s.funcs (map (made_func m (length s.instances)) (enumerate_from 0 m.funcs)) (
            all-map (FuncInstTyped old) (FuncInstTyped sh) s.funcs (func_typed_still old sh e) store.funcs
            ) (All-map (FuncInstTyped sh) (made_func m (length s.instances)) (enumerate_from 0 m.funcs) (all-enumerated (λ p. FuncInstTyped sh (made_func m (length s.instances) p)) 0 m.funcs func_made));
        tables =
            All-append (TableTyped sh) s.tables (map made_table m.tables) (all-map (TableTyped old) (TableTyped sh) s.tables (table_typed_still old sh e) store.tables) (
            All-map (TableTyped sh) made_table m.tables (
            all-by_place (λ l. TableTyped sh (made_table l)) m.tables (λ k l h. table_made l (all-get LimitsInRange m.tables k l valid.ranges.tables h) (all-get TableValid m.tables k l valid.parts.tables h))
            )
            );
        memories =
            All-append MemoryTyped s.memories (map made_memory m.memories) store.memories (
            All-map MemoryTyped made_memory m.memories (all-map MemoryValid (λ l. MemoryTyped (made_memory l)) m.memories memory_made valid.parts.memories)
            );
        globals =
            All-append GlobalTyped s.globals (map (made_global s externs) m.globals) store.globals (
            All-map GlobalTyped (made_global s externs) m.globals (all-by_place (λ g. GlobalTyped (made_global s externs g)) m.globals global_made)
            );
        instances =
            All-append (InstanceTyped sh) s.instances (made_instance s m externs ∷ []) (all-map (InstanceTyped old) (InstanceTyped sh) s.instances (instance_typed_still old sh e) store.instances) (
            All-cons (InstanceTyped sh) (made_instance s m externs) [] instance_typed (All-nil (InstanceTyped sh))
            );
      }

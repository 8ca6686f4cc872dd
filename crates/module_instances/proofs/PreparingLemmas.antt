-- What is prepared for an instantiation is what it allocates.
use Rattle.std.proofs.Common.{◌≡◌, ℕ, ◌+◌, ◌*◌, ◌/◌, ◌<◌, ◌&&◌, nat_le, Bool, List, [], ◌∷◌, ◌++◌, Option, Some, None, All, length, map, option_map, slice_get, refl, sym, ap, subst, ◌∙◌, arith, sum_by}
use Rattle.std.specs.Prelude.{slice_index}
use Rattle.std.specs.List.{filter_map, list_all, enumerate_from, range_with_len}
use Rattle.std.proofs.lemmas.List.{length-map, length-append, length-replicate}
use Rattle.std.proofs.lemmas.List.FromFn.{length-enumerate_from, length-range_with_len}
use Rattle.std.proofs.lemmas.List.Sums.{sum_by-append, sum_by-cons}
use Rattle.std.proofs.lemmas.Option.{slice_get_within}
use Rattle.wasm_syntax.specs.declared.module.Limits.{Limits}
use Rattle.wasm_syntax.specs.declared.module.Import.{Import}
use Rattle.wasm_syntax.specs.declared.module.Export.{Export}
use Rattle.wasm_syntax.specs.declared.module.ExportKind.{ExportKind}
use Rattle.wasm_syntax.specs.declared.module.ExportKind.TheVariants as export
use Rattle.wasm_syntax.specs.declared.module.Global.{Global as GlobalOf}
use Rattle.wasm_syntax.specs.declared.module.Module.{Module}
use Rattle.wasm_syntax.specs.Trees.{sequence_of}
use Rattle.wasm_typing.specs.Valid.{imported_globals_of, Valid}
use Rattle.wasm_store.specs.declared.store.FuncInst.{FuncInst}
use Rattle.wasm_store.specs.declared.store.TableInst.{TableInst}
use Rattle.wasm_store.specs.declared.store.MemInst.{MemInst}
use Rattle.wasm_store.specs.declared.store.GlobalInst.{GlobalInst}
use Rattle.wasm_store.specs.declared.store.Extern.{Extern}
use Rattle.wasm_store.specs.declared.store.Instance.{Instance}
use Rattle.wasm_store.specs.declared.store.Store.{Store}
use Rattle.wasm_store.specs.Memory.{pages_of}
use Rattle.type_safety.specs.Stores.{StoreTyped}
use Rattle.type_safety.proofs.Lists.{of_option_map}
use Rattle.wasm_reduce.specs.declared.policy.Policy.{Policy}
use Rattle.wasm_reduce.specs.Policies.{pages_in}
use Rattle.module_instances.specs.declared.numbering.Numbering.{Numbering}
use Rattle.module_instances.specs.declared.storing.Parts.{Parts}
use Rattle.wasm_sessions.specs.Matching.{MatchImports}
use Rattle.wasm_sessions.specs.Instantiation.{value_of_code, func_in_extern, table_in_extern, memory_in_extern, global_in_extern, func_addresses, table_addresses, memory_addresses, global_addresses, exported_extern, made_instance, made_func, made_table, made_memory, made_global, allocated, segments_fit}
use Rattle.module_instances.specs.Refusals.{entries_in, are_addresses, is_within_limits}
use Rattle.module_instances.specs.words.Building.{IsNumbering, stays_within, named_extern, numbered_instance, elem_fits_in, segment_fits_in, elem_fits_before, segment_fits_before, IsBefore, full}
use Rattle.module_instances.specs.words.Putting.{ArePartsFor, ArePartsOf}
use Rattle.wasm_sessions.proofs.Importing.{map-same, imported_parts, tables_agree, table_wanted, memories_agree, memory_wanted, image_all}
use Rattle.wasm_sessions.proofs.Allocating.{tables_length, memories_length, globals_length, imported_globals_image}

-- ---- the new globals

pub made_globals_are : (s : Store) (externs : List Extern) (m : Module) (gs slice : List GlobalInst) (named : List ℕ) → slice ≡ s.globals → named ≡ filter_map global_in_extern externs → gs ≡ map (λ (g : GlobalOf). record { ty = g.ty; value = value_of_code slice named (sequence_of g.init) }) m.globals → gs ≡ map (made_global s externs) m.globals
made_globals_are s externs m gs slice named same names is =
    let make : List GlobalInst → List ℕ → List GlobalInst = λ l n. map (λ (g : GlobalOf). record { ty = g.ty; value = value_of_code l n (sequence_of g.init) }) m.globals in
    is ∙ ap (λ l. make l named) same ∙ ap (make s.globals) names

-- ---- imported addresses

the_unit : {A : Type 0} → (o : Option A) (x : A) → o ≡ Some x → option_map (λ _. tt {0}) o ≡ Some (tt {0})
the_unit o x h = ap (option_map (λ _. tt {0})) h

module _ (s : Store) (store : StoreTyped s) (m : Module) (valid : Valid m) (externs : List Extern) (match : MatchImports s m externs) where
  tables_there : All (λ a. a < length s.tables) (filter_map table_in_extern externs)
  tables_there =
      let g : ℕ → Option (Unit {0}) = λ a. option_map (λ _. tt {0}) (slice_get s.tables a) in
      let image = imported_parts s m.types table_wanted table_in_extern g (tables_agree s m.types g (λ a x h. the_unit (slice_get s.tables a) x h)) externs m.imports match.count match.each in
      image_all g (λ a. a < length s.tables) (filter_map (λ (i : Import). table_wanted i.kind) m.imports) (filter_map table_in_extern externs)
      (λ a t h. let f = of_option_map (λ _. tt {0}) (slice_get s.tables a) t h in slice_get_within s.tables a f.0 f.1) image

  memories_there : All (λ a. a < length s.memories) (filter_map memory_in_extern externs)
  memories_there =
      let g : ℕ → Option (Unit {0}) = λ a. option_map (λ _. tt {0}) (slice_get s.memories a) in
      let image = imported_parts s m.types memory_wanted memory_in_extern g (memories_agree s m.types g (λ a x h. the_unit (slice_get s.memories a) x h)) externs m.imports match.count match.each in
      image_all g (λ a. a < length s.memories) (filter_map (λ (i : Import). memory_wanted i.kind) m.imports) (filter_map memory_in_extern externs)
      (λ a t h. let f = of_option_map (λ _. tt {0}) (slice_get s.memories a) t h in slice_get_within s.memories a f.0 f.1) image

  globals_there : All (λ a. a < length s.globals) (filter_map global_in_extern externs)
  globals_there =
      image_all (λ a. option_map (λ (g : GlobalInst). g.ty) (slice_get s.globals a)) (λ a. a < length s.globals) (imported_globals_of m) (filter_map global_in_extern externs)
      (λ a t h. let f = of_option_map (λ (g : GlobalInst). g.ty) (slice_get s.globals a) t h in slice_get_within s.globals a f.0 f.1) (imported_globals_image s store m valid externs match)

  pub before_is : (n : Numbering) (gs : List GlobalInst) → IsNumbering n (filter_map func_in_extern externs) (filter_map table_in_extern externs) (filter_map memory_in_extern externs) (filter_map global_in_extern externs) → gs ≡ map (made_global s externs) m.globals → IsBefore s m n gs
  before_is n gs named made =
      let T : List ℕ → Type 0 = λ l. All (λ a. a < length s.tables) l in
      let M : List ℕ → Type 0 = λ l. All (λ a. a < length s.memories) l in
      let G : List ℕ → Type 0 = λ l. All (λ a. a < length s.globals) l in
      let ts = filter_map table_in_extern externs in
      let ms = filter_map memory_in_extern externs in
      let vs = filter_map global_in_extern externs in
      let count : length gs ≡ length m.globals = ap length made ∙ length-map m.globals (made_global s externs) in
      record {
        tables_there = subst T (sym named.tables) tables_there;
        memories_there = subst M (sym named.memories) memories_there;
        globals_there = subst G (sym named.globals) globals_there;
        tables_count =
            tables_length s store m valid externs match ∙ length-append ts (range_with_len (length s.tables) (length m.tables))
            ∙ ap (λ k. length ts + k) (length-range_with_len (length s.tables) (length m.tables)) ∙ ap (λ l. length l + length m.tables) (sym named.tables);
        memories_count =
            memories_length s store m valid externs match ∙ length-append ms (range_with_len (length s.memories) (length m.memories))
            ∙ ap (λ k. length ms + k) (length-range_with_len (length s.memories) (length m.memories)) ∙ ap (λ l. length l + length m.memories) (sym named.memories);
        globals_count =
            globals_length s store m valid externs match ∙ length-append vs (range_with_len (length s.globals) (length m.globals))
            ∙ ap (λ k. length vs + k) (length-range_with_len (length s.globals) (length m.globals) ∙ sym count) ∙ ap (λ l. length l + length gs) (sym named.globals);
      }

module _ (s : Store) (m : Module) (externs : List Extern) (n : Numbering) (gs : List GlobalInst) (named : IsNumbering n (filter_map func_in_extern externs) (filter_map table_in_extern externs) (filter_map memory_in_extern externs) (filter_map global_in_extern externs)) (made : gs ≡ map (made_global s externs) m.globals) where
  -- ---- bounds

  pub fit_is : (list_all (elem_fits_before s m n gs) m.elems && list_all (segment_fits_before s m n gs) m.segments) ≡ segments_fit (allocated s m externs) (made_instance s m externs) m
  fit_is =
      let T = s.tables ++ map made_table m.tables in
      let M = s.memories ++ map made_memory m.memories in
      let F : List GlobalInst → List ℕ → List ℕ → List ℕ → ℕ → Bool =
      λ values ts ms vs count.
      list_all (elem_fits_in T (s.globals ++ values) (ts ++ range_with_len (length s.tables) (length m.tables)) (vs ++ range_with_len (length s.globals) count)) m.elems
      && list_all (segment_fits_in M (s.globals ++ values) (ms ++ range_with_len (length s.memories) (length m.memories)) (vs ++ range_with_len (length s.globals) count)) m.segments
      in
      let count : length gs ≡ length m.globals = ap length made ∙ length-map m.globals (made_global s externs) in
      ap (F gs n.tables n.memories n.globals) count ∙ ap (λ l. F l n.tables n.memories n.globals (length m.globals)) made
      ∙ ap (λ l. F (map (made_global s externs) m.globals) l n.memories n.globals (length m.globals)) named.tables
      ∙ ap (λ l. F (map (made_global s externs) m.globals) (filter_map table_in_extern externs) l n.globals (length m.globals)) named.memories
      ∙ ap (λ l. F (map (made_global s externs) m.globals) (filter_map table_in_extern externs) (filter_map memory_in_extern externs) l (length m.globals)) named.globals

  -- ---- the instance

  the_full : Numbering
  the_full = record { funcs = func_addresses s m externs; tables = table_addresses s m externs; memories = memory_addresses s m externs; globals = global_addresses s m externs }

  full_is : full s m n ≡ record { funcs = func_addresses s m externs; tables = table_addresses s m externs; memories = memory_addresses s m externs; globals = global_addresses s m externs }
  full_is =
      let N : List ℕ → List ℕ → List ℕ → List ℕ → Numbering = λ a b c d. full s m (record { funcs = a; tables = b; memories = c; globals = d }) in
      ap (λ a. N a n.tables n.memories n.globals) named.funcs ∙ ap (λ b. N (filter_map func_in_extern externs) b n.memories n.globals) named.tables
      ∙ ap (λ c. N (filter_map func_in_extern externs) (filter_map table_in_extern externs) c n.globals) named.memories
      ∙ ap (N (filter_map func_in_extern externs) (filter_map table_in_extern externs) (filter_map memory_in_extern externs)) named.globals

  extern_is : (k : ExportKind) → named_extern (record { funcs = func_addresses s m externs; tables = table_addresses s m externs; memories = memory_addresses s m externs; globals = global_addresses s m externs }) k ≡ exported_extern s m externs k
  extern_is (export.Func x) = refl
  extern_is (export.Table x) = refl
  extern_is (export.Memory x) = refl
  extern_is (export.Global x) = refl

  instance_is : numbered_instance (full s m n) m ≡ made_instance s m externs
  instance_is =
      let N : Numbering = record { funcs = func_addresses s m externs; tables = table_addresses s m externs; memories = memory_addresses s m externs; globals = global_addresses s m externs } in
      let exports = map-same (λ (e : Export). (e.name, named_extern N e.kind)) (λ (e : Export). (e.name, exported_extern s m externs e.kind)) (λ e. ap (λ x. (e.name, x)) (extern_is e.kind)) m.exports in
      let I : List (List ℕ × Extern) → Instance = λ es. record (made_instance s m externs) { exports = es } in
      ap (λ x. numbered_instance x m) full_is ∙ ap I exports

  pub parts_are : (p : Parts) → ArePartsFor s m n gs p → ArePartsOf s m externs p
  parts_are p h =
      let instance : p.instance ≡ made_instance s m externs = h.instance ∙ instance_is in
      let S : List FuncInst → List TableInst → List MemInst → List GlobalInst → Instance → Store =
      λ a b c d i. record { funcs = s.funcs ++ a; tables = s.tables ++ b; memories = s.memories ++ c; globals = s.globals ++ d; instances = s.instances ++ i ∷ [] }
      in
      let F = map (made_func m (length s.instances)) (enumerate_from 0 m.funcs) in
      record {
        store =
            ap (λ a. S a p.tables p.memories p.globals p.instance) h.funcs ∙ ap (λ b. S F b p.memories p.globals p.instance) h.tables
            ∙ ap (λ c. S F (map made_table m.tables) c p.globals p.instance) h.memories
            ∙ ap (λ d. S F (map made_table m.tables) (map made_memory m.memories) d p.instance) (h.globals ∙ made)
            ∙ ap (S F (map made_table m.tables) (map made_memory m.memories) (map (made_global s externs) m.globals)) instance;
        instance = instance;
        start = h.start ∙ ap (λ (i : Instance). option_map (slice_index i.funcs) m.start) (sym h.instance);
      }

-- ---- limits

pages-made : (ls : List Limits) → sum_by pages_of (map made_memory ls) ≡ sum_by (λ (l : Limits). l.min) ls
pages-made [] = refl
pages-made (l ∷ ls) =
    let size : length (made_memory l).bytes ≡ 65536 * l.min = length-replicate (65536 * l.min) 0 in
    let one : length (made_memory l).bytes / 65536 ≡ l.min = omega (arith, size) in
    sum_by-cons pages_of (made_memory l) (map made_memory ls) ∙ ap (λ k. k + sum_by pages_of (map made_memory ls)) one ∙ ap (λ k. l.min + k) (pages-made ls)
    ∙ sym (sum_by-cons (λ (l : Limits). l.min) l ls)

entries-made : (ls : List Limits) → sum_by (λ (t : TableInst). length t.entries) (map made_table ls) ≡ sum_by (λ (l : Limits). l.min) ls
entries-made [] = refl
entries-made (l ∷ ls) =
    let E : TableInst → ℕ = λ t. length t.entries in
    let one : E (made_table l) ≡ l.min = length-replicate l.min None in
    sum_by-cons E (made_table l) (map made_table ls) ∙ ap (λ k. k + sum_by E (map made_table ls)) one ∙ ap (λ k. l.min + k) (entries-made ls)
    ∙ sym (sum_by-cons (λ (l : Limits). l.min) l ls)

pub limits_are : (policy : Policy) (s : Store) (m : Module) (externs : List Extern) → stays_within policy s m ≡ is_within_limits policy (allocated s m externs)
limits_are policy s m externs =
    let B : ℕ → ℕ → ℕ → ℕ → ℕ → ℕ → ℕ → Bool =
    λ p e f t k g i. nat_le p policy.pages && nat_le e 1000000 && are_addresses f && are_addresses t && are_addresses k && are_addresses g && are_addresses i
    in
    let made = map (made_func m (length s.instances)) (enumerate_from 0 m.funcs) in
    let pages : sum_by pages_of s.memories + sum_by (λ (l : Limits). l.min) m.memories ≡ pages_in (allocated s m externs) =
    ap (λ k. sum_by pages_of s.memories + k) (sym (pages-made m.memories)) ∙ sym (sum_by-append pages_of s.memories (map made_memory m.memories))
    in
    let E : TableInst → ℕ = λ t. length t.entries in
    let entries : sum_by E s.tables + sum_by (λ (l : Limits). l.min) m.tables ≡ entries_in (allocated s m externs) =
    ap (λ k. sum_by E s.tables + k) (sym (entries-made m.tables)) ∙ sym (sum_by-append E s.tables (map made_table m.tables))
    in
    let fs : length s.funcs + length m.funcs ≡ length (s.funcs ++ made) =
    sym (length-append s.funcs made ∙ ap (λ k. length s.funcs + k) (length-map (enumerate_from 0 m.funcs) (made_func m (length s.instances)) ∙ length-enumerate_from 0 m.funcs))
    in
    let ts : length s.tables + length m.tables ≡ length (s.tables ++ map made_table m.tables) =
    sym (length-append s.tables (map made_table m.tables) ∙ ap (λ k. length s.tables + k) (length-map m.tables made_table))
    in
    let ms : length s.memories + length m.memories ≡ length (s.memories ++ map made_memory m.memories) =
    sym (length-append s.memories (map made_memory m.memories) ∙ ap (λ k. length s.memories + k) (length-map m.memories made_memory))
    in
    let gs : length s.globals + length m.globals ≡ length (s.globals ++ map (made_global s externs) m.globals) =
    sym (length-append s.globals (map (made_global s externs) m.globals) ∙ ap (λ k. length s.globals + k) (length-map m.globals (made_global s externs)))
    in
    let i : length s.instances + 1 ≡ length (s.instances ++ made_instance s m externs ∷ []) = sym (length-append s.instances (made_instance s m externs ∷ [])) in
    let P = pages_in (allocated s m externs) in
    let N = entries_in (allocated s m externs) in
    ap (λ x. B x (sum_by E s.tables + sum_by (λ (l : Limits). l.min) m.tables) (length s.funcs + length m.funcs) (length s.tables + length m.tables) (length s.memories + length m.memories) (length s.globals + length m.globals) (length s.instances + 1)) pages
    ∙ ap (λ x. B P x (length s.funcs + length m.funcs) (length s.tables + length m.tables) (length s.memories + length m.memories) (length s.globals + length m.globals) (length s.instances + 1)) entries
    ∙ ap (λ x. B P N x (length s.tables + length m.tables) (length s.memories + length m.memories) (length s.globals + length m.globals) (length s.instances + 1)) fs
    ∙ ap (λ x. B P N (length (s.funcs ++ made)) x (length s.memories + length m.memories) (length s.globals + length m.globals) (length s.instances + 1)) ts
    ∙ ap (λ x. B P N (length (s.funcs ++ made)) (length (s.tables ++ map made_table m.tables)) x (length s.globals + length m.globals) (length s.instances + 1)) ms
    ∙ ap (λ x. B P N (length (s.funcs ++ made)) (length (s.tables ++ map made_table m.tables)) (length (s.memories ++ map made_memory m.memories)) x (length s.instances + 1)) gs
    ∙ ap (B P N (length (s.funcs ++ made)) (length (s.tables ++ map made_table m.tables)) (length (s.memories ++ map made_memory m.memories)) (length (s.globals ++ map (made_global s externs) m.globals))) i

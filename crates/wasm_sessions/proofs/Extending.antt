-- A store that gains functions, tables, memories, globals and instances stays typed.
use Rattle.std.proofs.Common.{◌≡◌, ℕ, zero, suc, ◌<◌, ◌≤◌, List, [], ◌∷◌, ◌++◌, Option, Some, None, IfSome, option_map, All, length, map, slice_get, get_or, refl, sym, ap, ◌∙◌, arith, length-append}
use Rattle.wasm_syntax.specs.declared.module.FuncType.{FuncType}
use Rattle.wasm_syntax.specs.declared.module.GlobalType.{GlobalType}
use Rattle.wasm_typing.specs.Typing.{Context}
use Rattle.wasm_store.specs.declared.store.FuncInst.{FuncInst}
use Rattle.wasm_store.specs.declared.store.FuncInst.TheVariants.{Code, Host}
use Rattle.wasm_store.specs.declared.store.TableInst.{TableInst}
use Rattle.wasm_store.specs.declared.store.Extern.{Extern}
use Rattle.wasm_store.specs.declared.store.Extern.TheVariants.{Func, Table, Memory, Global}
use Rattle.wasm_store.specs.declared.store.Instance.{Instance}
use Rattle.wasm_store.specs.Control.{type_of_inst}
use Rattle.type_safety.specs.Shapes.{Shape, func_type_at, IsContextOf, ExternExists}
use Rattle.type_safety.specs.Stores.{FuncInstTyped, TableTyped, InstanceTyped}
use Rattle.type_safety.proofs.Lists.{of_option_map}

-- What holds of all by a weaker reason.
pub all-map : {A : Type 0} → (P Q : A → Type 0) (xs : List A) → ((x : A) → P x → Q x) → All P xs → All Q xs
all-map P Q xs weaker all = λ k d h. weaker (get_or xs k d) (all k d h)

-- What is found in a list is found in a longer one.
pub get-append : {A : Type 0} → (xs ys : List A) (n : ℕ) (x : A) → slice_get xs n ≡ Some x → slice_get (xs ++ ys) n ≡ Some x
get-append [] ys n x h = cc
get-append (z ∷ xs) ys zero x h = h
get-append (z ∷ xs) ys (suc n) x h = get-append xs ys n x h

-- One shape extends another: each list is longer at its end.
pub record Extends (s s' : Shape) : Type 0 where
  pub funcs_more : List FuncInst
  pub funcs : s'.funcs ≡ s.funcs ++ funcs_more
  pub instances_more : List Instance
  pub instances : s'.instances ≡ s.instances ++ instances_more
  pub globals_more : List GlobalType
  pub globals : s'.globals ≡ s.globals ++ globals_more
  pub tables : s.tables ≤ s'.tables
  pub memories : s.memories ≤ s'.memories

-- A list of values is the image of another under a function that gives at least as much.
images : {B : Type 0} → (f g : ℕ → Option B) → ((a : ℕ) (t : B) → f a ≡ Some t → g a ≡ Some t) → (ts : List B) (bs : List ℕ) → map (λ t. Some t) ts ≡ map f bs → map (λ t. Some t) ts ≡ map g bs
images f g still [] [] h = refl
images f g still [] (a ∷ bs) h = cc
images f g still (t ∷ ts) [] h = cc
images f g still (t ∷ ts) (a ∷ bs) h =
    let head : f a ≡ Some t = cc in
    let tail : map (λ t. Some t) ts ≡ map f bs = cc in
    ap (λ o. o ∷ map (λ t. Some t) ts) (sym (still a t head)) ∙ ap (λ l. g a ∷ l) (images f g still ts bs tail)

module _ (s s' : Shape) (e : Extends s s') where
  pub func_still : (a : ℕ) (f : FuncInst) → slice_get s.funcs a ≡ Some f → slice_get s'.funcs a ≡ Some f
  func_still a f h = ap (λ l. slice_get l a) e.funcs ∙ get-append s.funcs e.funcs_more a f h

  pub instance_still : (n : ℕ) (i : Instance) → slice_get s.instances n ≡ Some i → slice_get s'.instances n ≡ Some i
  instance_still n i h = ap (λ l. slice_get l n) e.instances ∙ get-append s.instances e.instances_more n i h

  pub global_still : (a : ℕ) (g : GlobalType) → slice_get s.globals a ≡ Some g → slice_get s'.globals a ≡ Some g
  global_still a g h = ap (λ l. slice_get l a) e.globals ∙ get-append s.globals e.globals_more a g h

  pub func_type_still : (a : ℕ) (t : FuncType) → func_type_at s a ≡ Some t → func_type_at s' a ≡ Some t
  func_type_still a t h =
      let f = of_option_map type_of_inst (slice_get s.funcs a) t h in
      ap (option_map type_of_inst) (func_still a f.0 f.1) ∙ ap (λ x. Some x) f.2

  more_funcs : (a : ℕ) → a < length s.funcs → a < length s'.funcs
  more_funcs a h = omega (arith, ap length e.funcs, length-append s.funcs e.funcs_more)

  more_globals : (a : ℕ) → a < length s.globals → a < length s'.globals
  more_globals a h = omega (arith, ap length e.globals, length-append s.globals e.globals_more)

  more_tables : (a : ℕ) → a < s.tables → a < s'.tables
  more_tables a h = omega (arith, e.tables)

  more_memories : (a : ℕ) → a < s.memories → a < s'.memories
  more_memories a h = omega (arith, e.memories)

  pub extern_still : (x : Extern) → ExternExists s x → ExternExists s' x
  extern_still (Func a) h = more_funcs a h
  extern_still (Table a) h = more_tables a h
  extern_still (Memory a) h = more_memories a h
  extern_still (Global a) h = more_globals a h

  pub context_still : (i : Instance) (c : Context) → IsContextOf s i c → IsContextOf s' i c
  context_still i c is =
      record {
        types = is.types;
        funcs = images (λ a. func_type_at s a) (λ a. func_type_at s' a) func_type_still c.funcs i.funcs is.funcs;
        globals = images (slice_get s.globals) (slice_get s'.globals) global_still c.globals i.globals is.globals;
        tables = is.tables;
        memories = is.memories;
      }

  pub func_typed_still : (f : FuncInst) → FuncInstTyped s f → FuncInstTyped s' f
  func_typed_still (Code ty instance code) t =
      let x = t.1 in (
        t.0,
        record {
          inst = x.inst;
          inst_there = instance_still instance x.inst x.inst_there;
          fn = x.fn;
          fn_there = x.fn_there;
          type_is = x.type_is;
          context = x.context;
          context_is = context_still x.inst x.context x.context_is;
          locals = x.locals;
          results = x.results;
          body = x.body;
          ranges = x.ranges;
        },
      )
  func_typed_still (Host ty) t = t

  entry_still : (entry : Option ℕ) → IfSome entry (λ a. a < length s.funcs) → IfSome entry (λ a. a < length s'.funcs)
  entry_still None h = tt
  entry_still (Some a) h = more_funcs a h

  pub table_typed_still : (t : TableInst) → TableTyped s t → TableTyped s' t
  table_typed_still t x =
      record {
        entries = all-map (λ entry. IfSome entry (λ a. a < length s.funcs)) (λ entry. IfSome entry (λ a. a < length s'.funcs)) t.entries entry_still x.entries;
        few = x.few;
        max = x.max;
      }

  pub instance_typed_still : (i : Instance) → InstanceTyped s i → InstanceTyped s' i
  instance_typed_still i x =
      record {
        types = x.types;
        funcs = all-map (λ a. a < length s.funcs) (λ a. a < length s'.funcs) i.funcs more_funcs x.funcs;
        tables = all-map (λ a. a < s.tables) (λ a. a < s'.tables) i.tables more_tables x.tables;
        one_table = x.one_table;
        memories = all-map (λ a. a < s.memories) (λ a. a < s'.memories) i.memories more_memories x.memories;
        one_memory = x.one_memory;
        globals = all-map (λ a. a < length s.globals) (λ a. a < length s'.globals) i.globals more_globals x.globals;
        exports = all-map (λ x. ExternExists s x.1) (λ x. ExternExists s' x.1) i.exports (λ x h. extern_still x.1 h) x.exports;
        elems = all-map (λ a. a < length s.funcs) (λ a. a < length s'.funcs) i.elems more_funcs x.elems;
      }

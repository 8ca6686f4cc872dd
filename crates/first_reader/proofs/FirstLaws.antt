-- A valid module passes the tests exactly where it is of the form First.
use Rattle.std.proofs.Common.{◌≡◌, ◌≢◌, ℕ, zero, suc, ◌+◌, ◌≤◌, ◌<◌, Bool, true, false, ◌&&◌, List, [], ◌∷◌, ◌++◌, length, map, drop, Option, Some, None, refl, sym, ap, subst, ◌∙◌, arith, All, get_or}
use Rattle.std.specs.Prelude.{AllPairs, IsTrue, ◌↔◌, is_none, slice_get, reverse}
use Rattle.std.specs.List.{list_all, AllByRecursion}
use Rattle.std.proofs.lemmas.Bool.{false≢true, eqb-true, ltb-true, lt-ltb}
use Rattle.std.proofs.lemmas.List.{length-append, length-map}
use Rattle.std.proofs.lemmas.List.Elements.{All-from_recursion, recursion_from_All}
use Rattle.std.proofs.lemmas.Option.{slice_get_within, slice_get-get_or, slice_get-map}
use Rattle.wasm_values.specs.declared.number.Val.TheVariants as value
use Rattle.wasm_values.specs.declared.number.ValType.{ValType}
use Rattle.wasm_values.specs.declared.number.ValType.TheVariants as type
use Rattle.wasm_syntax.specs.declared.instr.Instr.{Instr, Plain, Const, GlobalGet, GlobalSet}
use Rattle.wasm_syntax.specs.declared.instr.Instr.TheVariants as instr
use Rattle.wasm_syntax.specs.declared.instr.Instr.TheOpen.{Instr-F}
use Rattle.wasm_syntax.specs.declared.instr.Instr.TheOpen as layer
use Rattle.wasm_syntax.specs.declared.instr.Instr.TheViews.{out-Instr, roll-Instr, roll-out-Instr}
use Rattle.wasm_syntax.specs.declared.instr.Plain.TheVariants.{Nop, Drop}
use Rattle.wasm_syntax.specs.declared.flat.Flat.{Flat}
use Rattle.wasm_syntax.specs.declared.module.FuncType.{FuncType}
use Rattle.wasm_syntax.specs.declared.module.Func.{Func}
use Rattle.wasm_syntax.specs.declared.module.Global.{Global}
use Rattle.wasm_syntax.specs.declared.module.Export.{Export}
use Rattle.wasm_syntax.specs.declared.module.ExportKind.{ExportKind}
use Rattle.wasm_syntax.specs.declared.module.ExportKind.TheVariants as kind
use Rattle.wasm_syntax.specs.declared.module.Module.{Module}
use Rattle.wasm_syntax.specs.FlatForm.{is_simple, flat_of, flat, flat_body}
use Rattle.wasm_syntax.specs.Trees.{sequence_of}
use Rattle.wasm_syntax.proofs.FlatLemmas.{flat_of-simple, flat_of-Block, flat_of-Loop, flat_of-If, flat_of-If_Else}
use Rattle.wasm_typing.specs.Typing.{Types, Context, SequenceTyped}
use Rattle.wasm_typing.specs.Valid.{type_at, func_types_of, globals_of, imported_globals_of, context_of, const_type, GlobalValid, ExportValid, FuncValid, AreApart, BytesInRange, ExportInRange, IsWord, SequenceInRange, Valid}
use Rattle.outline_check.specs.First.{IsEmptyType, IsI32Const, IsFirstGlobal, IsFirstBody, IsFirstFunc, IsFunction, IsFirstExport, IsFirst}
use Rattle.outline_check.proofs.WalkLemmas.{drop-get, drop-end}
use Rattle.first_reader.specs.FirstTests.{is_empty, is_vector, is_empty_type, is_i32, is_first_global, is_function, is_first_instr, is_first_item, is_first_func, are_vectors, lacks_other_parts, has_first_parts, is_first}

-- ---- words on lists and tests

all_from : {A : Type 0} (P Q : A → Type 0) (f : (x : A) → P x → Q x) (xs : List A) → AllByRecursion P xs → AllByRecursion Q xs
all_from P Q f [] h = tt
all_from P Q f (x ∷ xs) h = (f x h.0, all_from P Q f xs h.1)

all_both : {A : Type 0} (P Q : A → Type 0) (xs : List A) → AllByRecursion P xs → AllByRecursion Q xs → AllByRecursion (λ x. P x × Q x) xs
all_both P Q [] h k = tt
all_both P Q (x ∷ xs) h k = ((h.0, k.0), all_both P Q xs h.1 k.1)

both : (a b : Bool) → (a && b) ≡ true → (a ≡ true) × (b ≡ true)
both true b e = (refl, e)
both false b e = absurd cc

-- each of a list passes a test, and has what is known of it
passing : {A : Type 0} (p : A → Bool) (xs : List A) → list_all p xs ≡ true → AllByRecursion (λ x. p x ≡ true) xs
passing p [] e = tt
passing p (x ∷ xs) e = let b = both (p x) (list_all p xs) e in (b.0, passing p xs b.1)

test_all : {A : Type 0} (p : A → Bool) (xs : List A) → AllByRecursion (λ x. p x ≡ true) xs → list_all p xs ≡ true
test_all p [] h = refl
test_all p (x ∷ xs) h = rw h.0 (test_all p xs h.1)

each_from : {A : Type 0} (p : A → Bool) (P Q : A → Type 0) → ((x : A) → p x ≡ true → P x → Q x) → (xs : List A) → list_all p xs ≡ true → All P xs → All Q xs
each_from p P Q f xs e h =
    All-from_recursion Q xs (all_from (λ x. (p x ≡ true) × P x) Q (λ x b. f x b.0 b.1) xs (all_both (λ x. p x ≡ true) P xs (passing p xs e) (recursion_from_All P xs h)))

each_passes : {A : Type 0} (p : A → Bool) (P : A → Type 0) → ((x : A) → P x → p x ≡ true) → (xs : List A) → All P xs → list_all p xs ≡ true
each_passes p P f xs h = test_all p xs (all_from P (λ x. p x ≡ true) f xs (recursion_from_All P xs h))

none_in : {A : Type 0} (xs : List A) → is_empty xs ≡ true → xs ≡ []
none_in [] e = refl
none_in (x ∷ xs) e = absurd (omega (arith, eqb-true (suc (length xs)) 0 e))

-- ---- the items of code

-- what is said of one instruction and the items after it
ItemsOf : Instr → List Flat → Type 0
ItemsOf i rest = list_all is_first_item (flat_of i ++ rest) ≡ (is_first_instr i && list_all is_first_item rest)

simple_items : (i : Instr) (rest : List Flat) → is_simple i ≡ true → ItemsOf i rest
unfolding ItemsOf
simple_items i rest e = rw (flat_of-simple i e) refl

layer_items : (i : Instr) (x : Instr-F Instr) (rest : List Flat) → i ≡ roll-Instr x → ItemsOf i rest
unfolding ItemsOf
layer_items i (layer.Plain op) rest e = simple_items i rest (ap is_simple (e ∙ instr.rolls-Plain op))
layer_items i (layer.Num op) rest e = simple_items i rest (ap is_simple (e ∙ instr.rolls-Num op))
layer_items i (layer.Const value) rest e = simple_items i rest (ap is_simple (e ∙ instr.rolls-Const value))
layer_items i (layer.LocalGet x) rest e = simple_items i rest (ap is_simple (e ∙ instr.rolls-LocalGet x))
layer_items i (layer.LocalSet x) rest e = simple_items i rest (ap is_simple (e ∙ instr.rolls-LocalSet x))
layer_items i (layer.LocalTee x) rest e = simple_items i rest (ap is_simple (e ∙ instr.rolls-LocalTee x))
layer_items i (layer.GlobalGet x) rest e = simple_items i rest (ap is_simple (e ∙ instr.rolls-GlobalGet x))
layer_items i (layer.GlobalSet x) rest e = simple_items i rest (ap is_simple (e ∙ instr.rolls-GlobalSet x))
layer_items i (layer.Load op a o) rest e = simple_items i rest (ap is_simple (e ∙ instr.rolls-Load op a o))
layer_items i (layer.Store op a o) rest e = simple_items i rest (ap is_simple (e ∙ instr.rolls-Store op a o))
layer_items i (layer.Block ty is) rest e =
    let s : i ≡ instr.Block ty is = e ∙ instr.rolls-Block ty is in rw (s, flat_of-Block ty is) refl
layer_items i (layer.Loop ty is) rest e =
    let s : i ≡ instr.Loop ty is = e ∙ instr.rolls-Loop ty is in rw (s, flat_of-Loop ty is) refl
layer_items i (layer.If ty is None) rest e =
    let s : i ≡ instr.If ty is None = e ∙ instr.rolls-If ty is None in rw (s, flat_of-If ty is) refl
layer_items i (layer.If ty is (Some others)) rest e =
    let s : i ≡ instr.If ty is (Some others) = e ∙ instr.rolls-If ty is (Some others) in rw (s, flat_of-If_Else ty is others) refl
layer_items i (layer.Br l) rest e = simple_items i rest (ap is_simple (e ∙ instr.rolls-Br l))
layer_items i (layer.BrIf l) rest e = simple_items i rest (ap is_simple (e ∙ instr.rolls-BrIf l))
layer_items i (layer.BrTable ls l) rest e = simple_items i rest (ap is_simple (e ∙ instr.rolls-BrTable ls l))
layer_items i (layer.Call f) rest e = simple_items i rest (ap is_simple (e ∙ instr.rolls-Call f))
layer_items i (layer.CallIndirect t) rest e = simple_items i rest (ap is_simple (e ∙ instr.rolls-CallIndirect t))

-- the items are of the form exactly where the instructions are
items : (is : List Instr) → list_all is_first_item (flat is) ≡ list_all is_first_instr is
unfolding ItemsOf
items [] = refl
items (i ∷ is) =
    layer_items i (out-Instr i) (flat is) (sym (roll-out-Instr i)) ∙ ap (λ b. is_first_instr i && b) (items is)

-- an item before the last one
inner_item : {A : Type 0} (xs ys : List A) (i : ℕ) → i < length xs → slice_get (xs ++ ys) i ≡ slice_get xs i
inner_item [] ys i h = absurd (omega arith)
inner_item (x ∷ xs) ys zero h = refl
inner_item (x ∷ xs) ys (suc i) h = inner_item xs ys i (omega arith)

pub record IsItem (is : List Instr) (i : ℕ) (item : Flat) : Type 0 where
  pub within : i + 1 < length (flat_body is)
  pub there : slice_get (flat_body is) i ≡ Some item

item_here : (is : List Instr) (i : ℕ) (item : Flat) → IsItem is i item → drop i (flat is) ≡ item ∷ drop (i + 1) (flat is)
item_here is i item h =
    let inner : i < length (flat is) = omega (arith, h.within, length-append {A = Flat}) in
    drop-get (flat is) i item (sym (inner_item (flat is) _ i inner) ∙ h.there)

pub items_go_on : (is : List Instr) (i : ℕ) (item : Flat) → IsItem is i item → is_first_item item ≡ true →
    list_all is_first_item (drop i (flat is)) ≡ list_all is_first_item (flat is) → list_all is_first_item (drop (i + 1) (flat is)) ≡ list_all is_first_item (flat is)
items_go_on is i item h e so_far =
    let one : list_all is_first_item (drop i (flat is)) ≡ list_all is_first_item (drop (i + 1) (flat is)) = rw (item_here is i item h, e) refl in
    sym one ∙ so_far

pub items_stop : (is : List Instr) (i : ℕ) (item : Flat) → IsItem is i item → is_first_item item ≡ false →
    list_all is_first_item (drop i (flat is)) ≡ list_all is_first_item (flat is) → false ≡ list_all is_first_instr is
items_stop is i item h e so_far =
    let one : list_all is_first_item (drop i (flat is)) ≡ false = rw (item_here is i item h, e) refl in
    sym one ∙ so_far ∙ items is

pub items_end : (is : List Instr) (i : ℕ) → length (flat_body is) ≤ i + 1 →
    list_all is_first_item (drop i (flat is)) ≡ list_all is_first_item (flat is) → true ≡ list_all is_first_instr is
items_end is i h so_far =
    let past : length (flat is) ≤ i = omega (arith, h, length-append {A = Flat}) in
    let one : list_all is_first_item (drop i (flat is)) ≡ true = rw (drop-end (flat is) i past) refl in
    sym one ∙ so_far ∙ items is

-- ---- bodies

-- a valid body of these instructions finds its operands and globals
body_from : (c : Context) (labels : List Types) (is : List Instr) (ins : Types) → list_all is_first_instr is ≡ true →
    SequenceInRange (sequence_of is) → SequenceTyped c labels (sequence_of is) ins [] → IsFirstBody (length c.globals) (length ins) is
body_from c labels [] [] e r h = tt
body_from c labels [] (t ∷ ins) e r h = absurd cc
body_from c labels (Plain Nop ∷ is) [] e r h =
    let same : h.0 ≡ [] = cc in
    body_from c labels is [] e r.1 (subst (λ ts. SequenceTyped c labels (sequence_of is) ts []) same h.2)
body_from c labels (Plain Nop ∷ is) (t ∷ ins) e r h =
    let same : h.0 ≡ t ∷ ins = cc in
    body_from c labels is (t ∷ ins) e r.1 (subst (λ ts. SequenceTyped c labels (sequence_of is) ts []) same h.2)
body_from c labels (Plain Drop ∷ is) [] e r h = absurd cc
body_from c labels (Plain Drop ∷ is) (t ∷ ins) e r h =
    let same : h.0 ≡ ins = cc in
    body_from c labels is ins e r.1 (subst (λ ts. SequenceTyped c labels (sequence_of is) ts []) same h.2)
body_from c labels (Const (value.I32 n) ∷ is) [] e r h =
    let same : h.0 ≡ type.I32 ∷ [] = cc in
    (r.0, body_from c labels is (type.I32 ∷ []) e r.1 (subst (λ ts. SequenceTyped c labels (sequence_of is) ts []) same h.2))
body_from c labels (Const (value.I32 n) ∷ is) (t ∷ ins) e r h =
    let same : h.0 ≡ type.I32 ∷ t ∷ ins = cc in
    (r.0, body_from c labels is (type.I32 ∷ t ∷ ins) e r.1 (subst (λ ts. SequenceTyped c labels (sequence_of is) ts []) same h.2))
body_from c labels (GlobalGet k ∷ is) [] e r h =
    let g = h.1.0 in
    let same : h.0 ≡ g.value ∷ [] = cc in
    (slice_get_within c.globals k g h.1.1, body_from c labels is (g.value ∷ []) e r.1 (subst (λ ts. SequenceTyped c labels (sequence_of is) ts []) same h.2))
body_from c labels (GlobalGet k ∷ is) (t ∷ ins) e r h =
    let g = h.1.0 in
    let same : h.0 ≡ g.value ∷ t ∷ ins = cc in
    (slice_get_within c.globals k g h.1.1, body_from c labels is (g.value ∷ t ∷ ins) e r.1 (subst (λ ts. SequenceTyped c labels (sequence_of is) ts []) same h.2))
body_from c labels (GlobalSet k ∷ is) [] e r h = absurd cc
body_from c labels (GlobalSet k ∷ is) (t ∷ ins) e r h =
    let same : h.0 ≡ ins = cc in
    (slice_get_within c.globals k h.1.0 h.1.1, body_from c labels is ins e r.1 (subst (λ ts. SequenceTyped c labels (sequence_of is) ts []) same h.2))
body_from c labels (_ ∷ is) ins e r h = absurd (false≢true e)

-- a body of the form has these instructions alone
body_passes : (globals depth : ℕ) (is : List Instr) → IsFirstBody globals depth is → list_all is_first_instr is ≡ true
body_passes globals zero [] h = refl
body_passes globals (suc depth) [] h = absurd h
body_passes globals zero (Plain Nop ∷ is) h = body_passes globals zero is h
body_passes globals (suc depth) (Plain Nop ∷ is) h = body_passes globals (suc depth) is h
body_passes globals zero (Plain Drop ∷ is) h = absurd h
body_passes globals (suc depth) (Plain Drop ∷ is) h = body_passes globals depth is h
body_passes globals zero (Const (value.I32 n) ∷ is) h = body_passes globals 1 is h.1
body_passes globals (suc depth) (Const (value.I32 n) ∷ is) h = body_passes globals (suc (suc depth)) is h.1
body_passes globals zero (GlobalGet k ∷ is) h = body_passes globals 1 is h.1
body_passes globals (suc depth) (GlobalGet k ∷ is) h = body_passes globals (suc (suc depth)) is h.1
body_passes globals zero (GlobalSet k ∷ is) h = absurd h
body_passes globals (suc depth) (GlobalSet k ∷ is) h = body_passes globals depth is h.1
body_passes globals zero (_ ∷ is) h = absurd h
body_passes globals (suc depth) (_ ∷ is) h = absurd h

-- ---- the parts of a module without imports

global_count : (m : Module) → m.imports ≡ [] → length (globals_of m) ≡ length m.globals
global_count m e = rw e (length-map m.globals (λ (g : Global). g.ty))

func_count : (m : Module) → m.imports ≡ [] → length (func_types_of m) ≡ length m.funcs
func_count m e = rw e (length-map m.funcs (λ (f : Func). f.ty))

-- no type has results
no_results : (types : List FuncType) (t : ℕ) → list_all is_empty_type types ≡ true → (type_at types t).results ≡ []
no_results [] t e = refl
no_results (ty ∷ types) zero e =
    none_in ty.results (both (is_empty ty.params) (is_empty ty.results) (both (is_empty_type ty) (list_all is_empty_type types) e).0).1
no_results (ty ∷ types) (suc t) e = no_results types t (both (is_empty_type ty) (list_all is_empty_type types) e).1

empty_type : (ty : FuncType) → is_empty_type ty ≡ true → IsEmptyType ty
empty_type ty e =
    let b = both (is_empty ty.params) (is_empty ty.results) e in
    record { params = none_in ty.params b.0; results = none_in ty.results b.1 }

empty_passes : (ty : FuncType) → IsEmptyType ty → is_empty_type ty ≡ true
empty_passes ty h = rw (h.params, h.results) refl

is_type : (t : ValType) → is_i32 t ≡ true → t ≡ type.I32
is_type type.I32 e = refl
is_type type.I64 e = absurd (false≢true e)

-- without imports the first value of a global is one constant
constant_from : (init : List Instr) → const_type [] init ≡ Some type.I32 → SequenceInRange (sequence_of init) → IsI32Const init
constant_from [] e r = absurd cc
constant_from (Const (value.I32 n) ∷ []) e r = r.0
constant_from (Const (value.I64 n) ∷ []) e r = absurd cc
constant_from (GlobalGet x ∷ []) e r = absurd cc
constant_from (_ ∷ is) e r = absurd cc

first_global : (m : Module) → m.imports ≡ [] → (g : Global) → is_first_global g ≡ true → GlobalValid m g × SequenceInRange (sequence_of g.init) → IsFirstGlobal g
first_global m none g e h =
    let b = both (is_i32 g.ty.value) g.ty.mutable e in
    let value = is_type g.ty.value b.0 in
    let no_globals : imported_globals_of m ≡ [] = rw none refl in
    let known : const_type [] g.init ≡ Some type.I32 = ap (λ gs. const_type gs g.init) (sym no_globals) ∙ h.0 ∙ ap Some value in
    record { value = value; mutable = b.1; init = constant_from g.init known h.1 }

global_passes : (g : Global) → IsFirstGlobal g → is_first_global g ≡ true
global_passes g h = rw (h.value, h.mutable) refl

function_from : (m : Module) → m.imports ≡ [] → (k : ExportKind) → is_function k ≡ true → ExportValid m k → IsFunction (length m.funcs) k
function_from m none (kind.Func f) e h = subst (λ n. f < n) (func_count m none) h
function_from m none (kind.Table t) e h = absurd (false≢true e)
function_from m none (kind.Memory t) e h = absurd (false≢true e)
function_from m none (kind.Global t) e h = absurd (false≢true e)

function_passes : (funcs : ℕ) (k : ExportKind) → IsFunction funcs k → is_function k ≡ true
function_passes funcs (kind.Func f) h = refl
function_passes funcs (kind.Table t) h = absurd h
function_passes funcs (kind.Memory t) h = absurd h
function_passes funcs (kind.Global t) h = absurd h

first_export : (m : Module) → m.imports ≡ [] → (x : Export) → is_function x.kind ≡ true → ExportValid m x.kind × (BytesInRange x.name × ExportInRange x.kind) → IsFirstExport (length m.funcs) x
first_export m none x e h = record { name = h.1.0; kind = function_from m none x.kind e h.0 }

first_func : (m : Module) → m.imports ≡ [] → list_all is_empty_type m.types ≡ true → (f : Func) → is_first_func f ≡ true →
    (f.ty < length m.types) × FuncValid m f × (IsWord f.ty × SequenceInRange (sequence_of f.body)) → IsFirstFunc (length m.types) (length m.globals) f
first_func m none empty f e h =
    let b = both (is_empty f.locals) (list_all is_first_instr f.body) e in
    let c = context_of m f in
    let given : c.results ≡ [] = ap reverse (no_results m.types f.ty empty) in
    let typed = subst (λ ts. SequenceTyped c (c.results ∷ []) (sequence_of f.body) [] ts) given h.1 in
    let body = body_from c (c.results ∷ []) f.body [] b.1 h.2.1 typed in
    record {
      ty = h.0;
      locals = none_in f.locals b.0;
      body = subst (λ n. IsFirstBody n 0 f.body) (global_count m none) body;
    }

func_passes : (types globals : ℕ) (f : Func) → IsFirstFunc types globals f → is_first_func f ≡ true
func_passes types globals f h = rw (h.locals, body_passes globals 0 f.body h.body) refl

-- names of a valid module differ
names_apart : (exports : List Export) → AreApart (map (λ (x : Export). x.name) exports) → AllPairs (λ first second. first.name ≢ second.name) exports
names_apart exports h i j d before within same =
    let x = get_or exports i d in
    let y = get_or exports j d in
    let first : slice_get (map (λ (x : Export). x.name) exports) i ≡ Some x.name =
    slice_get-map (λ (x : Export). x.name) exports i ∙ rw (slice_get-get_or exports i d (omega arith)) refl in
    let second : slice_get (map (λ (x : Export). x.name) exports) j ≡ Some x.name =
    slice_get-map (λ (x : Export). x.name) exports j ∙ rw (slice_get-get_or exports j d within) (ap Some (sym same)) in
    let one : i ≡ j = h i j x.name first second in
    absurd (omega arith)

-- ---- the module

all_known : {A : Type 0} (P Q : A → Type 0) (xs : List A) → All P xs → All Q xs → All (λ x. P x × Q x) xs
all_known P Q xs h k =
    All-from_recursion (λ x. P x × Q x) xs (all_both P Q xs (recursion_from_All P xs h) (recursion_from_All Q xs k))

record Passes (m : Module) : Type 0 where
  types : is_vector m.types ≡ true
  funcs : is_vector m.funcs ≡ true
  globals : is_vector m.globals ≡ true
  exports : is_vector m.exports ≡ true
  no_imports : m.imports ≡ []
  no_tables : m.tables ≡ []
  no_memories : m.memories ≡ []
  no_start : m.start ≡ None
  no_elems : m.elems ≡ []
  no_segments : m.segments ≡ []
  empty_types : list_all is_empty_type m.types ≡ true
  first_globals : list_all is_first_global m.globals ≡ true
  functions : list_all (λ export. is_function export.kind) m.exports ≡ true
  first_funcs : list_all is_first_func m.funcs ≡ true

nothing : (o : Option ℕ) → is_none o ≡ true → o ≡ None
nothing None e = refl
nothing (Some x) e = absurd (false≢true e)

passed : (m : Module) → is_first m ≡ true → Passes m
passed m e =
    let whole = both (are_vectors m && lacks_other_parts m) (has_first_parts m) e in
    let front = both (are_vectors m) (lacks_other_parts m) whole.0 in
    let v4 = both (is_vector m.types && is_vector m.funcs && is_vector m.globals) (is_vector m.exports) front.0 in
    let v3 = both (is_vector m.types && is_vector m.funcs) (is_vector m.globals) v4.0 in
    let v2 = both (is_vector m.types) (is_vector m.funcs) v3.0 in
    let l6 = both (is_empty m.imports && is_empty m.tables && is_empty m.memories && is_none m.start && is_empty m.elems) (is_empty m.segments) front.1 in
    let l5 = both (is_empty m.imports && is_empty m.tables && is_empty m.memories && is_none m.start) (is_empty m.elems) l6.0 in
    let l4 = both (is_empty m.imports && is_empty m.tables && is_empty m.memories) (is_none m.start) l5.0 in
    let l3 = both (is_empty m.imports && is_empty m.tables) (is_empty m.memories) l4.0 in
    let l2 = both (is_empty m.imports) (is_empty m.tables) l3.0 in
    let p4 = both (list_all is_empty_type m.types && list_all is_first_global m.globals && list_all (λ export. is_function export.kind) m.exports) (list_all is_first_func m.funcs) whole.1 in
    let p3 = both (list_all is_empty_type m.types && list_all is_first_global m.globals) (list_all (λ export. is_function export.kind) m.exports) p4.0 in
    let p2 = both (list_all is_empty_type m.types) (list_all is_first_global m.globals) p3.0 in
    record {
      types = v2.0;
      funcs = v2.1;
      globals = v3.1;
      exports = v4.1;
      no_imports = none_in m.imports l2.0;
      no_tables = none_in m.tables l2.1;
      no_memories = none_in m.memories l3.1;
      no_start = nothing m.start l4.1;
      no_elems = none_in m.elems l5.1;
      no_segments = none_in m.segments l6.1;
      empty_types = p2.0;
      first_globals = p2.1;
      functions = p3.1;
      first_funcs = p4.1;
    }

first_from : (m : Module) → Valid m → Passes m → IsFirst m
first_from m valid p =
    record {
      few_types = ltb-true _ _ p.types;
      few_funcs = ltb-true _ _ p.funcs;
      few_globals = ltb-true _ _ p.globals;
      few_exports = ltb-true _ _ p.exports;
      types = All-from_recursion IsEmptyType m.types (all_from (λ ty. is_empty_type ty ≡ true) IsEmptyType empty_type m.types (passing is_empty_type m.types p.empty_types));
      imports = p.no_imports;
      funcs =
          each_from is_first_func (λ f. (f.ty < length m.types) × FuncValid m f × (IsWord f.ty × SequenceInRange (sequence_of f.body))) (IsFirstFunc (length m.types) (length m.globals))
          (first_func m p.no_imports p.empty_types) m.funcs p.first_funcs
          (All-from_recursion (λ f. (f.ty < length m.types) × FuncValid m f × (IsWord f.ty × SequenceInRange (sequence_of f.body))) m.funcs
          (known_funcs m.funcs (recursion_from_All (λ f. f.ty < length m.types) m.funcs valid.parts.funcs) (recursion_from_All (FuncValid m) m.funcs valid.parts.bodies)
          (recursion_from_All (λ f. IsWord f.ty × SequenceInRange (sequence_of f.body)) m.funcs valid.ranges.funcs)));
      tables = p.no_tables;
      memories = p.no_memories;
      globals =
          each_from is_first_global (λ g. GlobalValid m g × SequenceInRange (sequence_of g.init)) IsFirstGlobal (first_global m p.no_imports) m.globals p.first_globals
          (all_known (GlobalValid m) (λ g. SequenceInRange (sequence_of g.init)) m.globals valid.parts.globals valid.ranges.globals);
      exports =
          each_from (λ x. is_function x.kind) (λ x. ExportValid m x.kind × (BytesInRange x.name × ExportInRange x.kind)) (IsFirstExport (length m.funcs)) (first_export m p.no_imports) m.exports p.functions
          (all_known (λ x. ExportValid m x.kind) (λ x. BytesInRange x.name × ExportInRange x.kind) m.exports valid.parts.exports valid.ranges.exports);
      names = names_apart m.exports valid.parts.names;
      start = p.no_start;
      elems = p.no_elems;
      segments = p.no_segments;
      customs = λ k d within. let h = valid.ranges.customs k d within in record { after = h.0; name = h.1; bytes = h.2 };
    }
  where
    known_funcs : (fs : List Func) → AllByRecursion (λ f. f.ty < length m.types) fs → AllByRecursion (FuncValid m) fs →
        AllByRecursion (λ f. IsWord f.ty × SequenceInRange (sequence_of f.body)) fs →
        AllByRecursion (λ f. (f.ty < length m.types) × FuncValid m f × (IsWord f.ty × SequenceInRange (sequence_of f.body))) fs
    known_funcs [] a b c = tt
    known_funcs (f ∷ fs) a b c = ((a.0, b.0, c.0), known_funcs fs a.1 b.1 c.1)

first_passes : (m : Module) → IsFirst m → is_first m ≡ true
first_passes m h =
    let vectors : are_vectors m ≡ true = rw (lt-ltb _ _ h.few_types, lt-ltb _ _ h.few_funcs, lt-ltb _ _ h.few_globals, lt-ltb _ _ h.few_exports) refl in
    let lacks : lacks_other_parts m ≡ true = rw (h.imports, h.tables, h.memories, h.start, h.elems, h.segments) refl in
    let t1 = each_passes is_empty_type IsEmptyType empty_passes m.types h.types in
    let t2 = each_passes is_first_global IsFirstGlobal global_passes m.globals h.globals in
    let t3 = each_passes (λ x. is_function x.kind) (IsFirstExport (length m.funcs)) (λ x k. function_passes (length m.funcs) x.kind k.kind) m.exports h.exports in
    let t4 = each_passes is_first_func (IsFirstFunc (length m.types) (length m.globals)) (func_passes (length m.types) (length m.globals)) m.funcs h.funcs in
    let parts : has_first_parts m ≡ true = rw (t1, t2, t3, t4) refl in
    rw (vectors, lacks, parts) refl

-- the tests say exactly whether a valid module is of the form
pub tests_are_exact : (m : Module) → Valid m → IsTrue (is_first m) ↔ IsFirst m
tests_are_exact m valid = (λ e. first_from m valid (passed m e), first_passes m)

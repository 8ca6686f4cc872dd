-- A module with its marks has one first fault.
use Rattle.std.proofs.Common.{◌≡◌, ℕ, ◌<◌, List, slice_get, Option, Some, None, sym, ap, subst, ◌∙◌, inl, inr, IfSome}
use Rattle.std.proofs.lemmas.Bool.{cases_order}
use Rattle.std.proofs.lemmas.Option.{slice_get_within}
use Rattle.wasm_syntax.specs.declared.instr.Instr.{Instr}
use Rattle.wasm_syntax.specs.declared.module.Func.{Func}
use Rattle.wasm_syntax.specs.declared.module.Module.{Module}
use Rattle.wasm_syntax.specs.declared.module.Marks.{Marks}
use Rattle.wasm_syntax.specs.FlatForm.{flat_body}
use Rattle.wasm_typing.specs.declared.fault.ValidWord.{ValidWord}
use Rattle.wasm_typing.specs.Typing.{Context}
use Rattle.wasm_typing.specs.faults.Open.{labels_of, parts_before}
use Rattle.wasm_typing.specs.Valid.{FuncValid, context_of, Valid}
use Rattle.wasm_typing.specs.faults.Faults.{type_fault, import_fault, func_fault, module_table_fault, module_memory_fault, global_fault, export_fault, start_fault, elem_fault, segment_fault, item_word, NoFault, BodiesValid, FirstFault, BodyFault, StartFault, CodeFault, In, InvalidAt}
use Rattle.body_check.proofs.PrefixLemmas.{typed_through}
use Rattle.wasm_validate.proofs.PartsLemmas.{parts_none, refuted}

-- a place and a word, at most one of each
abbrev Once : (ℕ → ValidWord → Type 0) → Type 0
Once F = (at other : ℕ) (w v : ValidWord) → F at w → F other v → (at ≡ other) × (w ≡ v)

no_some : (w : ValidWord) → None ≡ Some w → ⊥
no_some w e = cc

-- ---- entries

entry_same : {X : Type 0} (fault : ℕ → X → Option ValidWord) (xs : List X) (places : List ℕ) (at other : ℕ) (w v : ValidWord) →
    (f : FirstFault fault xs places at w) → (g : FirstFault fault xs places other v) → f.entry ≡ g.entry → (at ≡ other) × (w ≡ v)
entry_same {X} fault xs places at other w v f g e =
    let items : Some f.item ≡ Some g.item = sym f.there ∙ (ap (slice_get xs) e ∙ g.there) in
    let item : f.item ≡ g.item = cc in
    let spots : Some at ≡ Some other = sym f.place ∙ (ap (slice_get places) e ∙ g.place) in
    let words : Some w ≡ Some v = sym f.here ∙ (ap (λ n. fault n f.item) e ∙ (ap (fault g.entry) item ∙ g.here)) in
    (cc, cc)

entry_before : {X : Type 0} (fault : ℕ → X → Option ValidWord) (xs : List X) (places : List ℕ) (at other : ℕ) (w v : ValidWord) →
    (f : FirstFault fault xs places at w) → (g : FirstFault fault xs places other v) → f.entry < g.entry → ⊥
entry_before fault xs places at other w v f g less = no_some w (sym (g.before f.entry f.item less f.there) ∙ f.here)

first_once : {X : Type 0} (fault : ℕ → X → Option ValidWord) (xs : List X) (places : List ℕ) → Once (FirstFault fault xs places)
first_once fault xs places at other w v f g =
    elim (cases_order f.entry g.entry) [
      | inl e ↦ entry_same fault xs places at other w v f g e
      | inr more ↦
          elim more [
            | inl less ↦ absurd (entry_before fault xs places at other w v f g less)
            | inr less ↦ absurd (entry_before fault xs places other at v w g f less)
          ]
    ]

first_not_none : {X : Type 0} (fault : ℕ → X → Option ValidWord) (xs : List X) (places : List ℕ) (at : ℕ) (w : ValidWord) → FirstFault fault xs places at w → NoFault fault xs → ⊥
first_not_none fault xs places at w f none = no_some w (sym (none f.entry f.item f.there) ∙ f.here)

-- ---- the start function

start_once : (m : Module) (o : Option ℕ) (place : ℕ) → Once (StartFault m o place)
start_once m None place at other w v f g = absurd f
start_once m (Some s) place at other w v f g =
    let words : Some w ≡ Some v = sym f.0 ∙ g.0 in
    (f.1 ∙ sym g.1, cc)

start_not_none : (m : Module) (o : Option ℕ) (place at : ℕ) (w : ValidWord) → StartFault m o place at w → IfSome o (λ f. start_fault m f ≡ None) → ⊥
start_not_none m None place at w f none = f
start_not_none m (Some s) place at w f none = no_some w (sym none ∙ f.0)

-- ---- bodies

body_same : (c : Context) (body : List Instr) (places : List ℕ) (at other : ℕ) (w v : ValidWord) →
    (f : BodyFault c body places at w) → (g : BodyFault c body places other v) → f.number ≡ g.number → (at ≡ other) × (w ≡ v)
body_same c body places at other w v f g e =
    let items : Some f.item ≡ Some g.item = sym f.there ∙ (ap (slice_get (flat_body body)) e ∙ g.there) in
    let item : f.item ≡ g.item = cc in
    let spots : Some at ≡ Some other = sym f.place ∙ (ap (slice_get places) e ∙ g.place) in
    let words : w ≡ v = f.word_is ∙ (ap (λ n. item_word c (labels_of c (parts_before body n)) f.item) e ∙ (ap (item_word c (labels_of c (parts_before body g.number))) item ∙ sym g.word_is)) in
    (cc, words)

body_once : (c : Context) (body : List Instr) (places : List ℕ) → Once (BodyFault c body places)
body_once c body places at other w v f g =
    elim (cases_order f.number g.number) [
      | inl e ↦ body_same c body places at other w v f g e
      | inr more ↦
          elim more [
            | inl less ↦ absurd (f.here (g.before f.number less))
            | inr less ↦ absurd (g.here (f.before g.number less))
          ]
    ]

fault_not_valid : (m : Module) (f : Func) (places : List ℕ) (at : ℕ) (w : ValidWord) → BodyFault (context_of m f) f.body places at w → FuncValid m f → ⊥
fault_not_valid m f places at w b valid =
    b.here (typed_through (context_of m f) f.body b.number (slice_get_within (flat_body f.body) b.number b.item b.there) valid)

code_same : (m : Module) (code : List (List ℕ)) (at other : ℕ) (w v : ValidWord) →
    (f : CodeFault m code at w) → (g : CodeFault m code other v) → f.number ≡ g.number → (at ≡ other) × (w ≡ v)
code_same m code at other w v f g e =
    let funcs : Some f.func ≡ Some g.func = sym f.there ∙ (ap (slice_get m.funcs) e ∙ g.there) in
    let func : f.func ≡ g.func = cc in
    let marks : Some f.places ≡ Some g.places = sym f.marked ∙ (ap (slice_get code) e ∙ g.marked) in
    let places : f.places ≡ g.places = cc in
    let P : Func → Type 0 = λ u. BodyFault (context_of m u) u.body f.places at w in
    let Q : List ℕ → Type 0 = λ ps. BodyFault (context_of m g.func) g.func.body ps at w in
    body_once (context_of m g.func) g.func.body g.places at other w v (subst Q places (subst P func f.body)) g.body

code_once : (m : Module) (code : List (List ℕ)) → Once (CodeFault m code)
code_once m code at other w v f g =
    elim (cases_order f.number g.number) [
      | inl e ↦ code_same m code at other w v f g e
      | inr more ↦
          elim more [
            | inl less ↦ absurd (fault_not_valid m f.func f.places at w f.body (g.before f.number f.func less f.there))
            | inr less ↦ absurd (fault_not_valid m g.func g.places other v g.body (f.before g.number g.func less g.there))
          ]
    ]

code_not_valid : (m : Module) (code : List (List ℕ)) (at : ℕ) (w : ValidWord) → CodeFault m code at w → BodiesValid m → ⊥
code_not_valid m code at w f valid = fault_not_valid m f.func f.places at w f.body (valid f.number f.func f.there)

-- ---- sections one after another

in_once : (F L : ℕ → ValidWord → Type 0) (Holds : Type 0) → Once F → ((at : ℕ) (w : ValidWord) → F at w → Holds → ⊥) → Once L → Once (λ at w. In (F at w) Holds (L at w))
in_once F L Holds first apart later at other w v (inl f) (inl g) = first at other w v f g
in_once F L Holds first apart later at other w v (inl f) (inr g) = absurd (apart at w f g.0)
in_once F L Holds first apart later at other w v (inr f) (inl g) = absurd (apart other v g f.0)
in_once F L Holds first apart later at other w v (inr f) (inr g) = later at other w v f.1 g.1

entries_in : {X : Type 0} (fault : ℕ → X → Option ValidWord) (xs : List X) (places : List ℕ) (L : ℕ → ValidWord → Type 0) → Once L → Once (λ at w. In (FirstFault fault xs places at w) (NoFault fault xs) (L at w))
entries_in fault xs places L later = in_once (FirstFault fault xs places) L (NoFault fault xs) (first_once fault xs places) (first_not_none fault xs places) later

pub invalid_once : (m : Module) (k : Marks) (at other : ℕ) (w v : ValidWord) → InvalidAt m k at w → InvalidAt m k other v → (at ≡ other) × (w ≡ v)
invalid_once m k =
    let segments : Once (FirstFault (λ n. segment_fault m) m.segments k.segments) = first_once (λ n. segment_fault m) m.segments k.segments in
    let code = in_once (CodeFault m k.code) _ (BodiesValid m) (code_once m k.code) (code_not_valid m k.code) segments in
    let elems = entries_in (λ n. elem_fault m) m.elems k.elems _ code in
    let start = in_once (StartFault m m.start k.start) _ (IfSome m.start (λ f. start_fault m f ≡ None)) (start_once m m.start k.start) (start_not_none m m.start k.start) elems in
    let exports = entries_in (export_fault m) m.exports k.exports _ start in
    let globals = entries_in (λ n. global_fault m) m.globals k.globals _ exports in
    let memories = entries_in (module_memory_fault m) m.memories k.memories _ globals in
    let tables = entries_in (module_table_fault m) m.tables k.tables _ memories in
    let funcs = entries_in (λ n. func_fault m) m.funcs k.funcs _ tables in
    let imports = entries_in (import_fault m) m.imports k.imports _ funcs in
    entries_in (λ n. type_fault) m.types k.types _ imports

pub valid_is_not_invalid : (m : Module) (k : Marks) (at : ℕ) (w : ValidWord) → Valid m → InvalidAt m k at w → ⊥
valid_is_not_invalid m k at w valid i = refuted m k at w i (parts_none m valid.parts)

-- The texts of types, imports and exports spell them.
use Rattle.std.proofs.Common.{ℕ, ◌+◌, Bool, true, false, List, [], ◌∷◌, ◌++◌, length, Option, Some, None, refl, sym, subst}
use Rattle.std.specs.List.{AllByRecursion, flat_map}
use Rattle.std.proofs.lemmas.List.{append-nil}
use Rattle.wasm_values.specs.declared.number.ValType.{ValType}
use Rattle.wasm_values.specs.declared.number.ValType.TheVariants.{I32, I64}
use Rattle.wasm_syntax.specs.declared.module.Limits.{Limits}
use Rattle.wasm_syntax.specs.declared.module.GlobalType.{GlobalType}
use Rattle.wasm_syntax.specs.declared.module.ImportKind.{ImportKind}
use Rattle.wasm_syntax.specs.declared.module.ImportKind.TheVariants as import
use Rattle.wasm_syntax.specs.declared.module.ExportKind.{ExportKind}
use Rattle.wasm_syntax.specs.declared.module.ExportKind.TheVariants as export
use Rattle.binary_grammar.specs.Grammar.{Spelling, Then, Done, TheByte, Tagged, SpellsNumber, Each, Many, SpellsVector, SpellsList, Bytes, SpellsBytes, Utf8, SpellsName, SpellsValueType, SpellsBlockType, SpellsFuncType, SpellsFlag, SpellsGreatest, SpellsLimits, SpellsTableType, SpellsGlobalType, SpellsImportKind, SpellsImport, SpellsExportKind, SpellsExport, export_index}
use Rattle.wasm_write.specs.Shortest.{number_text}
use Rattle.wasm_write.specs.Encoding.{vector_text, sized_text, value_type_text, block_type_code, func_type_text, between_text, limits_text, table_type_text, mutability_code, global_type_text, import_kind_text, import_text, export_kind_text, export_text}
use Rattle.wasm_write.specs.Writable.{IsU32, IsCounted, IsName, IsMaximum, AreLimits, TypeWritable, ImportKindWritable, ImportWritable, ExportWritable}
use Rattle.wasm_write.proofs.NumberTexts.{spells_number}

-- ---- putting parts together

pub then : {A B : Type 0} (P : Spelling A) (Q : A → Spelling B) (at : ℕ) (a b : List ℕ) (x : A) (y : B) → P at a x → Q x (at + length a) b y → Then P Q at (a ++ b) y
unfolding Then
then P Q at a b x y p q = (x, a, b, refl, p, q)

pub then_done : {A B : Type 0} (P : Spelling A) (f : A → B) (at : ℕ) (a : List ℕ) (x : A) → P at a x → Then P (λ z. Done (f z)) at a (f x)
unfolding Then Done
then_done P f at a x p = (x, a, [], sym (append-nil a), p, (refl, refl))

pub the_byte : (at b : ℕ) → TheByte b at (b ∷ []) b
unfolding TheByte
the_byte at b = (refl, refl)

pub tagged : {A : Type 0} (K : ℕ → Spelling A) (at b : ℕ) (rest : List ℕ) (x : A) → K b (at + 1) rest x → Tagged K at (b ∷ rest) x
unfolding Tagged
tagged K at b rest x k = (b, rest, refl, k)

pub number : (at n : ℕ) → IsU32 n → SpellsNumber at (number_text n) n
unfolding SpellsNumber
number at n lt = spells_number n lt

-- ---- vectors

-- the text of each writable value spells it
abbrev pub Spelled : {A : Type 0} → Spelling A → (A → List ℕ) → (A → Type 0) → Type 0
Spelled {A} P text W = (x : A) → W x → (at : ℕ) → P at (text x) x

pub each : {A : Type 0} (P : Spelling A) (text : A → List ℕ) (W : A → Type 0) → Spelled P text W → (xs : List A) → AllByRecursion W xs → (at : ℕ) → (ps : List ℕ) × Each P at (flat_map text xs) (xs, ps)
each P text W s [] w at = ([], refl)
each P text W s (x ∷ xs) w at =
    let more = each P text W s xs w.1 (at + length (text x)) in
    (at ∷ more.0, (refl, text x, flat_map text xs, refl, s x w.0 at, more.1))

pub vector : {A : Type 0} (P : Spelling A) (text : A → List ℕ) (W : A → Type 0) → Spelled P text W → (xs : List A) → IsCounted xs → AllByRecursion W xs → (at : ℕ) → (ps : List ℕ) × SpellsVector P at (vector_text text xs) (xs, ps)
unfolding vector_text SpellsVector Many
vector P text W s xs few w at =
    let entries = each P text W s xs w (at + length (number_text (length xs))) in
    (entries.0, then _ _ at (number_text (length xs)) (flat_map text xs) (length xs) (xs, entries.0) (number at (length xs) few) (refl, entries.1))

pub list : {A : Type 0} (P : Spelling A) (text : A → List ℕ) (W : A → Type 0) → Spelled P text W → (xs : List A) → IsCounted xs → AllByRecursion W xs → (at : ℕ) → SpellsList P at (vector_text text xs) xs
unfolding SpellsList
list {A} P text W s xs few w at =
    let v = vector P text W s xs few w at in
    then_done _ (λ (z : List A × List ℕ). z.0) at (vector_text text xs) (xs, v.0) v.1

pub always : {A : Type 0} (xs : List A) → AllByRecursion (λ x. Unit {0}) xs
always [] = tt
always (x ∷ xs) = (tt, always xs)

pub bytes : (at : ℕ) (bs : List ℕ) → IsCounted bs → SpellsBytes at (sized_text bs) bs
unfolding sized_text SpellsBytes Bytes
bytes at bs few = then _ _ at (number_text (length bs)) bs (length bs) bs (number at (length bs) few) (refl, refl)

pub name : (at : ℕ) (bs : List ℕ) → IsName bs → SpellsName at (sized_text bs) bs
unfolding sized_text SpellsName Utf8
name at bs h = then _ _ at (number_text (length bs)) bs (length bs) bs (number at (length bs) h.0) (refl, h.1, refl)

-- ---- types

pub value_type : Spelled SpellsValueType value_type_text (λ t. Unit {0})
unfolding SpellsValueType
value_type I32 w at = refl
value_type I64 w at = refl

pub block_type : (at : ℕ) (t : Option ValType) → SpellsBlockType at (block_type_code t ∷ []) t
unfolding SpellsBlockType SpellsValueType
block_type at None = refl
block_type at (Some I32) = refl
block_type at (Some I64) = refl

pub func_type : Spelled SpellsFuncType func_type_text TypeWritable
unfolding SpellsFuncType
func_type t w at =
    let a = vector_text value_type_text t.params in
    let b = vector_text value_type_text t.results in
    let params = vector SpellsValueType value_type_text (λ t. Unit {0}) value_type t.params w.0 (always t.params) (at + 1) in
    let results = list SpellsValueType value_type_text (λ t. Unit {0}) value_type t.results w.1 (always t.results) (at + 1 + length a) in
    then _ _ at (0x60 ∷ []) (a ++ b) 0x60 t (the_byte at 0x60)
    (then _ _ (at + 1) a b (t.params, params.0) t params.1
    (then_done _ (λ rs. record { params = t.params; results = rs }) (at + 1 + length a) b t.results results))

flag : (at : ℕ) (b : Bool) → SpellsFlag at (mutability_code b ∷ []) b
unfolding SpellsFlag
flag at false = refl
flag at true = refl

abbrev limits_of : ℕ → Option ℕ → Limits
limits_of n most = record { min = n; max = most }

between : (at n : ℕ) (most : Option ℕ) → IsU32 n → IsMaximum most → SpellsLimits at (between_text n most) (limits_of n most)
unfolding SpellsLimits SpellsGreatest Done
between at n None h w =
    then _ _ at (0 ∷ []) (number_text n) false (limits_of n None) (flag at false)
    (subst (λ text. Then SpellsNumber (λ least. Then (SpellsGreatest false) (λ greatest. Done (limits_of least greatest))) (at + 1) text (limits_of n None)) (append-nil (number_text n))
    (then _ _ (at + 1) (number_text n) [] n (limits_of n None) (number (at + 1) n h)
    (then_done _ (λ k. limits_of n k) (at + 1 + length (number_text n)) [] None (refl, refl))))
between at n (Some k) h w =
    then _ _ at (1 ∷ []) (number_text n ++ number_text k) true (limits_of n (Some k)) (flag at true)
    (then _ _ (at + 1) (number_text n) (number_text k) n (limits_of n (Some k)) (number (at + 1) n h)
    (then_done _ (λ g. limits_of n g) (at + 1 + length (number_text n)) (number_text k) (Some k)
    (then_done _ (λ g. Some g) (at + 1 + length (number_text n)) (number_text k) k (number (at + 1 + length (number_text n)) k w))))

pub limits : Spelled SpellsLimits limits_text AreLimits
limits l w at = between at l.min l.max w.0 w.1

pub table_type : Spelled SpellsTableType table_type_text AreLimits
unfolding SpellsTableType
table_type l w at = then _ _ at (0x70 ∷ []) (limits_text l) 0x70 l (the_byte at 0x70) (limits l w (at + 1))

pub global_type : (at : ℕ) (g : GlobalType) → SpellsGlobalType at (global_type_text g) g
unfolding SpellsGlobalType
global_type at g =
    then _ _ at (value_type_text g.value) (mutability_code g.mutable ∷ []) g.value g (value_type g.value tt at)
    (then_done _ (λ m. record { value = g.value; mutable = m }) (at + 1) (mutability_code g.mutable ∷ []) g.mutable (flag (at + 1) g.mutable))

-- ---- imports and exports

import_kind : (at : ℕ) (k : ImportKind) → ImportKindWritable k → SpellsImportKind at (import_kind_text k) k
unfolding SpellsImportKind
import_kind at (import.Func n) w = tagged _ at 0 (number_text n) (import.Func n) (refl, number (at + 1) n w)
import_kind at (import.Table l) w = tagged _ at 1 (table_type_text l) (import.Table l) (refl, table_type l w (at + 1))
import_kind at (import.Memory l) w = tagged _ at 2 (limits_text l) (import.Memory l) (refl, limits l w (at + 1))
import_kind at (import.Global g) w = tagged _ at 3 (global_type_text g) (import.Global g) (refl, global_type (at + 1) g)

pub import_ : Spelled SpellsImport import_text ImportWritable
unfolding SpellsImport
import_ i w at =
    let a = sized_text i.«module» in
    let b = sized_text i.name in
    let c = import_kind_text i.kind in
    then _ _ at a (b ++ c) i.«module» i (name at i.«module» w.0)
    (then _ _ (at + length a) b c i.name i (name (at + length a) i.name w.1)
    (then_done _ (λ k. record { «module» = i.«module»; name = i.name; kind = k }) (at + length a + length b) c i.kind (import_kind (at + length a + length b) i.kind w.2)))

export_kind : (at : ℕ) (k : ExportKind) → IsU32 (export_index k) → SpellsExportKind at (export_kind_text k) k
unfolding SpellsExportKind
export_kind at (export.Func n) w = tagged _ at 0 (number_text n) (export.Func n) (refl, number (at + 1) n w)
export_kind at (export.Table n) w = tagged _ at 1 (number_text n) (export.Table n) (refl, number (at + 1) n w)
export_kind at (export.Memory n) w = tagged _ at 2 (number_text n) (export.Memory n) (refl, number (at + 1) n w)
export_kind at (export.Global n) w = tagged _ at 3 (number_text n) (export.Global n) (refl, number (at + 1) n w)

pub export_ : Spelled SpellsExport export_text ExportWritable
unfolding SpellsExport
export_ e w at =
    let a = sized_text e.name in
    let b = export_kind_text e.kind in
    then _ _ at a b e.name e (name at e.name w.0)
    (then_done _ (λ k. record { name = e.name; kind = k }) (at + length a) b e.kind (export_kind (at + length a) e.kind w.1))

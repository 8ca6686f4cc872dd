-- Types, limits, imports and exports are read exactly.
use Rattle.std.proofs.Common.{◌≡◌, ℕ, ◌≤◌, Bool, true, false, cond, ltb, eqb, List, [], ◌∷◌, ◌++◌, length, take, drop, Option, Some, None, Result, Ok, Err, inl, inr, refl, sym, ap, subst, ◌∙◌, append_assoc, arith}
use Rattle.std.specs.List.{AllByRecursion}
use Rattle.std.specs.Prelude.{◌||◌}
use Rattle.std.proofs.lemmas.Bool.{ltb-false, le-ltb, eqb-true, eq-eqb}
use Rattle.std.proofs.lemmas.List.{length-append, take_at, drop_at, take-append-drop, length-take}
use Rattle.std.specs.Str.{IsUtf8, is_utf8}
use Rattle.std.proofs.lemmas.Str.{IsUtf8-from_is_utf8, is_utf8-from_IsUtf8}
use Rattle.wasm_values.specs.declared.number.ValType.{ValType}
use Rattle.wasm_values.specs.declared.number.ValType.TheVariants.{I32, I64}
use Rattle.wasm_syntax.specs.declared.module.FuncType.{FuncType}
use Rattle.wasm_syntax.specs.declared.module.ImportKind.{ImportKind}
use Rattle.wasm_syntax.specs.declared.module.ImportKind.TheVariants as import
use Rattle.wasm_syntax.specs.declared.module.ExportKind.{ExportKind}
use Rattle.wasm_syntax.specs.declared.module.ExportKind.TheVariants as export
use Rattle.binary_grammar.specs.declared.fault.DecodeFault.{DecodeFault}
use Rattle.binary_grammar.specs.declared.fault.DecodeFault.TheVariants.{Malformed, Limit}
use Rattle.binary_grammar.specs.declared.fault.DecodeWord.TheVariants as word
use Rattle.wasm_values.specs.declared.limit.LimitWord.{LimitWord}
use Rattle.wasm_values.specs.declared.limit.LimitWord.TheVariants.{Params}
use Rattle.binary_grammar.specs.words.Reading.{◌>>=◌, Reader, place, then_at, done_at, number_at, entries_at, vector_at, limited_at, list_at, run_at, bytes_at, text_of, text_at, name_at}
use Rattle.binary_grammar.specs.words.TypeReading.{value_type_of, value_type_at, tag_of, tag_at, flag_of, flag_at, block_type_of, block_type_at, func_type_at, greatest_at, limits_at, table_type_at, global_type_at, import_kind_of, import_kind_at, import_at, export_kind_of, export_kind_at, export_at}
use Rattle.binary_grammar.specs.Grammar.{Spelling, Then, Done, TheByte, SpellsNumber, Many, SpellsVector, SpellsList, Bytes, SpellsBytes, Utf8, SpellsName, SpellsValueType, SpellsBlockType, SpellsFuncType, SpellsFlag, SpellsGreatest, SpellsLimits, SpellsTableType, SpellsGlobalType, import_tag, SpellsImported, SpellsImportKind, SpellsImport, export_tag, export_index, SpellsExportKind, SpellsExport}
use Rattle.binary_grammar.proofs.NumberLaws.{chosen}
use Rattle.binary_grammar.proofs.Exact.{Limited, Free, Taken, Exact, Splits, ok, ok_is, bind_ok, place_after, shorter, exact_then, exact_done, free, exact_number, exact_byte, exact_as, exact_tagged, exact_map, exact_entries, exact_vector, exact_list}

abbrev err : {A : Type 0} → DecodeFault → Result A DecodeFault
err e = Err e

-- ---- single bytes

abbrev type_byte : ValType → ℕ
type_byte I32 = 0x7f
type_byte I64 = 0x7e

no_type : (c : Bool) (at : ℕ) (t : ValType) → cond c (err (Malformed at word.Float)) (err (Malformed at word.Byte)) ≡ ok t → ⊥
no_type true at t e = absurd cc
no_type false at t e = absurd cc

type_there : (at b : ℕ) (t : ValType) → value_type_of at b ≡ Ok t → b ≡ type_byte t
type_there at b t e =
    elim (chosen (eqb b 0x7f) (ok I32) (cond (eqb b 0x7e) (ok I64) (cond (eqb b 0x7d || eqb b 0x7c) (err (Malformed at word.Float)) (err (Malformed at word.Byte)))) (ok t) e) [
      | inl h ↦ subst (λ x. b ≡ type_byte x) (ok_is I32 t h.1) (eqb-true b 0x7f h.0)
      | inr h ↦ elim (chosen (eqb b 0x7e) (ok I64) (cond (eqb b 0x7d || eqb b 0x7c) (err (Malformed at word.Float)) (err (Malformed at word.Byte))) (ok t) h.1) [
        | inl k ↦ subst (λ x. b ≡ type_byte x) (ok_is I64 t k.1) (eqb-true b 0x7e k.0)
        | inr k ↦ absurd (no_type (eqb b 0x7d || eqb b 0x7c) at t k.1)
      ]
    ]

type_back : (at b : ℕ) (t : ValType) → b ≡ type_byte t → value_type_of at b ≡ Ok t
type_back at b I32 e = rw e refl
type_back at b I64 e = rw e refl

type_text : (at : ℕ) (text : List ℕ) (t : ValType) → (b : ℕ) × (text ≡ b ∷ []) × (b ≡ type_byte t) → SpellsValueType at text t
unfolding SpellsValueType
type_text at text I32 h = h.1 ∙ ap (λ b. b ∷ []) h.2
type_text at text I64 h = h.1 ∙ ap (λ b. b ∷ []) h.2

text_type : (at : ℕ) (text : List ℕ) (t : ValType) → SpellsValueType at text t → (b : ℕ) × (text ≡ b ∷ []) × (b ≡ type_byte t)
unfolding SpellsValueType
text_type at text I32 h = (0x7f, h, refl)
text_type at text I64 h = (0x7e, h, refl)

pub exact_value_type : Exact value_type_at SpellsValueType Free
unfolding value_type_at
exact_value_type = exact_as (exact_byte value_type_of (λ b t. b ≡ type_byte t) type_there type_back) type_text text_type

tag_there : (tag at b x : ℕ) → tag_of tag at b ≡ Ok x → (b ≡ tag) × (x ≡ tag)
tag_there tag at b x e =
    elim (chosen (eqb b tag) (ok b) (err (Malformed at word.Byte)) (ok x) e) [
      | inl h ↦ (eqb-true b tag h.0, sym (ok_is b x h.1) ∙ eqb-true b tag h.0)
      | inr h ↦ absurd (let k = h.1 in cc)
    ]

tag_back : (tag at b x : ℕ) → (b ≡ tag) × (x ≡ tag) → tag_of tag at b ≡ Ok x
tag_back tag at b x h = rw (eq-eqb b tag h.0) (ap ok (h.0 ∙ sym h.1))

pub exact_tag : (tag : ℕ) → Exact (tag_at tag) (TheByte tag) Free
unfolding tag_at TheByte
exact_tag tag = exact_as (exact_byte (tag_of tag) (λ b x. (b ≡ tag) × (x ≡ tag)) (tag_there tag) (tag_back tag))
    (λ at text x h. (h.1 ∙ ap (λ b. b ∷ []) h.2.0, h.2.1)) (λ at text x h. (tag, h.0, (refl, h.1)))

abbrev flag_byte : Bool → ℕ
flag_byte false = 0
flag_byte true = 1

flag_there : (at b : ℕ) (t : Bool) → flag_of at b ≡ Ok t → b ≡ flag_byte t
flag_there at b t e =
    elim (chosen (eqb b 0) (ok false) (cond (eqb b 1) (ok true) (err (Malformed at word.Byte))) (ok t) e) [
      | inl h ↦ subst (λ x. b ≡ flag_byte x) (ok_is false t h.1) (eqb-true b 0 h.0)
      | inr h ↦ elim (chosen (eqb b 1) (ok true) (err (Malformed at word.Byte)) (ok t) h.1) [
        | inl k ↦ subst (λ x. b ≡ flag_byte x) (ok_is true t k.1) (eqb-true b 1 k.0)
        | inr k ↦ absurd (let q = k.1 in cc)
      ]
    ]

flag_back : (at b : ℕ) (t : Bool) → b ≡ flag_byte t → flag_of at b ≡ Ok t
flag_back at b false e = rw e refl
flag_back at b true e = rw e refl

flag_text : (at : ℕ) (text : List ℕ) (t : Bool) → (b : ℕ) × (text ≡ b ∷ []) × (b ≡ flag_byte t) → SpellsFlag at text t
unfolding SpellsFlag
flag_text at text false h = h.1 ∙ ap (λ b. b ∷ []) h.2
flag_text at text true h = h.1 ∙ ap (λ b. b ∷ []) h.2

text_flag : (at : ℕ) (text : List ℕ) (t : Bool) → SpellsFlag at text t → (b : ℕ) × (text ≡ b ∷ []) × (b ≡ flag_byte t)
unfolding SpellsFlag
text_flag at text false h = (0, h, refl)
text_flag at text true h = (1, h, refl)

pub exact_flag : Exact flag_at SpellsFlag Free
unfolding flag_at
exact_flag = exact_as (exact_byte flag_of (λ b t. b ≡ flag_byte t) flag_there flag_back) flag_text text_flag

abbrev block_byte : Option ValType → ℕ
block_byte None = 0x40
block_byte (Some t) = type_byte t

block_there : (at b : ℕ) (t : Option ValType) → block_type_of at b ≡ Ok t → b ≡ block_byte t
block_there at b t e =
    elim (chosen (eqb b 0x40) (ok None) (value_type_of at b >>= λ x. Ok (Some x)) (ok t) e) [
      | inl h ↦ subst (λ x. b ≡ block_byte x) (ok_is None t h.1) (eqb-true b 0x40 h.0)
      | inr h ↦ let p = bind_ok (value_type_of at b) (λ x. Ok (Some x)) t h.1 in subst (λ x. b ≡ block_byte x) (ok_is (Some p.0) t p.2) (type_there at b p.0 p.1)
    ]

block_back : (at b : ℕ) (t : Option ValType) → b ≡ block_byte t → block_type_of at b ≡ Ok t
block_back at b None e = rw e refl
block_back at b (Some I32) e = rw e refl
block_back at b (Some I64) e = rw e refl

block_text : (at : ℕ) (text : List ℕ) (t : Option ValType) → (b : ℕ) × (text ≡ b ∷ []) × (b ≡ block_byte t) → SpellsBlockType at text t
unfolding SpellsBlockType
block_text at text None h = h.1 ∙ ap (λ b. b ∷ []) h.2
block_text at text (Some t) h = type_text at text t h

text_block : (at : ℕ) (text : List ℕ) (t : Option ValType) → SpellsBlockType at text t → (b : ℕ) × (text ≡ b ∷ []) × (b ≡ block_byte t)
unfolding SpellsBlockType
text_block at text None h = (0x40, h, refl)
text_block at text (Some t) h = text_type at text t h

pub exact_block_type : Exact block_type_at SpellsBlockType Free
unfolding block_type_at
exact_block_type = exact_as (exact_byte block_type_of (λ b t. b ≡ block_byte t) block_there block_back) block_text text_block

-- ---- bytes and names

run_takes : (n end : ℕ) (bytes rest x : List ℕ) → run_at n end bytes ≡ Ok (x, rest) → (n ≤ length bytes) × (take n bytes ≡ x) × (drop n bytes ≡ rest)
unfolding run_at
run_takes n end bytes rest x e =
    elim (chosen (ltb (length bytes) n) (err (Malformed end word.End)) (ok (take n bytes, drop n bytes)) (ok (x, rest)) e) [
      | inl h ↦ absurd (let k = h.1 in cc)
      | inr h ↦ let p = ok_is (take n bytes, drop n bytes) (x, rest) h.1 in (ltb-false (length bytes) n h.0, ap (λ (z : List ℕ × List ℕ). z.0) p, ap (λ (z : List ℕ × List ℕ). z.1) p)
    ]

run_again : (n end : ℕ) (text rest : List ℕ) → length text ≡ n → run_at n end (text ++ rest) ≡ Ok (text, rest)
unfolding run_at
run_again n end text rest e = rw (le-ltb (length (text ++ rest)) n (omega (arith, length-append text rest)), take_at text rest n e, drop_at text rest n e) refl

pub exact_run : (n : ℕ) → Exact (run_at n) (Bytes n) Free
unfolding Bytes
exact_run n = record {
  takes = λ end bytes rest x le e.
      let t = run_takes n end bytes rest x e in
      record { text = x; parts = sym (take-append-drop n bytes) ∙ ap (λ a. a ++ drop n bytes) t.1 ∙ ap (λ b. x ++ b) t.2; spells = (ap length (sym t.1) ∙ omega (arith, length-take n bytes, t.0), refl); within = tt };
  again = λ end text rest x le h w. run_again n end text rest h.0 ∙ ap (λ a. ok (a, rest)) (sym h.1);
}

pub exact_bytes : Exact bytes_at SpellsBytes Free
unfolding bytes_at SpellsBytes
exact_bytes = exact_then exact_number exact_run free

text_is : (bs : List ℕ) (at : ℕ) (x : List ℕ) → text_of bs at ≡ Ok x → IsUtf8 bs × (bs ≡ x)
text_is bs at x e =
    elim (chosen (is_utf8 bs) (ok bs) (err (Malformed at word.Utf8)) (ok x) e) [
      | inl h ↦ (IsUtf8-from_is_utf8 bs h.0, ok_is bs x h.1)
      | inr h ↦ absurd (let k = h.1 in cc)
    ]

pub exact_text : (n : ℕ) → Exact (text_at n) (Utf8 n) Free
unfolding text_at Utf8
exact_text n = record {
  takes = λ end bytes rest x le e.
      let p = bind_ok (run_at n end bytes) (λ t. text_of t.0 (place end bytes) >>= λ name. Ok (name, t.1)) (x, rest) e in
      let q = bind_ok (text_of p.0.0 (place end bytes)) (λ name. Ok (name, p.0.1)) (x, rest) p.2 in
      let s = ok_is (q.0, p.0.1) (x, rest) q.2 in
      let u = text_is p.0.0 (place end bytes) q.0 q.1 in
      let is : p.0.0 ≡ x = u.1 ∙ ap (λ (z : List ℕ × List ℕ). z.0) s in
      let t = run_takes n end bytes p.0.1 p.0.0 p.1 in
      record {
        text = x;
        parts = sym (take-append-drop n bytes) ∙ ap (λ a. a ++ drop n bytes) (t.1 ∙ is) ∙ ap (λ b. x ++ b) (t.2 ∙ ap (λ (z : List ℕ × List ℕ). z.1) s);
        spells = (ap length (sym (t.1 ∙ is)) ∙ omega (arith, length-take n bytes, t.0), subst IsUtf8 is u.0, refl);
        within = tt;
      };
  again = λ end text rest x le h w. rw (run_again n end text rest h.0, is_utf8-from_IsUtf8 text h.1) (ap (λ a. ok (a, rest)) (sym h.2));
}

pub exact_name : Exact name_at SpellsName Free
unfolding name_at SpellsName
exact_name = exact_then exact_number exact_text free

-- ---- counts with a limit

limited_parts : {A : Type 0} (r : Reader A) (most : ℕ) (w : LimitWord) (end : ℕ) (bytes rest : List ℕ) (y : List A × List ℕ) → limited_at r most w end bytes ≡ Ok (y, rest) →
    (n : ℕ × List ℕ) × (number_at end bytes ≡ Ok n) × (n.0 ≤ most) × (vector_at r end bytes ≡ Ok (y, rest))
unfolding limited_at vector_at then_at
limited_parts {A} r most w end bytes rest y e =
    let p = bind_ok (number_at end bytes) (λ n. cond (ltb most n.0) (err (Limit (place end bytes) w)) (entries_at r n.0 end n.1)) (y, rest) e in
    elim (chosen (ltb most p.0.0) (err (Limit (place end bytes) w)) (entries_at r p.0.0 end p.0.1) (ok (y, rest)) p.2) [
      | inl h ↦ absurd (let k = h.1 in cc)
      | inr h ↦ (p.0, p.1, ltb-false most p.0.0 h.0, ap (λ v. v >>= λ x. entries_at r x.0 end x.1) p.1 ∙ h.1)
    ]

-- the entries are as many as their count
vector_count : {A : Type 0} (r : Reader A) (end : ℕ) (bytes rest : List ℕ) (y : List A × List ℕ) (n : ℕ × List ℕ) → number_at end bytes ≡ Ok n → vector_at r end bytes ≡ Ok (y, rest) → entries_at r n.0 end n.1 ≡ Ok (y, rest)
unfolding vector_at then_at
vector_count r end bytes rest y n e f = sym (ap (λ v. v >>= λ x. entries_at r x.0 end x.1) e) ∙ f

abbrev pub Few : {A : Type 0} → ℕ → Limited A → Limited (List A × List ℕ)
Few most W x = (length x.0 ≤ most) × AllByRecursion W x.0

limited_again : {A : Type 0} (r : Reader A) (P : Spelling A) (W : Limited A) (most : ℕ) (w : LimitWord) → Exact r P W → (end : ℕ) (text rest : List ℕ) (y : List A × List ℕ) →
    length (text ++ rest) ≤ end → SpellsVector P (place end (text ++ rest)) text y → Few most W y → limited_at r most w end (text ++ rest) ≡ Ok (y, rest)
unfolding limited_at SpellsVector Then Many
limited_again {A} r P W most w er end text rest y le h few =
    let n = h.0 in
    let a = h.1 in
    let b = h.2 in
    let whole : text ++ rest ≡ a ++ (b ++ rest) = ap (λ t. t ++ rest) h.3 ∙ append_assoc a b rest in
    let num : number_at end (text ++ rest) ≡ Ok (n, b ++ rest) =
    ap (number_at end) whole ∙ exact_number.again end a (b ++ rest) n (subst (λ t. length t ≤ end) whole le) (subst (λ t. SpellsNumber (place end t) a n) whole h.4) tt in
    let many : Many P n (place end (b ++ rest)) b y = subst (λ at. Many P n at b y) (place_after end (text ++ rest) a (b ++ rest) le whole) h.5 in
    let go = (exact_entries er n).again end b rest y (shorter end (text ++ rest) a (b ++ rest) le whole) many few.1 in
    let small : ltb most n ≡ false = le-ltb most n (omega (arith, h.5.0, few.0)) in
    rw (num, small) go

limited_count : {A : Type 0} (r : Reader A) (P : Spelling A) (W : Limited A) → Exact r P W → (end most : ℕ) (bytes rest : List ℕ) (y : List A × List ℕ) (n : ℕ × List ℕ) → length bytes ≤ end →
    number_at end bytes ≡ Ok n → n.0 ≤ most → vector_at r end bytes ≡ Ok (y, rest) → length y.0 ≤ most
unfolding Many
limited_count r P W er end most bytes rest y n le e few f =
    let t = exact_number.takes end bytes n.1 n.0 le e in
    let u = (exact_entries er n.0).takes end n.1 rest y (shorter end bytes t.text n.1 le t.parts) (vector_count r end bytes rest y n e f) in
    omega (arith, u.spells.0)

pub exact_limited : {A : Type 0} {r : Reader A} {P : Spelling A} {W : Limited A} (most : ℕ) (w : LimitWord) → Exact r P W → Exact (limited_at r most w) (SpellsVector P) (Few most W)
exact_limited {A} {r} {P} {W} most w er = record {
  takes = λ end bytes rest y le e.
      let p = limited_parts r most w end bytes rest y e in
      let t = (exact_vector er).takes end bytes rest y le p.3 in
      record { text = t.text; parts = t.parts; spells = t.spells; within = (limited_count r P W er end most bytes rest y p.0 le p.1 p.2 p.3, t.within) };
  again = λ end text rest y le h few. limited_again r P W most w er end text rest y le h few;
}

-- ---- types

-- the limit of a function type
abbrev pub FewParams : ℕ → Limited FuncType
FewParams most t = length t.params ≤ most

pub all_free : {A : Type 0} (xs : List A) → AllByRecursion (Free {A = A}) xs
all_free [] = tt
all_free (x ∷ xs) = (tt, all_free xs)

func_rest : (most : ℕ) → Splits (Few most Free) (λ (params : List ValType × List ℕ). Then (SpellsList SpellsValueType) (λ results. Done (record { params = params.0; results = results }))) (λ params. Free) (FewParams most)
unfolding Then Done
func_rest most = record {
  split = λ params at text t q u. ((subst (FewParams most) q.5.1 u, all_free params.0), tt);
  join = λ params at text t q w v. subst (FewParams most) (sym q.5.1) w.0;
}

pub none_limited : {A B : Type 0} {Q : A → Spelling B} (U : Limited B) → Splits Free Q (λ x. U) U
none_limited U = record { split = λ x at text y q u. (tt, u); join = λ x at text y q w v. v }

pub list_free : {A : Type 0} {r : Reader A} {P : Spelling A} → Exact r P Free → Exact (list_at r) (SpellsList P) Free
list_free {A} {r} {P} er = let l = exact_list er in record {
  takes = λ end bytes rest x le e. let t = l.takes end bytes rest x le e in record { text = t.text; parts = t.parts; spells = t.spells; within = tt };
  again = λ end text rest x le h w. l.again end text rest x le h (all_free x);
}

pub exact_func_type : (most : ℕ) → Exact (func_type_at most) SpellsFuncType (FewParams most)
unfolding func_type_at SpellsFuncType
exact_func_type most =
    exact_then (exact_tag 0x60) (λ tag.
    exact_then (exact_limited most Params exact_value_type) (λ params.
    exact_then (list_free exact_value_type) (λ results.
    exact_done (record { params = params.0; results = results })) free) (func_rest most)) (none_limited (FewParams most))

exact_greatest : (flag : Bool) → Exact (greatest_at flag) (SpellsGreatest flag) Free
unfolding SpellsGreatest
exact_greatest false = exact_done None
exact_greatest true = exact_then exact_number (λ n. exact_done (Some n)) free

pub exact_limits : Exact limits_at SpellsLimits Free
unfolding limits_at SpellsLimits
exact_limits =
    exact_then exact_flag (λ flag. exact_then exact_number (λ least. exact_then (exact_greatest flag) (λ greatest.
    exact_done (record { min = least; max = greatest })) free) free) free

pub exact_table_type : Exact table_type_at SpellsTableType Free
unfolding table_type_at SpellsTableType
exact_table_type = exact_then (exact_tag 0x70) (λ tag. exact_limits) free

pub exact_global_type : Exact global_type_at SpellsGlobalType Free
unfolding global_type_at SpellsGlobalType
exact_global_type = exact_then exact_value_type (λ t. exact_then exact_flag (λ flag. exact_done (record { value = t; mutable = flag })) free) free

-- ---- imports and exports

abbrev Import_of : ℕ → Spelling ImportKind
Import_of b at text k = (b ≡ import_tag k) × SpellsImported at text k

import_takes : (at b end : ℕ) (bytes rest : List ℕ) (k : ImportKind) → length bytes ≤ end → import_kind_of at b end bytes ≡ Ok (k, rest) → Taken (Import_of b) Free end bytes rest k
unfolding import_kind_of
import_takes at b end bytes rest k le e =
    let r0 = then_at number_at (λ x. done_at (import.Func x)) end bytes in
    let r1 = then_at table_type_at (λ x. done_at (import.Table x)) end bytes in
    let r2 = then_at limits_at (λ x. done_at (import.Memory x)) end bytes in
    let r3 = then_at global_type_at (λ x. done_at (import.Global x)) end bytes in
    let bad = err (Malformed at word.Byte) in
    elim (chosen (eqb b 0) r0 (cond (eqb b 1) r1 (cond (eqb b 2) r2 (cond (eqb b 3) r3 bad))) (ok (k, rest)) e) [
      | inl h ↦ let t = (exact_map import.Func exact_number).takes end bytes rest k le h.1 in
          record { text = t.text; parts = t.parts; spells = subst (λ k. Import_of b (place end bytes) t.text k) (sym t.spells.2) (eqb-true b 0 h.0, t.spells.1); within = tt }
      | inr f ↦ elim (chosen (eqb b 1) r1 (cond (eqb b 2) r2 (cond (eqb b 3) r3 bad)) (ok (k, rest)) f.1) [
        | inl h ↦ let t = (exact_map import.Table exact_table_type).takes end bytes rest k le h.1 in
            record { text = t.text; parts = t.parts; spells = subst (λ k. Import_of b (place end bytes) t.text k) (sym t.spells.2) (eqb-true b 1 h.0, t.spells.1); within = tt }
        | inr g ↦ elim (chosen (eqb b 2) r2 (cond (eqb b 3) r3 bad) (ok (k, rest)) g.1) [
          | inl h ↦ let t = (exact_map import.Memory exact_limits).takes end bytes rest k le h.1 in
              record { text = t.text; parts = t.parts; spells = subst (λ k. Import_of b (place end bytes) t.text k) (sym t.spells.2) (eqb-true b 2 h.0, t.spells.1); within = tt }
          | inr i ↦ elim (chosen (eqb b 3) r3 bad (ok (k, rest)) i.1) [
            | inl h ↦ let t = (exact_map import.Global exact_global_type).takes end bytes rest k le h.1 in
                record { text = t.text; parts = t.parts; spells = subst (λ k. Import_of b (place end bytes) t.text k) (sym t.spells.2) (eqb-true b 3 h.0, t.spells.1); within = tt }
            | inr j ↦ absurd (let q = j.1 in cc)
          ]
        ]
      ]
    ]

import_again : (at b end : ℕ) (text rest : List ℕ) (k : ImportKind) → length (text ++ rest) ≤ end → Import_of b (place end (text ++ rest)) text k → import_kind_of at b end (text ++ rest) ≡ Ok (k, rest)
unfolding import_kind_of
import_again at b end text rest (import.Func n) le h = rw h.0 ((exact_map import.Func exact_number).again end text rest (import.Func n) le (n, h.1, refl) tt)
import_again at b end text rest (import.Table n) le h = rw h.0 ((exact_map import.Table exact_table_type).again end text rest (import.Table n) le (n, h.1, refl) tt)
import_again at b end text rest (import.Memory n) le h = rw h.0 ((exact_map import.Memory exact_limits).again end text rest (import.Memory n) le (n, h.1, refl) tt)
import_again at b end text rest (import.Global n) le h = rw h.0 ((exact_map import.Global exact_global_type).again end text rest (import.Global n) le (n, h.1, refl) tt)

pub exact_import_kind : Exact import_kind_at SpellsImportKind Free
unfolding import_kind_at SpellsImportKind
exact_import_kind = exact_tagged (λ at b. record { takes = λ end bytes rest k le e. import_takes at b end bytes rest k le e; again = λ end text rest k le h w. import_again at b end text rest k le h })

pub exact_import : Exact import_at SpellsImport Free
unfolding import_at SpellsImport
exact_import =
    exact_then exact_name (λ first. exact_then exact_name (λ second. exact_then exact_import_kind (λ kind.
    exact_done (record { «module» = first; name = second; kind = kind })) free) free) free

abbrev Export_of : ℕ → Spelling ExportKind
Export_of b at text k = (b ≡ export_tag k) × SpellsNumber at text (export_index k)

export_takes : (at b end : ℕ) (bytes rest : List ℕ) (k : ExportKind) → length bytes ≤ end → export_kind_of at b end bytes ≡ Ok (k, rest) → Taken (Export_of b) Free end bytes rest k
unfolding export_kind_of
export_takes at b end bytes rest k le e =
    let r0 = then_at number_at (λ x. done_at (export.Func x)) end bytes in
    let r1 = then_at number_at (λ x. done_at (export.Table x)) end bytes in
    let r2 = then_at number_at (λ x. done_at (export.Memory x)) end bytes in
    let r3 = then_at number_at (λ x. done_at (export.Global x)) end bytes in
    let bad = err (Malformed at word.Byte) in
    elim (chosen (eqb b 0) r0 (cond (eqb b 1) r1 (cond (eqb b 2) r2 (cond (eqb b 3) r3 bad))) (ok (k, rest)) e) [
      | inl h ↦ let t = (exact_map export.Func exact_number).takes end bytes rest k le h.1 in
          record { text = t.text; parts = t.parts; spells = subst (λ k. Export_of b (place end bytes) t.text k) (sym t.spells.2) (eqb-true b 0 h.0, t.spells.1); within = tt }
      | inr f ↦ elim (chosen (eqb b 1) r1 (cond (eqb b 2) r2 (cond (eqb b 3) r3 bad)) (ok (k, rest)) f.1) [
        | inl h ↦ let t = (exact_map export.Table exact_number).takes end bytes rest k le h.1 in
            record { text = t.text; parts = t.parts; spells = subst (λ k. Export_of b (place end bytes) t.text k) (sym t.spells.2) (eqb-true b 1 h.0, t.spells.1); within = tt }
        | inr g ↦ elim (chosen (eqb b 2) r2 (cond (eqb b 3) r3 bad) (ok (k, rest)) g.1) [
          | inl h ↦ let t = (exact_map export.Memory exact_number).takes end bytes rest k le h.1 in
              record { text = t.text; parts = t.parts; spells = subst (λ k. Export_of b (place end bytes) t.text k) (sym t.spells.2) (eqb-true b 2 h.0, t.spells.1); within = tt }
          | inr i ↦ elim (chosen (eqb b 3) r3 bad (ok (k, rest)) i.1) [
            | inl h ↦ let t = (exact_map export.Global exact_number).takes end bytes rest k le h.1 in
                record { text = t.text; parts = t.parts; spells = subst (λ k. Export_of b (place end bytes) t.text k) (sym t.spells.2) (eqb-true b 3 h.0, t.spells.1); within = tt }
            | inr j ↦ absurd (let q = j.1 in cc)
          ]
        ]
      ]
    ]

export_again : (at b end : ℕ) (text rest : List ℕ) (k : ExportKind) → length (text ++ rest) ≤ end → Export_of b (place end (text ++ rest)) text k → export_kind_of at b end (text ++ rest) ≡ Ok (k, rest)
unfolding export_kind_of
export_again at b end text rest (export.Func n) le h = rw h.0 ((exact_map export.Func exact_number).again end text rest (export.Func n) le (n, h.1, refl) tt)
export_again at b end text rest (export.Table n) le h = rw h.0 ((exact_map export.Table exact_number).again end text rest (export.Table n) le (n, h.1, refl) tt)
export_again at b end text rest (export.Memory n) le h = rw h.0 ((exact_map export.Memory exact_number).again end text rest (export.Memory n) le (n, h.1, refl) tt)
export_again at b end text rest (export.Global n) le h = rw h.0 ((exact_map export.Global exact_number).again end text rest (export.Global n) le (n, h.1, refl) tt)

pub exact_export_kind : Exact export_kind_at SpellsExportKind Free
unfolding export_kind_at SpellsExportKind
exact_export_kind = exact_tagged (λ at b. record { takes = λ end bytes rest k le e. export_takes at b end bytes rest k le e; again = λ end text rest k le h w. export_again at b end text rest k le h })

pub exact_export : Exact export_at SpellsExport Free
unfolding export_at SpellsExport
exact_export = exact_then exact_name (λ name. exact_then exact_export_kind (λ kind. exact_done (record { name = name; kind = kind })) free) free

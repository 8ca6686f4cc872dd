-- The numbers of what bytes spell lie in the ranges of their types.
use Rattle.std.proofs.Common.{◌≡◌, ℕ, zero, suc, ◌+◌, ◌<◌, ◌^◌, Bool, true, false, List, [], ◌∷◌, ◌++◌, length, slice_get, get_or, Option, Some, None, IfSome, refl, sym, subst, add-one, arith}
use Rattle.std.specs.Int.{w32, w64}
use Rattle.std.specs.List.{All, AllByRecursion}
use Rattle.std.proofs.Math.Facts.{Fits-of_z}
use Rattle.std.proofs.lemmas.List.Elements.{All-from_recursion}
use Rattle.std.proofs.lemmas.Option.{slice_get-get_or}
use Rattle.wasm_values.specs.declared.number.ValType.{ValType}
use Rattle.wasm_values.specs.declared.number.Val.TheVariants as val
use Rattle.wasm_syntax.specs.declared.instr.Instr.{Instr}
use Rattle.wasm_syntax.specs.declared.instr.Instr.TheVariants as instr
use Rattle.wasm_syntax.specs.declared.flat.Flat.{Flat}
use Rattle.wasm_syntax.specs.declared.flat.Flat.TheVariants as flat
use Rattle.wasm_syntax.specs.declared.kind.Opcode.{Opcode}
use Rattle.wasm_syntax.specs.declared.kind.Opcode.TheVariants as op
use Rattle.wasm_syntax.specs.declared.module.Import.{Import}
use Rattle.wasm_syntax.specs.declared.module.ImportKind.TheVariants as import
use Rattle.wasm_syntax.specs.declared.module.Export.{Export}
use Rattle.wasm_syntax.specs.declared.module.ExportKind.{ExportKind}
use Rattle.wasm_syntax.specs.declared.module.ExportKind.TheVariants as export
use Rattle.wasm_syntax.specs.declared.module.Global.{Global}
use Rattle.wasm_syntax.specs.declared.module.Elem.{Elem}
use Rattle.wasm_syntax.specs.declared.module.Segment.{Segment}
use Rattle.wasm_syntax.specs.FlatForm.{flat_body}
use Rattle.wasm_syntax.specs.Trees.{instruction_of, sequence_of}
use Rattle.wasm_typing.specs.Valid.{IsWord, InstructionInRange, SequenceInRange, LimitsInRange, BytesInRange, ImportInRange, ExportInRange}
use Rattle.wasm_typing.specs.faults.Open.{parts_before}
use Rattle.body_check.specs.words.Walks.{ItemInRange}
use Rattle.body_check.proofs.BodyLemmas.{some_items}
use Rattle.wasm_validate.proofs.RangeLemmas.{AreInRange, in_range_first, in_range_next, in_range_whole}
use Rattle.binary_grammar.specs.declared.section.Body.{Body}
use Rattle.binary_grammar.specs.Grammar.{Spelling, Then, Done, TheByte, Tagged, SpellsNumber, Each, Many, SpellsVector, SpellsList, Bytes, SpellsBytes, Utf8, SpellsName, SpellsFlag, SpellsGreatest, SpellsLimits, SpellsTableType, SpellsGlobalType, SpellsImported, SpellsImportKind, SpellsImport, export_index, SpellsExportKind, SpellsExport}
use Rattle.binary_grammar.specs.CodeGrammar.{SpellsWord32, SpellsWord64, InstrOf, ItemOf, SpellsItem, SpellsExpression, SpellsInstrs, SpellsLocals, OfLength, Sized, SpellsBodyContents, SpellsBody}
use Rattle.binary_grammar.specs.ModuleGrammar.{SpellsGlobal, SpellsElem, SpellsSegment}

-- numbers of a text are bytes
abbrev pub AreBytes : List ℕ → Type 0
AreBytes = AllByRecursion (λ b. b < 256)

pub as_bytes : (text : List ℕ) → AreBytes text → BytesInRange text
as_bytes text h = All-from_recursion (λ b. b < 256) text h

split : (xs ys : List ℕ) → AreBytes (xs ++ ys) → AreBytes xs × AreBytes ys
split [] ys h = (tt, h)
split (x ∷ xs) ys h = let r = split xs ys h.1 in ((h.0, r.0), r.1)

pub split_at : (text xs ys : List ℕ) → text ≡ xs ++ ys → AreBytes text → AreBytes xs × AreBytes ys
split_at text xs ys e h = split xs ys (subst AreBytes e h)

-- what bytes spell has Q
abbrev pub Gives : {A : Type 0} → Spelling A → (A → Type 0) → Type 0
Gives {A} P Q = (at : ℕ) (text : List ℕ) (x : A) → AreBytes text → P at text x → Q x

then_gives : {A B : Type 0} (P : Spelling A) (K : A → Spelling B) (Q : A → Type 0) (R : B → Type 0) → Gives P Q → ((x : A) → Q x → Gives (K x) R) → Gives (Then P K) R
unfolding Then
then_gives P K Q R first second at text y bytes h =
    let parts = split_at text h.1 h.2 h.3 bytes in
    second h.0 (first at h.1 h.0 parts.0 h.4) (at + length h.1) h.2 y parts.1 h.5

done_gives : {A : Type 0} (x : A) (Q : A → Type 0) → Q x → Gives (Done x) Q
unfolding Done
done_gives x Q q at text y bytes h = subst Q (sym h.1) q

anything : {A : Type 0} (P : Spelling A) → Gives P (λ x. Unit {0})
anything P at text x bytes h = tt

pub tagged_gives : {A : Type 0} (K : ℕ → Spelling A) (Q : A → Type 0) → ((b : ℕ) → Gives (K b) Q) → Gives (Tagged K) Q
unfolding Tagged
tagged_gives K Q gives at text x bytes h = gives h.0 (at + 1) h.1 x (subst AreBytes h.2 bytes).1 h.3

pub number_gives : Gives SpellsNumber IsWord
unfolding SpellsNumber
number_gives at text n bytes h = h.3

each_gives : {A : Type 0} (P : Spelling A) (Q : A → Type 0) → Gives P Q → (at : ℕ) (text : List ℕ) (xs : List A) (ps : List ℕ) → AreBytes text → Each P at text (xs, ps) → AllByRecursion Q xs
each_gives P Q gives at text [] ps bytes h = tt
each_gives P Q gives at text (x ∷ xs) [] bytes h = absurd h
each_gives P Q gives at text (x ∷ xs) (p ∷ ps) bytes h =
    let parts = split_at text h.1 h.2 h.3 bytes in
    (gives at h.1 x parts.0 h.4, each_gives P Q gives (at + length h.1) h.2 xs ps parts.1 h.5)

many_gives : {A : Type 0} (P : Spelling A) (Q : A → Type 0) (n : ℕ) → Gives P Q → Gives (Many P n) (λ x. AllByRecursion Q x.0)
unfolding Many
many_gives P Q n gives at text x bytes h = each_gives P Q gives at text x.0 x.1 bytes h.1

pub vector_gives : {A : Type 0} (P : Spelling A) (Q : A → Type 0) → Gives P Q → Gives (SpellsVector P) (λ x. AllByRecursion Q x.0)
unfolding SpellsVector
vector_gives P Q gives = then_gives SpellsNumber (Many P) IsWord (λ x. AllByRecursion Q x.0) number_gives (λ n w. many_gives P Q n gives)

list_gives : {A : Type 0} (P : Spelling A) (Q : A → Type 0) → Gives P Q → Gives (SpellsList P) (AllByRecursion Q)
unfolding SpellsList
list_gives P Q gives = then_gives (SpellsVector P) (λ x. Done x.0) (λ x. AllByRecursion Q x.0) (AllByRecursion Q) (vector_gives P Q gives) (λ x h. done_gives x.0 (AllByRecursion Q) h)

bytes_give : Gives SpellsBytes BytesInRange
unfolding SpellsBytes Bytes
bytes_give = then_gives SpellsNumber Bytes IsWord BytesInRange number_gives (λ n w at text bs bytes h. subst BytesInRange (sym h.1) (as_bytes text bytes))

pub name_gives : Gives SpellsName BytesInRange
unfolding SpellsName Utf8
name_gives = then_gives SpellsNumber Utf8 IsWord BytesInRange number_gives (λ n w at text bs bytes h. subst BytesInRange (sym h.2) (as_bytes text bytes))

-- ---- types

greatest_gives : (flag : Bool) → Gives (SpellsGreatest flag) (λ o. IfSome o IsWord)
unfolding SpellsGreatest
greatest_gives false = done_gives None (λ o. IfSome o IsWord) tt
greatest_gives true = then_gives SpellsNumber (λ n. Done (Some n)) IsWord (λ o. IfSome o IsWord) number_gives (λ n w. done_gives (Some n) (λ o. IfSome o IsWord) w)

pub limits_give : Gives SpellsLimits LimitsInRange
unfolding SpellsLimits
limits_give =
    then_gives SpellsFlag _ (λ flag. Unit {0}) LimitsInRange (anything SpellsFlag) (λ flag f.
    then_gives SpellsNumber _ IsWord LimitsInRange number_gives (λ least l.
    then_gives (SpellsGreatest flag) _ (λ o. IfSome o IsWord) LimitsInRange (greatest_gives flag) (λ greatest g.
    done_gives (record { min = least; max = greatest }) LimitsInRange (l, g))))

pub table_gives : Gives SpellsTableType LimitsInRange
unfolding SpellsTableType
table_gives = then_gives (TheByte 0x70) (λ tag. SpellsLimits) (λ tag. Unit {0}) LimitsInRange (anything (TheByte 0x70)) (λ tag t. limits_give)

imported_gives : Gives SpellsImported ImportInRange
imported_gives at text (import.Func n) bytes h = number_gives at text n bytes h
imported_gives at text (import.Table l) bytes h = table_gives at text l bytes h
imported_gives at text (import.Memory l) bytes h = limits_give at text l bytes h
imported_gives at text (import.Global g) bytes h = tt

abbrev pub ImportIn : Import → Type 0
ImportIn i = BytesInRange i.module × BytesInRange i.name × ImportInRange i.kind

pub import_gives : Gives SpellsImport ImportIn
unfolding SpellsImport SpellsImportKind
import_gives =
    then_gives SpellsName _ BytesInRange ImportIn name_gives (λ first f.
    then_gives SpellsName _ BytesInRange ImportIn name_gives (λ second s.
    then_gives SpellsImportKind _ ImportInRange ImportIn (tagged_gives _ ImportInRange (λ b at text k bytes h. imported_gives at text k bytes h.1)) (λ kind k.
    done_gives (record { «module» = first; name = second; kind = kind }) ImportIn (f, s, k))))

exported : (k : ExportKind) → IsWord (export_index k) → ExportInRange k
exported (export.Func n) h = h
exported (export.Table n) h = h
exported (export.Memory n) h = h
exported (export.Global n) h = h

abbrev pub ExportIn : Export → Type 0
ExportIn e = BytesInRange e.name × ExportInRange e.kind

pub export_gives : Gives SpellsExport ExportIn
unfolding SpellsExport SpellsExportKind
export_gives =
    then_gives SpellsName _ BytesInRange ExportIn name_gives (λ name n.
    then_gives SpellsExportKind _ ExportInRange ExportIn (tagged_gives _ ExportInRange (λ b at text k bytes h. exported k (number_gives at text (export_index k) bytes h.1))) (λ kind k.
    done_gives (record { name = name; kind = kind }) ExportIn (n, k)))

-- ---- instructions

abbrev InstrIn : Instr → Type 0
InstrIn i = InstructionInRange (instruction_of i)

word32_gives : Gives SpellsWord32 (λ n. n < 2 ^ 32)
unfolding SpellsWord32
word32_gives at text n bytes h = let M : ℕ → Type 0 = λ k. k < 2 ^ 32 in subst M (sym h.2) (Fits-of_z {w = w32} h.1.3).fits

word64_gives : Gives SpellsWord64 (λ n. n < 2 ^ 64)
unfolding SpellsWord64
word64_gives at text n bytes h = let M : ℕ → Type 0 = λ k. k < 2 ^ 64 in subst M (sym h.2) (Fits-of_z {w = w64} h.1.3).fits

with_index : (f : ℕ → Instr) → ((n : ℕ) → IsWord n → InstrIn (f n)) → Gives (Then SpellsNumber (λ n. Done (f n))) InstrIn
with_index f q = then_gives SpellsNumber (λ n. Done (f n)) IsWord InstrIn number_gives (λ n w. done_gives (f n) InstrIn (q n w))

with_two : (f : ℕ → ℕ → Instr) → ((a b : ℕ) → IsWord a → IsWord b → InstrIn (f a b)) → Gives (Then SpellsNumber (λ a. Then SpellsNumber (λ b. Done (f a b)))) InstrIn
with_two f q = then_gives SpellsNumber _ IsWord InstrIn number_gives (λ a v. then_gives SpellsNumber (λ b. Done (f a b)) IsWord InstrIn number_gives (λ b w. done_gives (f a b) InstrIn (q a b v w)))

with_zero : (i : Instr) → InstrIn i → Gives (Then (TheByte 0) (λ z. Done i)) InstrIn
with_zero i q = then_gives (TheByte 0) (λ z. Done i) (λ z. Unit {0}) InstrIn (anything (TheByte 0)) (λ z t. done_gives i InstrIn q)

instr_gives : (o : Opcode) → Gives (InstrOf o) InstrIn
unfolding InstrOf
instr_gives op.Unreachable = done_gives _ InstrIn tt
instr_gives op.Nop = done_gives _ InstrIn tt
instr_gives op.Return = done_gives _ InstrIn tt
instr_gives op.Drop = done_gives _ InstrIn tt
instr_gives op.Select = done_gives _ InstrIn tt
instr_gives (op.Num n) = done_gives _ InstrIn tt
instr_gives op.MemorySize = with_zero _ tt
instr_gives op.MemoryGrow = with_zero _ tt
instr_gives op.I32Const = then_gives SpellsWord32 (λ n. Done (instr.Const (val.I32 n))) (λ n. n < 2 ^ 32) InstrIn word32_gives (λ n w. done_gives (instr.Const (val.I32 n)) InstrIn w)
instr_gives op.I64Const = then_gives SpellsWord64 (λ n. Done (instr.Const (val.I64 n))) (λ n. n < 2 ^ 64) InstrIn word64_gives (λ n w. done_gives (instr.Const (val.I64 n)) InstrIn w)
instr_gives op.Br = with_index instr.Br (λ n w. w)
instr_gives op.BrIf = with_index instr.BrIf (λ n w. w)
instr_gives op.BrTable =
    then_gives (SpellsList SpellsNumber) _ (AllByRecursion IsWord) InstrIn (list_gives SpellsNumber IsWord number_gives) (λ labels ls.
    then_gives SpellsNumber _ IsWord InstrIn number_gives (λ last l. done_gives (instr.BrTable labels last) InstrIn (All-from_recursion IsWord labels ls, l)))
instr_gives op.Call = with_index instr.Call (λ n w. w)
instr_gives op.CallIndirect =
    then_gives SpellsNumber _ IsWord InstrIn number_gives (λ n w. with_zero (instr.CallIndirect n) w)
instr_gives op.LocalGet = with_index instr.LocalGet (λ n w. w)
instr_gives op.LocalSet = with_index instr.LocalSet (λ n w. w)
instr_gives op.LocalTee = with_index instr.LocalTee (λ n w. w)
instr_gives op.GlobalGet = with_index instr.GlobalGet (λ n w. w)
instr_gives op.GlobalSet = with_index instr.GlobalSet (λ n w. w)
instr_gives (op.Load l) = with_two (instr.Load l) (λ a b v w. (v, w))
instr_gives (op.Store s) = with_two (instr.Store s) (λ a b v w. (v, w))
instr_gives op.Block = λ at text x bytes h. absurd h
instr_gives op.Loop = λ at text x bytes h. absurd h
instr_gives op.If = λ at text x bytes h. absurd h
instr_gives op.Else = λ at text x bytes h. absurd h
instr_gives op.End = λ at text x bytes h. absurd h

one_gives : (o : Opcode) → Gives (Then (InstrOf o) (λ i. Done (flat.One i))) ItemInRange
one_gives o = then_gives (InstrOf o) (λ i. Done (flat.One i)) InstrIn ItemInRange (instr_gives o) (λ i q. done_gives (flat.One i) ItemInRange q)

block_gives : (P : Spelling (Option ValType)) (f : Option ValType → Flat) → ((t : Option ValType) → ItemInRange (f t)) → Gives (Then P (λ t. Done (f t))) ItemInRange
block_gives P f q = then_gives P (λ t. Done (f t)) (λ t. Unit {0}) ItemInRange (anything P) (λ t u. done_gives (f t) ItemInRange (q t))

item_of_gives : (o : Opcode) → Gives (ItemOf o) ItemInRange
unfolding ItemOf
item_of_gives op.Block = block_gives _ flat.Block (λ t. tt)
item_of_gives op.Loop = block_gives _ flat.Loop (λ t. tt)
item_of_gives op.If = block_gives _ flat.If (λ t. tt)
item_of_gives op.Else = done_gives flat.Else ItemInRange tt
item_of_gives op.End = done_gives flat.End ItemInRange tt
item_of_gives op.Unreachable = one_gives op.Unreachable
item_of_gives op.Nop = one_gives op.Nop
item_of_gives op.Br = one_gives op.Br
item_of_gives op.BrIf = one_gives op.BrIf
item_of_gives op.BrTable = one_gives op.BrTable
item_of_gives op.Return = one_gives op.Return
item_of_gives op.Call = one_gives op.Call
item_of_gives op.CallIndirect = one_gives op.CallIndirect
item_of_gives op.Drop = one_gives op.Drop
item_of_gives op.Select = one_gives op.Select
item_of_gives op.LocalGet = one_gives op.LocalGet
item_of_gives op.LocalSet = one_gives op.LocalSet
item_of_gives op.LocalTee = one_gives op.LocalTee
item_of_gives op.GlobalGet = one_gives op.GlobalGet
item_of_gives op.GlobalSet = one_gives op.GlobalSet
item_of_gives (op.Load l) = one_gives (op.Load l)
item_of_gives (op.Store s) = one_gives (op.Store s)
item_of_gives op.MemorySize = one_gives op.MemorySize
item_of_gives op.MemoryGrow = one_gives op.MemoryGrow
item_of_gives op.I32Const = one_gives op.I32Const
item_of_gives op.I64Const = one_gives op.I64Const
item_of_gives (op.Num n) = one_gives (op.Num n)

item_gives : Gives SpellsItem ItemInRange
unfolding SpellsItem
item_gives = tagged_gives _ ItemInRange (λ b at text x bytes h. item_of_gives h.0 at text x bytes h.2)

-- ---- expressions

entry : {A : Type 0} (Q : A → Type 0) (xs : List A) → AllByRecursion Q xs → (n : ℕ) (x : A) → slice_get xs n ≡ Some x → Q x
entry Q [] h n x e = absurd cc
entry Q (y ∷ ys) h zero x e = let same : y ≡ x = cc in subst Q same h.0
entry Q (y ∷ ys) h (suc n) x e = entry Q ys h.1 n x e

parts_in : (body : List Instr) → AllByRecursion ItemInRange (flat_body body) → (n : ℕ) → n < length (flat_body body) → AreInRange (parts_before body n)
parts_in body h zero less = in_range_first body
parts_in body h (suc n) less =
    let there = slice_get-get_or (flat_body body) n flat.End (omega (arith, less)) in
    let R : ℕ → Type 0 = λ k. AreInRange (parts_before body k) in
    subst R (add-one n) (in_range_next body n (get_or (flat_body body) n flat.End) there (entry ItemInRange (flat_body body) h n (get_or (flat_body body) n flat.End) there) (parts_in body h n (omega (arith, less))))

body_in : (body : List Instr) → AllByRecursion ItemInRange (flat_body body) → SequenceInRange (sequence_of body)
body_in body h = by_last (length (flat_body body)) refl (some_items body)
  where
    by_last : (n : ℕ) → n ≡ length (flat_body body) → 0 < n → SequenceInRange (sequence_of body)
    by_last zero e some = absurd (omega (arith, some))
    by_last (suc n) e some = in_range_whole body n (omega (arith, e)) (parts_in body h n (omega (arith, e)))

abbrev pub InstrsIn : List Instr → Type 0
InstrsIn is = SequenceInRange (sequence_of is)

expression_gives : Gives SpellsExpression (λ x. InstrsIn x.0)
unfolding SpellsExpression
expression_gives at text x bytes h = body_in x.0 (each_gives SpellsItem ItemInRange item_gives at text (flat_body x.0) x.1 bytes h)

instrs_give : Gives SpellsInstrs InstrsIn
unfolding SpellsInstrs
instrs_give = then_gives SpellsExpression (λ x. Done x.0) (λ x. InstrsIn x.0) InstrsIn expression_gives (λ x q. done_gives x.0 InstrsIn q)

-- ---- globals, segments and bodies

abbrev pub GlobalIn : Global → Type 0
GlobalIn g = InstrsIn g.init

pub global_gives : Gives SpellsGlobal GlobalIn
unfolding SpellsGlobal
global_gives =
    then_gives SpellsGlobalType _ (λ t. Unit {0}) GlobalIn (anything SpellsGlobalType) (λ t u.
    then_gives SpellsInstrs _ InstrsIn GlobalIn instrs_give (λ init q. done_gives (record { ty = t; init = init }) GlobalIn q))

abbrev pub ElemIn : Elem → Type 0
ElemIn e = IsWord e.table × InstrsIn e.offset × All IsWord e.funcs

pub elem_gives : Gives SpellsElem ElemIn
unfolding SpellsElem
elem_gives =
    then_gives SpellsNumber _ IsWord ElemIn number_gives (λ table t.
    then_gives SpellsInstrs _ InstrsIn ElemIn instrs_give (λ offset o.
    then_gives (SpellsList SpellsNumber) _ (AllByRecursion IsWord) ElemIn (list_gives SpellsNumber IsWord number_gives) (λ funcs fs.
    done_gives (record { table = table; offset = offset; funcs = funcs }) ElemIn (t, o, All-from_recursion IsWord funcs fs))))

abbrev pub SegmentIn : Segment → Type 0
SegmentIn s = IsWord s.memory × InstrsIn s.offset × BytesInRange s.bytes

pub segment_gives : Gives SpellsSegment SegmentIn
unfolding SpellsSegment
segment_gives =
    then_gives SpellsNumber _ IsWord SegmentIn number_gives (λ memory m.
    then_gives SpellsInstrs _ InstrsIn SegmentIn instrs_give (λ offset o.
    then_gives SpellsBytes _ BytesInRange SegmentIn bytes_give (λ contents c.
    done_gives (record { memory = memory; offset = offset; bytes = contents }) SegmentIn (m, o, c))))

abbrev pub BodyIn : Body → Type 0
BodyIn b = InstrsIn b.code

pub sized_gives : {A : Type 0} (P : Spelling A) (Q : A → Type 0) → Gives P Q → Gives (Sized P) Q
unfolding Sized OfLength
sized_gives P Q gives = then_gives SpellsNumber (λ n. OfLength n P) IsWord Q number_gives (λ n w at text x bytes h. gives at text x bytes h.1)

contents_give : Gives SpellsBodyContents BodyIn
unfolding SpellsBodyContents
contents_give =
    then_gives SpellsLocals _ (λ ls. Unit {0}) BodyIn (anything SpellsLocals) (λ ls u.
    then_gives SpellsExpression _ (λ x. InstrsIn x.0) BodyIn expression_gives (λ code q. done_gives (record { locals = ls; code = code.0; places = code.1 }) BodyIn q))

pub body_gives : Gives SpellsBody BodyIn
unfolding SpellsBody
body_gives = sized_gives SpellsBodyContents BodyIn contents_give

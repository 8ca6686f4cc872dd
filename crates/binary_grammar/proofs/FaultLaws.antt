-- An item that is not accepted has a word or a limit, and never want of memory.
use Rattle.std.proofs.Common.{◌≡◌, ℕ, ltb, eqb, leb, not, ◌&&◌, ◌||◌, Bool, true, false, cond, ◌+◌, List, [], ◌∷◌, length, Result, Ok, Err, ◌⊎◌, inl, inr, refl, sym, subst, ◌∙◌}
use Rattle.std.specs.Str.{is_utf8}
use Rattle.wasm_syntax.specs.declared.kind.Opcode.{Opcode}
use Rattle.wasm_syntax.specs.declared.kind.Opcode.TheVariants as op
use Rattle.wasm_syntax.specs.declared.kind.Kind.{Kind}
use Rattle.wasm_syntax.specs.declared.kind.Kind.TheVariants as kind
use Rattle.wasm_syntax.specs.Opcodes.{kind_of}
use Rattle.binary_grammar.specs.declared.fault.LebFault.{LebFault}
use Rattle.binary_grammar.specs.declared.fault.LebFault.TheVariants as leb
use Rattle.binary_grammar.specs.declared.fault.DecodeFault.{DecodeFault}
use Rattle.binary_grammar.specs.declared.fault.DecodeFault.TheVariants.{Malformed, Limit, OutOfMemory}
use Rattle.binary_grammar.specs.declared.section.Decoded.{Decoded}
use Rattle.binary_grammar.specs.Bounds.{Bounds}
use Rattle.binary_grammar.specs.words.NumberReading.{u32_at, s32_at, s64_at}
use Rattle.binary_grammar.specs.words.Reading.{◌>>=◌, Reader, place, of_number, number_at, byte_at, of_byte, run_at, text_of, text_at, region_at, ended}
use Rattle.binary_grammar.specs.words.TypeReading.{value_type_of, value_type_at, tag_of, tag_at, flag_of, flag_at, block_type_of, block_type_at}
use Rattle.binary_grammar.specs.words.CodeReading.{word32_at, word64_at}
use Rattle.binary_grammar.specs.words.SectionReading.{id_at, header, magic_at, header_at, module_at}
use Rattle.binary_grammar.specs.Readings.{Wanted, Header, Next, FileEnd, Size, RegionEnd, Number, Few, Count, RunCount, Word32, Word64, Utf8, Bytes, Rest, ValueType, BlockType, Tag, Flag, KindByte, Op, Here, Left, local, few_at, count_at, run_count_at, kind_byte_of, opening, turning, opcode_of, kind_accepted, next_of, accept}
use Rattle.binary_grammar.specs.Plans.{ReadsModule, Fault}
use Rattle.binary_grammar.proofs.PlanWhole.{reads_module, stops_module}

-- a value, or a fault that bytes have
abbrev OfBytes : {A : Type 0} → Result A DecodeFault → Type 0
OfBytes (Ok x) = Unit {0}
OfBytes (Err (Malformed at w)) = Unit {0}
OfBytes (Err (Limit at w)) = Unit {0}
OfBytes (Err OutOfMemory) = ⊥

sequence : {A B : Type 0} (r : Result A DecodeFault) (f : A → Result B DecodeFault) → OfBytes r → ((x : A) → OfBytes (f x)) → OfBytes (r >>= f)
sequence (Ok x) f a b = b x
sequence (Err (Malformed at w)) f a b = tt
sequence (Err (Limit at w)) f a b = tt
sequence (Err OutOfMemory) f a b = absurd a

choice : {A : Type 0} (b : Bool) (x y : Result A DecodeFault) → OfBytes x → OfBytes y → OfBytes (cond b x y)
choice true x y a b = a
choice false x y a b = b

number : {A : Type 0} (end at : ℕ) (r : Result (A × List ℕ) LebFault) → OfBytes (of_number end at r)
number end at (Ok x) = tt
number end at (Err leb.End) = tt
number end at (Err leb.Number) = tt

number_of : (end : ℕ) (bytes : List ℕ) → OfBytes (number_at end bytes)
unfolding number_at
number_of end bytes = number end (place end bytes) (u32_at bytes)

byte_of : (end : ℕ) (bytes : List ℕ) → OfBytes (byte_at end bytes)
unfolding byte_at
byte_of end [] = tt
byte_of end (b ∷ bs) = tt

one_of : {A : Type 0} (f : ℕ → ℕ → Result A DecodeFault) → ((at b : ℕ) → OfBytes (f at b)) → (end : ℕ) (bytes : List ℕ) → OfBytes (of_byte f end bytes)
unfolding of_byte
one_of f go end bytes =
    sequence (byte_at end bytes) (λ b. f (place end bytes) b.0 >>= λ t. Ok (t, b.1)) (byte_of end bytes)
    (λ b. sequence (f (place end bytes) b.0) (λ t. Ok (t, b.1)) (go (place end bytes) b.0) (λ t. tt))

run_of : (n end : ℕ) (bytes : List ℕ) → OfBytes (run_at n end bytes)
unfolding run_at
run_of n end bytes = choice (ltb (length bytes) n) _ _ tt tt

text_is : (bytes : List ℕ) (at : ℕ) → OfBytes (text_of bytes at)
text_is bytes at = choice (is_utf8 bytes) _ _ tt tt

text : (n end : ℕ) (bytes : List ℕ) → OfBytes (text_at n end bytes)
unfolding text_at
text n end bytes =
    sequence (run_at n end bytes) (λ t. text_of t.0 (place end bytes) >>= λ name. Ok (name, t.1)) (run_of n end bytes)
    (λ t. sequence (text_of t.0 (place end bytes)) (λ name. Ok (name, t.1)) (text_is t.0 (place end bytes)) (λ name. tt))

region : (end : ℕ) (bytes : List ℕ) → OfBytes (region_at end bytes)
unfolding region_at
region end bytes = sequence (number_at end bytes) _ (number_of end bytes) (λ n. choice (ltb (length n.1) n.0) _ _ tt tt)

magic : (hs : List ℕ) (end : ℕ) (bytes : List ℕ) → OfBytes (magic_at hs end bytes)
unfolding magic_at
magic [] end bytes = tt
magic (h ∷ hs) end [] = tt
magic (h ∷ hs) end (b ∷ bs) = choice (eqb b h) _ _ (magic hs end bs) tt

head : (end : ℕ) (bytes : List ℕ) → OfBytes (header_at end bytes)
unfolding header_at
head end bytes = choice (ltb (length bytes) 8) _ _ tt (magic header end bytes)

id : (last end : ℕ) (bytes : List ℕ) → OfBytes (id_at last end bytes)
unfolding id_at
id last end bytes =
    sequence (byte_at end bytes) _ (byte_of end bytes)
    (λ b. choice (ltb 11 b.0) _ _ tt (choice (not (eqb b.0 0) && leb b.0 last) _ _ tt tt))

next : (last end : ℕ) (bytes : List ℕ) → OfBytes (next_of last end bytes)
next last end [] = tt
next last end (b ∷ bs) = sequence (id_at last end (b ∷ bs)) _ (id last end (b ∷ bs)) (λ x. tt)

value_type : (at b : ℕ) → OfBytes (value_type_of at b)
value_type at b = choice (eqb b 0x7f) _ _ tt (choice (eqb b 0x7e) _ _ tt (choice (eqb b 0x7d || eqb b 0x7c) _ _ tt tt))

block_type : (at b : ℕ) → OfBytes (block_type_of at b)
block_type at b = choice (eqb b 0x40) _ _ tt (sequence (value_type_of at b) _ (value_type at b) (λ t. tt))

flag : (at b : ℕ) → OfBytes (flag_of at b)
flag at b = choice (eqb b 0) _ _ tt (choice (eqb b 1) _ _ tt tt)

opened : (full : Bool) (at : ℕ) (o : Opcode) → OfBytes (opening full at o)
opened true at o = tt
opened false at o = tt

turned : (turn : Bool) (at : ℕ) → OfBytes (turning turn at)
turned true at = tt
turned false at = tt

opcode : (turn full : Bool) (at : ℕ) (o : Opcode) → OfBytes (opcode_of turn full at o)
unfolding opcode_of
opcode turn full at op.Block = opened full at op.Block
opcode turn full at op.Loop = opened full at op.Loop
opcode turn full at op.If = opened full at op.If
opcode turn full at op.Else = turned turn at
opcode turn full at op.End = tt
opcode turn full at op.Unreachable = tt
opcode turn full at op.Nop = tt
opcode turn full at op.Br = tt
opcode turn full at op.BrIf = tt
opcode turn full at op.BrTable = tt
opcode turn full at op.Return = tt
opcode turn full at op.Call = tt
opcode turn full at op.CallIndirect = tt
opcode turn full at op.Drop = tt
opcode turn full at op.Select = tt
opcode turn full at op.LocalGet = tt
opcode turn full at op.LocalSet = tt
opcode turn full at op.LocalTee = tt
opcode turn full at op.GlobalGet = tt
opcode turn full at op.GlobalSet = tt
opcode turn full at (op.Load o) = tt
opcode turn full at (op.Store o) = tt
opcode turn full at op.MemorySize = tt
opcode turn full at op.MemoryGrow = tt
opcode turn full at op.I32Const = tt
opcode turn full at op.I64Const = tt
opcode turn full at (op.Num o) = tt

kind_is : (turn full : Bool) (at : ℕ) (k : Kind) → OfBytes (kind_accepted turn full at k)
unfolding kind_accepted
kind_is turn full at (kind.Op o) = opcode turn full at o
kind_is turn full at kind.Float = tt
kind_is turn full at kind.Unused = tt

in_region : {A : Type 0} (r : Reader A) (left : Left) → OfBytes (r left.end left.bytes) → OfBytes (local r left)
in_region r left h = sequence (r left.end left.bytes) _ h (λ x. tt)

-- what an item gives
accepts : (k : Wanted) (left : Left) → OfBytes (accept k left)
unfolding accept few_at count_at run_count_at word32_at word64_at value_type_at tag_at flag_at block_type_at
accepts Header left = sequence (header_at left.end left.bytes) _ (head left.end left.bytes) (λ rest. tt)
accepts (Next last) left = in_region (next_of last) left (next last left.end left.bytes)
accepts (FileEnd declared bodies) left = choice (eqb bodies declared) _ _ tt tt
accepts Size left = sequence (region_at left.end left.bytes) _ (region left.end left.bytes) (λ r. tt)
accepts RegionEnd left = sequence (ended left left.end left.bytes) _ (choice (eqb (length left.bytes) 0) _ _ tt tt) (λ w. tt)
accepts Number left = in_region number_at left (number_of left.end left.bytes)
accepts (Few most w) left = in_region (few_at most w) left (sequence (number_at left.end left.bytes) _ (number_of left.end left.bytes) (λ n. choice (ltb most n.0) _ _ tt tt))
accepts (Count declared) left = in_region (count_at declared) left (sequence (number_at left.end left.bytes) _ (number_of left.end left.bytes) (λ n. choice (eqb n.0 declared) _ _ tt tt))
accepts (RunCount most sum) left = in_region (run_count_at most sum) left (sequence (number_at left.end left.bytes) _ (number_of left.end left.bytes) (λ n. choice (ltb most (sum + n.0)) _ _ tt tt))
accepts Word32 left = in_region word32_at left (sequence (of_number left.end (place left.end left.bytes) (s32_at left.bytes)) _ (number left.end (place left.end left.bytes) (s32_at left.bytes)) (λ x. tt))
accepts Word64 left = in_region word64_at left (sequence (of_number left.end (place left.end left.bytes) (s64_at left.bytes)) _ (number left.end (place left.end left.bytes) (s64_at left.bytes)) (λ x. tt))
accepts (Utf8 n) left = in_region (text_at n) left (text n left.end left.bytes)
accepts (Bytes n) left = in_region (run_at n) left (run_of n left.end left.bytes)
accepts Rest left = tt
accepts ValueType left = in_region value_type_at left (one_of value_type_of value_type left.end left.bytes)
accepts BlockType left = in_region block_type_at left (one_of block_type_of block_type left.end left.bytes)
accepts (Tag b) left = in_region (tag_at b) left (one_of (tag_of b) (λ at c. choice (eqb c b) _ _ tt tt) left.end left.bytes)
accepts Flag left = in_region flag_at left (one_of flag_of flag left.end left.bytes)
accepts KindByte left = in_region (of_byte kind_byte_of) left (one_of kind_byte_of (λ at b. choice (ltb b 4) _ _ tt tt) left.end left.bytes)
accepts (Op turn full) left = in_region (of_byte (λ at b. kind_accepted turn full at (kind_of b))) left (one_of (λ at b. kind_accepted turn full at (kind_of b)) (λ at b. kind_is turn full at (kind_of b)) left.end left.bytes)
accepts Here left = tt

-- a fault is a word or a limit
pub of_bytes : (most : Bounds) (bytes : List ℕ) → Fault most bytes OutOfMemory → ⊥
of_bytes most bytes h = subst OfBytes h.5 (accepts h.2 h.1)

err_is : {A : Type 0} (f g : DecodeFault) (r : Result A DecodeFault) → r ≡ Err f → r ≡ Err g → f ≡ g
err_is {A} f g r a b = let e : fault f ≡ fault g = sym a ∙ b in cc
  where
    fault : DecodeFault → Result A DecodeFault
    fault d = Err d

pub one_fault : (most : Bounds) (bytes : List ℕ) (f g : DecodeFault) → Fault most bytes f → Fault most bytes g → f ≡ g
one_fault most bytes f g a b = err_is f g (module_at most bytes) ((stops_module most bytes f).1 a) ((stops_module most bytes g).1 b)

apart : {A : Type 0} (x : A) (f : DecodeFault) (r : Result A DecodeFault) → r ≡ Ok x → r ≡ Err f → ⊥
apart {A} x f (Ok y) a b = absurd cc
apart {A} x f (Err g) a b = absurd cc

pub not_both : (most : Bounds) (bytes : List ℕ) (r : Decoded) (f : DecodeFault) → ReadsModule most bytes r → Fault most bytes f → ⊥
not_both most bytes r f a b = apart r f (module_at most bytes) ((reads_module most bytes r).1 a) ((stops_module most bytes f).1 b)

pub some_answer : (most : Bounds) (bytes : List ℕ) → ((r : Decoded) × ReadsModule most bytes r) ⊎ ((f : DecodeFault) × Fault most bytes f)
some_answer most bytes = by (module_at most bytes) refl
  where
    by : (v : Result Decoded DecodeFault) → module_at most bytes ≡ v → ((r : Decoded) × ReadsModule most bytes r) ⊎ ((f : DecodeFault) × Fault most bytes f)
    by (Ok r) e = inl (r, (reads_module most bytes r).0 e)
    by (Err f) e = inr (f, (stops_module most bytes f).0 e)

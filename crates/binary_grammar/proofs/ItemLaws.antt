-- Instructions are read exactly.
use Rattle.std.proofs.Common.{◌≡◌, ℕ, ◌≤◌, Bool, true, false, List, ◌++◌, length, Option, Ok, Err, refl, sym, ap, subst, ◌∙◌}
use Rattle.std.specs.Int.{w32, w64, cast_unsigned}
use Rattle.wasm_values.specs.declared.number.ValType.{ValType}
use Rattle.wasm_values.specs.declared.number.Val.TheVariants as val
use Rattle.wasm_syntax.specs.declared.instr.Instr.{Instr}
use Rattle.wasm_syntax.specs.declared.instr.Instr.TheVariants as instr
use Rattle.wasm_syntax.specs.declared.instr.Plain.TheVariants as plain
use Rattle.wasm_syntax.specs.declared.flat.Flat.{Flat}
use Rattle.wasm_syntax.specs.declared.flat.Flat.TheVariants as item
use Rattle.wasm_syntax.specs.declared.kind.Opcode.{Opcode}
use Rattle.wasm_syntax.specs.declared.kind.Opcode.TheVariants.{Unreachable, Nop, Block, Loop, If, Else, End, Br, BrIf, BrTable, Return, Call, CallIndirect, Drop, Select, LocalGet, LocalSet, LocalTee, GlobalGet, GlobalSet, Load, Store, MemorySize, MemoryGrow, I32Const, I64Const, Num}
use Rattle.wasm_syntax.specs.declared.kind.Kind.{Kind}
use Rattle.wasm_syntax.specs.declared.kind.Kind.TheVariants as kind
use Rattle.wasm_syntax.specs.Opcodes.{code_of, kind_of}
use Rattle.wasm_syntax.proofs.OpcodeLaws.{kind_of-code_of, code_of-kind_of}
use Rattle.binary_grammar.specs.declared.fault.DecodeFault.{DecodeFault}
use Rattle.binary_grammar.specs.declared.fault.DecodeFault.TheVariants.{Malformed}
use Rattle.binary_grammar.specs.declared.fault.DecodeWord.TheVariants.{Byte}
use Rattle.binary_grammar.specs.words.NumberReading.{s32_at, s64_at}
use Rattle.binary_grammar.specs.words.Reading.{Reader, place, then_at, done_at, of_number, number_at}
use Rattle.binary_grammar.specs.words.TypeReading.{tag_at}
use Rattle.binary_grammar.specs.words.CodeReading.{word32_at, word64_at, index_at, indexed_at, simple_at, head_at, op_at, kind_at, item_at}
use Rattle.binary_grammar.specs.Grammar.{Spelling, Then, Done, SpellsBlockType}
use Rattle.binary_grammar.specs.CodeGrammar.{SpellsWord32, SpellsWord64, WithIndex, WithTwo, WithZero, Never, InstrOf, ItemOf, SpellsItem}
use Rattle.binary_grammar.proofs.NumberLaws.{s32_takes, s32_again, s64_takes, s64_again}
use Rattle.binary_grammar.proofs.Exact.{Limited, Free, Taken, Exact, ok, ok_is, bind_ok, exact_then, exact_done, free, exact_number, number_ok, exact_tagged}
use Rattle.binary_grammar.proofs.TypeLaws.{exact_tag, exact_block_type, list_free}

-- ---- constants

pub exact_word32 : Exact word32_at SpellsWord32 Free
unfolding word32_at SpellsWord32
exact_word32 = record {
  takes = λ end bytes rest n le e.
      let p = bind_ok (of_number end (place end bytes) (s32_at bytes)) (λ x. Ok (cast_unsigned w32 x.0, x.1)) (n, rest) e in
      let t = s32_takes bytes p.0 (number_ok end (place end bytes) (s32_at bytes) p.0 p.1) in
      let q = ok_is (cast_unsigned w32 p.0.0, p.0.1) (n, rest) p.2 in
      record { text = t.text; parts = t.parts ∙ ap (λ (z : ℕ × List ℕ). t.text ++ z.1) q; spells = (p.0.0, t.spells, sym (ap (λ (z : ℕ × List ℕ). z.0) q)); within = tt };
  again = λ end text rest n le h w.
      rw (s32_again text rest h.0 h.1) (ap (λ k. ok (k, rest)) (sym h.2));
}

pub exact_word64 : Exact word64_at SpellsWord64 Free
unfolding word64_at SpellsWord64
exact_word64 = record {
  takes = λ end bytes rest n le e.
      let p = bind_ok (of_number end (place end bytes) (s64_at bytes)) (λ x. Ok (cast_unsigned w64 x.0, x.1)) (n, rest) e in
      let t = s64_takes bytes p.0 (number_ok end (place end bytes) (s64_at bytes) p.0 p.1) in
      let q = ok_is (cast_unsigned w64 p.0.0, p.0.1) (n, rest) p.2 in
      record { text = t.text; parts = t.parts ∙ ap (λ (z : ℕ × List ℕ). t.text ++ z.1) q; spells = (p.0.0, t.spells, sym (ap (λ (z : ℕ × List ℕ). z.0) q)); within = tt };
  again = λ end text rest n le h w.
      rw (s64_again text rest h.0 h.1) (ap (λ k. ok (k, rest)) (sym h.2));
}

-- ---- simple instructions

indexed : (f : ℕ → Instr) → Exact (then_at number_at (λ n. done_at (f n))) (WithIndex f) Free
indexed f = exact_then exact_number (λ n. exact_done (f n)) free

two : (f : ℕ → ℕ → Instr) → Exact (then_at number_at (λ a. then_at number_at (λ b. done_at (f a b)))) (WithTwo f) Free
two f = exact_then exact_number (λ a. exact_then exact_number (λ b. exact_done (f a b)) free) free

zeroed : (i : Instr) → Exact (then_at (tag_at 0) (λ z. done_at i)) (WithZero i) Free
zeroed i = exact_then (exact_tag 0) (λ z. exact_done i) free

never : {A : Type 0} (f : DecodeFault) (W : Limited A) → Exact (λ end bytes. Err f) Never W
never f W = record { takes = λ end bytes rest x le e. absurd cc; again = λ end text rest x le h w. absurd h }

pub exact_simple : (at : ℕ) (op : Opcode) → Exact (simple_at at op) (InstrOf op) Free
unfolding simple_at indexed_at index_at InstrOf
exact_simple at Unreachable = exact_done (instr.Plain plain.Unreachable)
exact_simple at Nop = exact_done (instr.Plain plain.Nop)
exact_simple at Return = exact_done (instr.Plain plain.Return)
exact_simple at Drop = exact_done (instr.Plain plain.Drop)
exact_simple at Select = exact_done (instr.Plain plain.Select)
exact_simple at (Num op) = exact_done (instr.Num op)
exact_simple at MemorySize = zeroed (instr.Plain plain.MemorySize)
exact_simple at MemoryGrow = zeroed (instr.Plain plain.MemoryGrow)
exact_simple at I32Const = exact_then exact_word32 (λ n. exact_done (instr.Const (val.I32 n))) free
exact_simple at I64Const = exact_then exact_word64 (λ n. exact_done (instr.Const (val.I64 n))) free
exact_simple at Br = indexed instr.Br
exact_simple at BrIf = indexed instr.BrIf
exact_simple at BrTable = exact_then (list_free exact_number) (λ labels. exact_then exact_number (λ last. exact_done (instr.BrTable labels last)) free) free
exact_simple at Call = indexed instr.Call
exact_simple at CallIndirect = exact_then exact_number (λ n. exact_then (exact_tag 0) (λ z. exact_done (instr.CallIndirect n)) free) free
exact_simple at LocalGet = indexed instr.LocalGet
exact_simple at LocalSet = indexed instr.LocalSet
exact_simple at LocalTee = indexed instr.LocalTee
exact_simple at GlobalGet = indexed instr.GlobalGet
exact_simple at GlobalSet = indexed instr.GlobalSet
exact_simple at (Load op) = two (instr.Load op)
exact_simple at (Store op) = two (instr.Store op)
exact_simple at Block = never (Malformed at Byte) Free
exact_simple at Loop = never (Malformed at Byte) Free
exact_simple at If = never (Malformed at Byte) Free
exact_simple at Else = never (Malformed at Byte) Free
exact_simple at End = never (Malformed at Byte) Free

-- ---- items

-- what an item needs of where it stands: `turn` says whether an `else` may come, `full` whether no block may
abbrev pub Stands : Bool → Bool → Limited Flat
Stands turn full (item.Block t) = full ≡ false
Stands turn full (item.Loop t) = full ≡ false
Stands turn full (item.If t) = full ≡ false
Stands turn full item.Else = turn ≡ true
Stands turn full _ = Unit {0}

within : {A : Type 0} {r : Reader A} {P : Spelling A} {W : Limited A} → Exact r P Free → ((at : ℕ) (text : List ℕ) (x : A) → P at text x → W x) → Exact r P W
within er there = record {
  takes = λ end bytes rest x le e. let t = er.takes end bytes rest x le e in record { text = t.text; parts = t.parts; spells = t.spells; within = there (place end bytes) t.text x t.spells };
  again = λ end text rest x le h w. er.again end text rest x le h tt;
}

exact_head : (full : Bool) (at : ℕ) → Exact (head_at full at) SpellsBlockType (λ t. full ≡ false)
unfolding head_at
exact_head true at = record { takes = λ end bytes rest x le e. absurd cc; again = λ end text rest x le h w. absurd cc }
exact_head false at = within exact_block_type (λ at text x h. refl)

headed : (turn full : Bool) (at : ℕ) (f : Option ValType → Flat) → ((t : Option ValType) → Stands turn full (f t) → full ≡ false) → ((t : Option ValType) → full ≡ false → Stands turn full (f t)) →
    Exact (then_at (head_at full at) (λ t. done_at (f t))) (Then SpellsBlockType (λ t. Done (f t))) (Stands turn full)
unfolding Done
headed turn full at f there back = exact_then (exact_head full at) (λ t. exact_done (f t)) (record {
  split = λ t at text y q u. (there t (subst (Stands turn full) q.1 u), tt);
  join = λ t at text y q w v. subst (Stands turn full) (sym q.1) (back t w);
})

single : (turn full : Bool) (at : ℕ) (op : Opcode) → Exact (then_at (simple_at at op) (λ i. done_at (item.One i))) (Then (InstrOf op) (λ i. Done (item.One i))) (Stands turn full)
unfolding Done
single turn full at op = exact_then (exact_simple at op) (λ i. exact_done (item.One i)) (record {
  split = λ i at text y q u. (tt, tt);
  join = λ i at text y q w v. subst (Stands turn full) (sym q.1) tt;
})

exact_else : (turn full : Bool) (at : ℕ) → Exact (op_at turn full at Else) (Done item.Else) (Stands turn full)
unfolding op_at Done done_at
exact_else true full at = within (exact_done item.Else) (λ at text x h. subst (Stands true full) (sym h.1) refl)
exact_else false full at = record {
  takes = λ end bytes rest x le e. absurd cc;
  again = λ end text rest x le h w. absurd (let k : false ≡ true = subst (Stands false full) h.1 w in cc);
}

exact_end : (turn full : Bool) → Exact (done_at item.End) (Done item.End) (Stands turn full)
unfolding Done
exact_end turn full = within (exact_done item.End) (λ at text x h. subst (Stands turn full) (sym h.1) tt)

exact_op : (turn full : Bool) (at : ℕ) (op : Opcode) → Exact (op_at turn full at op) (ItemOf op) (Stands turn full)
unfolding op_at ItemOf done_at
exact_op turn full at Block = headed turn full at item.Block (λ t h. h) (λ t h. h)
exact_op turn full at Loop = headed turn full at item.Loop (λ t h. h) (λ t h. h)
exact_op turn full at If = headed turn full at item.If (λ t h. h) (λ t h. h)
exact_op turn full at Else = exact_else turn full at
exact_op turn full at End = exact_end turn full
exact_op turn full at Unreachable = single turn full at Unreachable
exact_op turn full at Nop = single turn full at Nop
exact_op turn full at Return = single turn full at Return
exact_op turn full at Drop = single turn full at Drop
exact_op turn full at Select = single turn full at Select
exact_op turn full at (Num op) = single turn full at (Num op)
exact_op turn full at MemorySize = single turn full at MemorySize
exact_op turn full at MemoryGrow = single turn full at MemoryGrow
exact_op turn full at I32Const = single turn full at I32Const
exact_op turn full at I64Const = single turn full at I64Const
exact_op turn full at Br = single turn full at Br
exact_op turn full at BrIf = single turn full at BrIf
exact_op turn full at BrTable = single turn full at BrTable
exact_op turn full at Call = single turn full at Call
exact_op turn full at CallIndirect = single turn full at CallIndirect
exact_op turn full at LocalGet = single turn full at LocalGet
exact_op turn full at LocalSet = single turn full at LocalSet
exact_op turn full at LocalTee = single turn full at LocalTee
exact_op turn full at GlobalGet = single turn full at GlobalGet
exact_op turn full at GlobalSet = single turn full at GlobalSet
exact_op turn full at (Load op) = single turn full at (Load op)
exact_op turn full at (Store op) = single turn full at (Store op)

abbrev Kinded : ℕ → Spelling Flat
Kinded b at text i = (op : Opcode) × (b ≡ code_of op) × ItemOf op at text i

kind_takes : (turn full : Bool) (at b : ℕ) (k : Kind) → kind_of b ≡ k → (end : ℕ) (bytes rest : List ℕ) (i : Flat) → length bytes ≤ end → kind_at turn full at k end bytes ≡ Ok (i, rest) → Taken (Kinded b) (Stands turn full) end bytes rest i
unfolding kind_at
kind_takes turn full at b (kind.Op op) e end bytes rest i le h =
    let t = (exact_op turn full at op).takes end bytes rest i le h in
    record { text = t.text; parts = t.parts; spells = (op, sym (code_of-kind_of b op e), t.spells); within = t.within }
kind_takes turn full at b kind.Float e end bytes rest i le h = absurd cc
kind_takes turn full at b kind.Unused e end bytes rest i le h = absurd cc

kind_again : (turn full : Bool) (at b : ℕ) (op : Opcode) → b ≡ code_of op → (end : ℕ) (text rest : List ℕ) (i : Flat) → length (text ++ rest) ≤ end → ItemOf op (place end (text ++ rest)) text i → Stands turn full i →
    kind_at turn full at (kind_of b) end (text ++ rest) ≡ Ok (i, rest)
unfolding kind_at
kind_again turn full at b op e end text rest i le h w =
    let k : kind_of b ≡ kind.Op op = ap kind_of e ∙ kind_of-code_of op in
    rw k ((exact_op turn full at op).again end text rest i le h w)

pub exact_item : (turn full : Bool) → Exact (item_at turn full) SpellsItem (Stands turn full)
unfolding item_at SpellsItem
exact_item turn full = exact_tagged (λ at b. record {
  takes = λ end bytes rest i le e. kind_takes turn full at b (kind_of b) refl end bytes rest i le e;
  again = λ end text rest i le h w. kind_again turn full at b h.0 h.1 end text rest i le h.2 w;
})

-- A plan gives what its reader gives.
use Rattle.std.proofs.Common.{◌≡◌, ℕ, zero, suc, ◌<◌, ◌≤◌, Bool, true, false, cond, ltb, List, [], ◌∷◌, length, Option, Some, None, Result, Ok, Err, inl, inr, refl, sym, ap, subst, ◌∙◌, arith}
use Rattle.std.proofs.lemmas.List.{length-append, nil_from_length}
use Rattle.wasm_values.specs.declared.number.ValType.{ValType}
use Rattle.wasm_values.specs.declared.number.Val.TheVariants as val
use Rattle.wasm_syntax.specs.declared.instr.Instr.{Instr}
use Rattle.wasm_syntax.specs.declared.instr.Instr.TheVariants as instr
use Rattle.wasm_syntax.specs.declared.instr.Plain.TheVariants as plain
use Rattle.wasm_syntax.specs.declared.flat.Flat.{Flat}
use Rattle.wasm_syntax.specs.declared.flat.Flat.TheVariants as item
use Rattle.wasm_syntax.specs.declared.kind.Opcode.{Opcode}
use Rattle.wasm_syntax.specs.declared.kind.Opcode.TheVariants as op
use Rattle.wasm_syntax.specs.declared.kind.Kind.{Kind}
use Rattle.wasm_syntax.specs.declared.kind.Kind.TheVariants as kind
use Rattle.wasm_syntax.specs.Opcodes.{kind_of}
use Rattle.wasm_syntax.specs.Parts.{Part, own, may_turn, then_item}
use Rattle.binary_grammar.specs.declared.fault.DecodeFault.{DecodeFault}
use Rattle.binary_grammar.specs.declared.fault.DecodeFault.TheVariants.{Malformed, Limit}
use Rattle.binary_grammar.specs.declared.fault.DecodeWord.TheVariants as word
use Rattle.wasm_values.specs.declared.limit.LimitWord.{LimitWord}
use Rattle.wasm_values.specs.declared.limit.LimitWord.TheVariants as limit
use Rattle.binary_grammar.specs.words.Reading.{◌>>=◌, Reader, place, then_at, done_at, of_byte, tagged_at, number_at, byte_at, entries_at, vector_at, limited_at, list_at, run_at, bytes_at, text_at, name_at}
use Rattle.binary_grammar.specs.words.TypeReading.{value_type_at, tag_at, flag_at, block_type_at, func_type_at, greatest_at, limits_at, table_type_at, global_type_at}
use Rattle.binary_grammar.specs.words.CodeReading.{word32_at, word64_at, index_at, indexed_at, simple_at, head_at, op_at, kind_at, item_at, is_last, own_instrs, rest_at, expression_at, instrs_at}
use Rattle.binary_grammar.specs.Grammar.{Spelling}
use Rattle.binary_grammar.specs.Readings.{Number, Few, Word32, Word64, Utf8, Bytes, ValueType, BlockType, Tag, Flag, Left, local, few_at, opcode_of, kind_accepted, accept, Plan, Complete, Want, andThen}
use Rattle.binary_grammar.specs.Plans.{one, entries_plan, vector_plan, limited_plan, list_plan, bytes_plan, name_plan, func_type_plan, greatest_plan, limits_plan, table_type_plan, global_type_plan, indexed_plan, two_plan, zero_plan, instr_plan, op_plan, item_plan, rest_plan, expression_plan, instrs_plan}
use Rattle.binary_grammar.proofs.ReadingLaws.{run}
use Rattle.binary_grammar.proofs.NumberLaws.{chosen}
use Rattle.binary_grammar.proofs.Exact.{Limited, Exact, ok, ok_is, bind_ok, exact_then, exact_done, free, exact_number, exact_entries, exact_vector}
use Rattle.binary_grammar.proofs.TypeLaws.{exact_tag, exact_flag, exact_value_type, exact_limited, list_free}
use Rattle.binary_grammar.proofs.CodeLaws.{some_text}
use Rattle.binary_grammar.proofs.ItemLaws.{exact_word32, exact_word64, exact_item}

pub through : {X A B : Type 0} (v : Result X DecodeFault) (f : X → Result A DecodeFault) (h : X → Result B DecodeFault) (g : A → Result B DecodeFault) →
    ((x : X) → h x ≡ (f x >>= g)) → (v >>= h) ≡ ((v >>= f) >>= g)
through (Ok x) f h g e = e x
through (Err d) f h g e = refl

-- what a plan gives where another follows
pub run_then : {A B : Type 0} (p : Plan A) (g : A → Plan B) (left : Left) → run (andThen p g) left ≡ (run p left >>= λ x. run (g x.0) x.1)
run_then (Complete x) g left = refl
run_then (Want k f) g left =
    through (accept k left) (λ x. run (f x.0) x.1) (λ x. run (andThen (f x.0) g) x.1) (λ x. run (g x.0) x.1) (λ x. run_then (f x.0) g x.1)

-- a reader and a plan that agree on at most so many bytes
pub record Agrees {A : Type 0} (len : ℕ) (r : Reader A) (p : Plan A) : Type 0 where
  pub agree : (left : Left) → length left.bytes ≤ left.end → length left.bytes ≤ len → run p left ≡ local r left

abbrev pub now : Left → List ℕ → Left
now left bytes = record left { bytes = bytes }

abbrev pub leave : {A : Type 0} → Left → Result (A × List ℕ) DecodeFault → Result (A × Left) DecodeFault
leave left v = v >>= λ x. Ok (x.0, record left { bytes = x.1 })

pub then_step : {A B : Type 0} (r : Reader A) (s : A → Reader B) (q : A → Plan B) (left : Left) (v : Result (A × List ℕ) DecodeFault) →
    ((x : A) (rest : List ℕ) → v ≡ Ok (x, rest) → run (q x) (now left rest) ≡ local (s x) (now left rest)) →
    (leave left v >>= λ x. run (q x.0) x.1) ≡ leave left (v >>= λ x. s x.0 left.end x.1)
then_step r s q left (Ok x) go = go x.0 x.1 refl
then_step r s q left (Err d) go = refl

-- what a reader leaves is no longer than what it had
pub record Shrinks {A : Type 0} (r : Reader A) : Type 0 where
  pub left : (end : ℕ) (bytes rest : List ℕ) (x : A) → length bytes ≤ end → r end bytes ≡ Ok (x, rest) → length rest ≤ length bytes

pub shrinks : {A : Type 0} {r : Reader A} {P : Spelling A} {W : Limited A} → Exact r P W → Shrinks r
shrinks er = record { left = λ end bytes rest x le e. let t = er.takes end bytes rest x le e in omega (arith, ap length t.parts, length-append t.text rest) }

pub agrees_next : {A B : Type 0} {len : ℕ} {r : Reader A} {p : Plan A} {s : A → Reader B} {q : A → Plan B} →
    Shrinks r → Agrees len r p → ((x : A) → Agrees len (s x) (q x)) → Agrees len (then_at r s) (andThen p q)
unfolding then_at
agrees_next {A} {B} {len} {r} {p} {s} {q} sr ap1 aq = record {
  agree = λ left le few.
      run_then p q left ∙ ap (λ v. v >>= λ x. run (q x.0) x.1) (ap1.agree left le few) ∙
      then_step r s q left (r left.end left.bytes) (λ x rest e.
      let n = sr.left left.end left.bytes rest x le e in
      (aq x).agree (now left rest) (omega (arith, n)) (omega (arith, n)));
}

pub agrees_then : {A B : Type 0} {len : ℕ} {r : Reader A} {P : Spelling A} {W : Limited A} {p : Plan A} {s : A → Reader B} {q : A → Plan B} →
    Exact r P W → Agrees len r p → ((x : A) → Agrees len (s x) (q x)) → Agrees len (then_at r s) (andThen p q)
agrees_then er ar aq = agrees_next (shrinks er) ar aq

pub agrees_done : {A : Type 0} {len : ℕ} (x : A) → Agrees len (done_at x) (Complete x)
unfolding done_at
agrees_done x = record { agree = λ left le few. refl }

pub whole_pair : {A : Type 0} (v : Result (A × Left) DecodeFault) → (v >>= λ x. Ok (x.0, x.1)) ≡ v
whole_pair (Ok x) = refl
whole_pair (Err d) = refl

pub agrees_number : {len : ℕ} → Agrees len number_at (one Number)
unfolding accept
agrees_number = record { agree = λ left le few. whole_pair (local number_at left) }

pub agrees_word32 : {len : ℕ} → Agrees len word32_at (one Word32)
unfolding accept
agrees_word32 = record { agree = λ left le few. whole_pair (local word32_at left) }

pub agrees_word64 : {len : ℕ} → Agrees len word64_at (one Word64)
unfolding accept
agrees_word64 = record { agree = λ left le few. whole_pair (local word64_at left) }

pub agrees_value_type : {len : ℕ} → Agrees len value_type_at (one ValueType)
unfolding accept
agrees_value_type = record { agree = λ left le few. whole_pair (local value_type_at left) }

pub agrees_block_type : {len : ℕ} → Agrees len block_type_at (one BlockType)
unfolding accept
agrees_block_type = record { agree = λ left le few. whole_pair (local block_type_at left) }

pub agrees_flag : {len : ℕ} → Agrees len flag_at (one Flag)
unfolding accept
agrees_flag = record { agree = λ left le few. whole_pair (local flag_at left) }

pub agrees_tag : {len : ℕ} (b : ℕ) → Agrees len (tag_at b) (one (Tag b))
unfolding accept
agrees_tag b = record { agree = λ left le few. whole_pair (local (tag_at b) left) }

pub agrees_text : {len : ℕ} (n : ℕ) → Agrees len (text_at n) (one (Utf8 n))
unfolding accept
agrees_text n = record { agree = λ left le few. whole_pair (local (text_at n) left) }

pub agrees_run : {len : ℕ} (n : ℕ) → Agrees len (run_at n) (one (Bytes n))
unfolding accept
agrees_run n = record { agree = λ left le few. whole_pair (local (run_at n) left) }

pub agrees_name : {len : ℕ} → Agrees len name_at name_plan
unfolding name_at name_plan
agrees_name = agrees_then exact_number agrees_number agrees_text

pub agrees_bytes : {len : ℕ} → Agrees len bytes_at bytes_plan
unfolding bytes_at bytes_plan
agrees_bytes = agrees_then exact_number agrees_number agrees_run

pub agrees_entries : {A : Type 0} {len : ℕ} {r : Reader A} {P : Spelling A} {W : Limited A} {p : Plan A} → Exact r P W → Agrees len r p → (n : ℕ) → Agrees len (entries_at r n) (entries_plan p n)
unfolding entries_at entries_plan accept then_at done_at
agrees_entries er ar zero = record { agree = λ left le few. refl }
agrees_entries {A} {len} {r} {P} {W} {p} er ar (suc n) = record {
  agree = λ left le few.
      let at = place left.end left.bytes in
      let more : Agrees len (then_at r (λ x. then_at (entries_at r n) (λ xs. done_at (x ∷ xs.0, at ∷ xs.1)))) (andThen p (λ x. andThen (entries_plan p n) (λ xs. Complete (x ∷ xs.0, at ∷ xs.1)))) =
      agrees_then er ar (λ x. agrees_then (exact_entries er n) (agrees_entries er ar n) (λ xs. agrees_done (x ∷ xs.0, at ∷ xs.1))) in
      more.agree left le few;
}

pub agrees_vector : {A : Type 0} {len : ℕ} {r : Reader A} {P : Spelling A} {W : Limited A} {p : Plan A} → Exact r P W → Agrees len r p → Agrees len (vector_at r) (vector_plan p)
unfolding vector_at vector_plan
agrees_vector er ar = agrees_then exact_number agrees_number (agrees_entries er ar)

pub agrees_list : {A : Type 0} {len : ℕ} {r : Reader A} {P : Spelling A} {W : Limited A} {p : Plan A} → Exact r P W → Agrees len r p → Agrees len (list_at r) (list_plan p)
unfolding list_at list_plan
agrees_list er ar = agrees_then (exact_vector er) (agrees_vector er ar) (λ x. agrees_done x.0)

-- ---- readers that are written in another way

pub agrees_same : {A : Type 0} {len : ℕ} {r t : Reader A} {p : Plan A} → ((end : ℕ) (bytes : List ℕ) → t end bytes ≡ r end bytes) → Agrees len r p → Agrees len t p
agrees_same {A} {len} {r} {t} {p} same ar = record { agree = λ left le few. ar.agree left le few ∙ ap (leave left) (sym (same left.end left.bytes)) }

-- a number that is tested
abbrev pub guarded : (ℕ → Bool) → (ℕ → DecodeFault) → Reader ℕ
guarded c f end bytes = number_at end bytes >>= λ n. cond (c n.0) (Err (f (place end bytes))) (Ok n)

pub guard_first : {B : Type 0} (v : Result (ℕ × List ℕ) DecodeFault) (c : ℕ → Bool) (d : DecodeFault) (g : ℕ × List ℕ → Result B DecodeFault) →
    (v >>= λ n. cond (c n.0) (Err d) (g n)) ≡ ((v >>= λ n. cond (c n.0) (Err d) (Ok n)) >>= g)
guard_first (Err e) c d g = refl
guard_first {B} (Ok n) c d g = go (c n.0)
  where
    go : (b : Bool) → cond b (Err d) (g n) ≡ (cond b (Err d) (Ok n) >>= g)
    go true = refl
    go false = refl

pub shrinks_guarded : (c : ℕ → Bool) (f : ℕ → DecodeFault) → Shrinks (guarded c f)
shrinks_guarded c f = record {
  left = λ end bytes rest x le e.
      let p = bind_ok (number_at end bytes) (λ n. cond (c n.0) (Err (f (place end bytes))) (Ok n)) (x, rest) e in
      elim (chosen (c p.0.0) (Err (f (place end bytes))) (ok p.0) (ok (x, rest)) p.2) [
        | inl h ↦ absurd (let k = h.1 in cc)
        | inr h ↦
            let s = ok_is p.0 (x, rest) h.1 in
            let t = exact_number.takes end bytes p.0.1 p.0.0 le p.1 in
            omega (arith, ap length t.parts, length-append t.text p.0.1, ap (λ (z : ℕ × List ℕ). length z.1) s)
      ];
}

pub agrees_few : {len : ℕ} (most : ℕ) (w : LimitWord) → Agrees len (few_at most w) (one (Few most w))
unfolding accept
agrees_few most w = record { agree = λ left le few. whole_pair (local (few_at most w) left) }

pub agrees_limited : {A : Type 0} {len : ℕ} {r : Reader A} {P : Spelling A} {W : Limited A} {p : Plan A} (most : ℕ) (w : LimitWord) → Exact r P W → Agrees len r p → Agrees len (limited_at r most w) (limited_plan p most w)
unfolding limited_at limited_plan few_at then_at
agrees_limited {A} {len} {r} most w er ar =
    agrees_same {r = then_at (few_at most w) (entries_at r)} (λ end bytes. guard_first (number_at end bytes) (λ n. ltb most n) (Limit (place end bytes) w) (λ n. entries_at r n.0 end n.1))
    (agrees_next (shrinks_guarded (λ n. ltb most n) (λ at. Limit at w)) (agrees_few most w) (agrees_entries er ar))

pub agrees_func_type : {len : ℕ} (most : ℕ) → Agrees len (func_type_at most) (func_type_plan most)
unfolding func_type_at func_type_plan
agrees_func_type most =
    agrees_then (exact_tag 0x60) (agrees_tag 0x60) (λ tag. agrees_then (exact_limited most limit.Params exact_value_type) (agrees_limited most limit.Params exact_value_type agrees_value_type) (λ params.
    agrees_then (list_free exact_value_type) (agrees_list exact_value_type agrees_value_type) (λ results. agrees_done (record { params = params.0; results = results }))))

pub agrees_greatest : {len : ℕ} (flag : Bool) → Agrees len (greatest_at flag) (greatest_plan flag)
agrees_greatest false = agrees_done None
agrees_greatest true = agrees_then exact_number agrees_number (λ n. agrees_done (Some n))

pub shrinks_greatest : (flag : Bool) → Shrinks (greatest_at flag)
shrinks_greatest false = shrinks (exact_done None)
shrinks_greatest true = shrinks (exact_then exact_number (λ n. exact_done (Some n)) free)

pub agrees_limits : {len : ℕ} → Agrees len limits_at limits_plan
unfolding limits_at limits_plan
agrees_limits = agrees_then exact_flag agrees_flag (λ flag. agrees_then exact_number agrees_number (λ least. agrees_next (shrinks_greatest flag) (agrees_greatest flag) (λ greatest. agrees_done (record { min = least; max = greatest }))))

pub agrees_table_type : {len : ℕ} → Agrees len table_type_at table_type_plan
unfolding table_type_at table_type_plan
agrees_table_type = agrees_then (exact_tag 0x70) (agrees_tag 0x70) (λ tag. agrees_limits)

pub agrees_global_type : {len : ℕ} → Agrees len global_type_at global_type_plan
unfolding global_type_at global_type_plan
agrees_global_type = agrees_then exact_value_type agrees_value_type (λ t. agrees_then exact_flag agrees_flag (λ flag. agrees_done (record { value = t; mutable = flag })))

-- ---- instructions

pub agrees_indexed : {len : ℕ} (f : ℕ → Instr) → Agrees len (then_at number_at (λ n. done_at (f n))) (indexed_plan f)
agrees_indexed f = agrees_then exact_number agrees_number (λ n. agrees_done (f n))

pub agrees_two : {len : ℕ} (f : ℕ → ℕ → Instr) → Agrees len (then_at number_at (λ a. then_at number_at (λ b. done_at (f a b)))) (two_plan f)
agrees_two f = agrees_then exact_number agrees_number (λ a. agrees_then exact_number agrees_number (λ b. agrees_done (f a b)))

pub agrees_zero : {len : ℕ} (i : Instr) → Agrees len (then_at (tag_at 0) (λ z. done_at i)) (zero_plan i)
agrees_zero i = agrees_then (exact_tag 0) (agrees_tag 0) (λ z. agrees_done i)

pub map_step : {A B : Type 0} (f : A → B) (left : Left) (v : Result (A × List ℕ) DecodeFault) → (leave left v >>= λ x. run (Complete (f x.0)) x.1) ≡ leave left (v >>= λ x. Ok (f x.0, x.1))
map_step f left (Ok x) = refl
map_step f left (Err d) = refl

-- a value put into another
pub agrees_map : {A B : Type 0} {len : ℕ} {r : Reader A} {p : Plan A} (f : A → B) → Agrees len r p → Agrees len (then_at r (λ x. done_at (f x))) (andThen p (λ x. Complete (f x)))
unfolding then_at done_at
agrees_map {A} {B} {len} {r} {p} f ar = record {
  agree = λ left le few. run_then p (λ x. Complete (f x)) left ∙ ap (λ v. v >>= λ x. run (Complete (f x.0)) x.1) (ar.agree left le few) ∙ map_step f left (r left.end left.bytes);
}

-- one of two
pub agrees_either : {A : Type 0} {len : ℕ} {r t : Reader A} {p q : Plan A} (b : Bool) → Agrees len r p → Agrees len t q → Agrees len (λ end bytes. cond b (r end bytes) (t end bytes)) (cond b p q)
agrees_either true ar at = record { agree = λ left le few. ar.agree left le few }
agrees_either false ar at = record { agree = λ left le few. at.agree left le few }

-- ---- items

-- what follows an opcode, where bytes behind it are left
abbrev pub OpAgrees : Bool → Bool → ℕ → ℕ → Opcode → Type 0
OpAgrees turn full at len o = (left : Left) → length left.bytes ≤ left.end → length left.bytes ≤ len →
    (opcode_of turn full at o >>= λ t. run (op_plan t) left) ≡ local (op_at turn full at o) left

pub head_agrees : {len : ℕ} (at : ℕ) (f : Option ValType → Flat) (left : Left) → length left.bytes ≤ left.end → length left.bytes ≤ len →
    run (andThen (one BlockType) (λ t. Complete (f t))) left ≡ local (then_at (head_at false at) (λ t. done_at (f t))) left
unfolding head_at then_at
head_agrees {len} at f left le few = let a : Agrees len (then_at block_type_at (λ t. done_at (f t))) (andThen (one BlockType) (λ t. Complete (f t))) = agrees_map f agrees_block_type in a.agree left le few

pub simple_agrees : {len : ℕ} (at : ℕ) (o : Opcode) → Agrees len (simple_at at o) (instr_plan o) → (left : Left) → length left.bytes ≤ left.end → length left.bytes ≤ len →
    run (andThen (instr_plan o) (λ i. Complete (item.One i))) left ≡ local (then_at (simple_at at o) (λ i. done_at (item.One i))) left
simple_agrees at o a left le few = (agrees_map item.One a).agree left le few

pub op_agrees : (len : ℕ) (turn full : Bool) (at : ℕ) (o : Opcode) → OpAgrees turn full at len o
unfolding opcode_of op_plan op_at instr_plan simple_at indexed_at index_at head_at then_at done_at
op_agrees len turn true at op.Block = λ left le few. refl
op_agrees len turn false at op.Block = λ left le few. head_agrees at item.Block left le few
op_agrees len turn true at op.Loop = λ left le few. refl
op_agrees len turn false at op.Loop = λ left le few. head_agrees at item.Loop left le few
op_agrees len turn true at op.If = λ left le few. refl
op_agrees len turn false at op.If = λ left le few. head_agrees at item.If left le few
op_agrees len true full at op.Else = λ left le few. refl
op_agrees len false full at op.Else = λ left le few. refl
op_agrees len turn full at op.End = λ left le few. refl
op_agrees len turn full at op.Unreachable = λ left le few. simple_agrees at op.Unreachable (agrees_done (instr.Plain plain.Unreachable)) left le few
op_agrees len turn full at op.Nop = λ left le few. simple_agrees at op.Nop (agrees_done (instr.Plain plain.Nop)) left le few
op_agrees len turn full at op.Return = λ left le few. simple_agrees at op.Return (agrees_done (instr.Plain plain.Return)) left le few
op_agrees len turn full at op.Drop = λ left le few. simple_agrees at op.Drop (agrees_done (instr.Plain plain.Drop)) left le few
op_agrees len turn full at op.Select = λ left le few. simple_agrees at op.Select (agrees_done (instr.Plain plain.Select)) left le few
op_agrees len turn full at (op.Num o) = λ left le few. simple_agrees at (op.Num o) (agrees_done (instr.Num o)) left le few
op_agrees len turn full at op.MemorySize = λ left le few. simple_agrees at op.MemorySize (agrees_zero (instr.Plain plain.MemorySize)) left le few
op_agrees len turn full at op.MemoryGrow = λ left le few. simple_agrees at op.MemoryGrow (agrees_zero (instr.Plain plain.MemoryGrow)) left le few
op_agrees len turn full at op.I32Const = λ left le few. simple_agrees at op.I32Const (agrees_then exact_word32 agrees_word32 (λ n. agrees_done (instr.Const (val.I32 n)))) left le few
op_agrees len turn full at op.I64Const = λ left le few. simple_agrees at op.I64Const (agrees_then exact_word64 agrees_word64 (λ n. agrees_done (instr.Const (val.I64 n)))) left le few
op_agrees len turn full at op.BrTable = λ left le few. simple_agrees at op.BrTable (agrees_then (list_free exact_number) (agrees_list exact_number agrees_number) (λ labels. agrees_then exact_number agrees_number (λ last. agrees_done (instr.BrTable labels last)))) left le few
op_agrees len turn full at op.CallIndirect = λ left le few. simple_agrees at op.CallIndirect (agrees_then exact_number agrees_number (λ n. agrees_then (exact_tag 0) (agrees_tag 0) (λ z. agrees_done (instr.CallIndirect n)))) left le few
op_agrees len turn full at (op.Load o) = λ left le few. simple_agrees at (op.Load o) (agrees_two (instr.Load o)) left le few
op_agrees len turn full at (op.Store o) = λ left le few. simple_agrees at (op.Store o) (agrees_two (instr.Store o)) left le few
op_agrees len turn full at op.Br = λ left le few. simple_agrees at op.Br (agrees_indexed instr.Br) left le few
op_agrees len turn full at op.BrIf = λ left le few. simple_agrees at op.BrIf (agrees_indexed instr.BrIf) left le few
op_agrees len turn full at op.Call = λ left le few. simple_agrees at op.Call (agrees_indexed instr.Call) left le few
op_agrees len turn full at op.LocalGet = λ left le few. simple_agrees at op.LocalGet (agrees_indexed instr.LocalGet) left le few
op_agrees len turn full at op.LocalSet = λ left le few. simple_agrees at op.LocalSet (agrees_indexed instr.LocalSet) left le few
op_agrees len turn full at op.LocalTee = λ left le few. simple_agrees at op.LocalTee (agrees_indexed instr.LocalTee) left le few
op_agrees len turn full at op.GlobalGet = λ left le few. simple_agrees at op.GlobalGet (agrees_indexed instr.GlobalGet) left le few
op_agrees len turn full at op.GlobalSet = λ left le few. simple_agrees at op.GlobalSet (agrees_indexed instr.GlobalSet) left le few

-- what a byte stands for, where bytes behind it are left
pub kind_agrees : (len : ℕ) (turn full : Bool) (at : ℕ) (k : Kind) (left : Left) → length left.bytes ≤ left.end → length left.bytes ≤ len →
    (kind_accepted turn full at k >>= λ t. run (op_plan t) left) ≡ local (kind_at turn full at k) left
unfolding kind_accepted kind_at
kind_agrees len turn full at (kind.Op o) left le few = op_agrees len turn full at o left le few
kind_agrees len turn full at kind.Float left le few = refl
kind_agrees len turn full at kind.Unused left le few = refl

abbrev pub with_rest : Result Opcode DecodeFault → List ℕ → Result (Opcode × List ℕ) DecodeFault
with_rest v bs = v >>= λ t. Ok (t, bs)

pub behind_byte : (v : Result Opcode DecodeFault) (left : Left) (bs : List ℕ) → (leave left (with_rest v bs) >>= λ x. run (op_plan x.0) x.1) ≡ (v >>= λ t. run (op_plan t) (now left bs))
behind_byte (Ok t) left bs = refl
behind_byte (Err d) left bs = refl

pub item_bytes : (len : ℕ) (turn full : Bool) (left : Left) (bytes : List ℕ) → length bytes ≤ left.end → length bytes ≤ len → run (item_plan turn full) (now left bytes) ≡ local (item_at turn full) (now left bytes)
unfolding item_plan item_at accept of_byte tagged_at byte_at
item_bytes len turn full left [] le few = refl
item_bytes len turn full left (b ∷ bs) le few =
    behind_byte (kind_accepted turn full (place left.end (b ∷ bs)) (kind_of b)) left bs ∙ kind_agrees len turn full (place left.end (b ∷ bs)) (kind_of b) (now left bs) (omega arith) (omega arith)

pub agrees_item : {len : ℕ} (turn full : Bool) → Agrees len (item_at turn full) (item_plan turn full)
agrees_item {len} turn full = record { agree = λ left le few. item_bytes len turn full left left.bytes le few }

-- ---- expressions

-- a reader that takes at least one byte
pub agrees_strict : {A B : Type 0} {m : ℕ} {r : Reader A} {p : Plan A} {s : A → Reader B} {q : A → Plan B} →
    ((end : ℕ) (bytes rest : List ℕ) (x : A) → length bytes ≤ end → r end bytes ≡ Ok (x, rest) → length rest < length bytes) →
    Agrees (suc m) r p → ((x : A) → Agrees m (s x) (q x)) → Agrees (suc m) (then_at r s) (andThen p q)
unfolding then_at
agrees_strict {A} {B} {m} {r} {p} {s} {q} strict ar aq = record {
  agree = λ left le few.
      run_then p q left ∙ ap (λ v. v >>= λ x. run (q x.0) x.1) (ar.agree left le few) ∙
      then_step r s q left (r left.end left.bytes) (λ x rest e.
      let n = strict left.end left.bytes rest x le e in
      (aq x).agree (now left rest) (omega (arith, n)) (omega (arith, n)));
}

pub strict_item : (turn full : Bool) (end : ℕ) (bytes rest : List ℕ) (x : Flat) → length bytes ≤ end → item_at turn full end bytes ≡ Ok (x, rest) → length rest < length bytes
strict_item turn full end bytes rest x le e =
    let t = (exact_item turn full).takes end bytes rest x le e in
    omega (arith, some_text (place end bytes) t.text x t.spells, ap length t.parts, length-append t.text rest)

pub none_read : (most k : ℕ) (ps : List Part) (end : ℕ) → rest_at most k ps end [] ≡ Err (Malformed end word.End)
unfolding rest_at item_at tagged_at byte_at
none_read most zero ps end = refl
none_read most (suc k) ps end = refl

pub none_planned : (most n : ℕ) (ps : List Part) (left : Left) → run (rest_plan most n ps) (now left []) ≡ Err (Malformed left.end word.End)
unfolding rest_plan item_plan accept of_byte byte_at
none_planned most zero ps left = refl
none_planned most (suc n) ps left = refl

pub agrees_rest : (most len n k : ℕ) → len ≤ n → len ≤ k → (ps : List Part) → Agrees len (rest_at most k ps) (rest_plan most n ps)
unfolding rest_at rest_plan accept then_at done_at
agrees_rest most zero n k a b ps = record {
  agree = λ left le few.
      let none : left.bytes ≡ [] = nil_from_length left.bytes (omega arith) in
      subst (λ bs. run (rest_plan most n ps) (now left bs) ≡ local (rest_at most k ps) (now left bs)) (sym none)
      (none_planned most n ps left ∙ sym (ap (leave (now left [])) (none_read most k ps left.end)));
}
agrees_rest most (suc m) zero k a b ps = absurd (omega arith)
agrees_rest most (suc m) (suc n) zero a b ps = absurd (omega arith)
agrees_rest most (suc m) (suc n) (suc k) a b ps = record {
  agree = λ left le few.
      let at = place left.end left.bytes in
      let full = ltb most (length ps) in
      let more : Agrees (suc m) (then_at (item_at (may_turn ps) full) (λ i end bytes. cond (is_last (length ps) i) (done_at (own_instrs ps, at ∷ []) end bytes) (then_at (rest_at most k (then_item ps i)) (λ x. done_at (x.0, at ∷ x.1)) end bytes)))
      (andThen (item_plan (may_turn ps) full) (λ i. cond (is_last (length ps) i) (Complete (own_instrs ps, at ∷ [])) (andThen (rest_plan most n (then_item ps i)) (λ x. Complete (x.0, at ∷ x.1))))) =
      agrees_strict (strict_item (may_turn ps) full) (agrees_item (may_turn ps) full) (λ i. agrees_either (is_last (length ps) i) (agrees_done (own_instrs ps, at ∷ []))
      (agrees_map (λ x. (x.0, at ∷ x.1)) (agrees_rest most m n k (omega arith) (omega arith) (then_item ps i)))) in
      more.agree left le few;
}

pub agrees_expression : {len : ℕ} (most : ℕ) → Agrees len (expression_at most) (expression_plan len most)
unfolding expression_at expression_plan
agrees_expression {len} most = record {
  agree = λ left le few. (agrees_rest most (length left.bytes) len (length left.bytes) few (omega arith) (own [] ∷ [])).agree left le (omega arith);
}

pub agrees_instrs : {len : ℕ} (most : ℕ) → Agrees len (instrs_at most) (instrs_plan len most)
unfolding instrs_at instrs_plan
agrees_instrs most = agrees_map (λ x. x.0) (agrees_expression most)

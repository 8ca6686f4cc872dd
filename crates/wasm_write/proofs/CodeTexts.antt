-- The texts of instructions, expressions and bodies spell them.
use Rattle.std.proofs.Common.{◌≡◌, ℕ, zero, suc, ◌+◌, ◌≤◌, true, false, cond, List, [], ◌∷◌, ◌++◌, length, refl, sym, ap, ◌∙◌, arith}
use Rattle.std.specs.List.{AllByRecursion, flat_map}
use Rattle.std.proofs.lemmas.List.{length-append}
use Rattle.wasm_values.specs.declared.number.ValType.{ValType}
use Rattle.wasm_values.specs.declared.number.ValType.TheVariants.{I32, I64}
use Rattle.wasm_values.specs.declared.number.Val.TheVariants as val
use Rattle.wasm_values.specs.Types.{is_same_type}
use Rattle.wasm_values.proofs.TypeLaws.{type-eq}
use Rattle.wasm_syntax.specs.declared.module.Func.{Func}
use Rattle.wasm_syntax.specs.declared.instr.Instr.{Instr, Plain, Num, Const, LocalGet, LocalSet, LocalTee, GlobalGet, GlobalSet, Load, Store, Block', Loop', If', Br, BrIf, BrTable, Call, CallIndirect}
use Rattle.wasm_syntax.specs.declared.instr.Instr.TheVariants as instr
use Rattle.wasm_syntax.specs.declared.instr.Plain.TheVariants as plain
use Rattle.wasm_syntax.specs.declared.flat.Flat.{Flat}
use Rattle.wasm_syntax.specs.declared.flat.Flat.TheVariants as item
use Rattle.wasm_syntax.specs.declared.kind.Opcode.{Opcode}
use Rattle.wasm_syntax.specs.declared.kind.Opcode.TheVariants as op
use Rattle.wasm_syntax.specs.Opcodes.{code_of}
use Rattle.wasm_syntax.specs.FlatForm.{is_simple, flat, flat_body}
use Rattle.wasm_syntax.specs.Parts.{Part, own, then_item}
use Rattle.binary_grammar.specs.declared.section.Body.{Body}
use Rattle.binary_grammar.specs.Bounds.{copies}
use Rattle.binary_grammar.specs.Grammar.{Spelling, Then, Done, SpellsNumber}
use Rattle.binary_grammar.specs.CodeGrammar.{InstrOf, ItemOf, SpellsItem, SpellsExpression, SpellsInstrs, SpellsRun, locals_of, Runs, SpellsLocals, OfLength, Sized, SpellsBodyContents, SpellsBody}
use Rattle.binary_grammar.proofs.Follow.{Follow, follow-flat}
use Rattle.wasm_write.specs.Shortest.{number_text, signed_text}
use Rattle.wasm_write.specs.Encoding.{vector_text, sized_text, value_type_text, block_type_code, opcode_of, immediates, item_text, expression_text, joined_to, runs_of, run_text, body_text, func_text}
use Rattle.wasm_write.specs.Writable.{IsU32, IsCounted, InstrWritable, ItemWritable, CodeWritable, FuncWritable}
use Rattle.wasm_write.proofs.NumberTexts.{spells_word32, spells_word64}
use Rattle.wasm_write.proofs.TypeTexts.{then, then_done, the_byte, tagged, number, Spelled, each, list, value_type, block_type}

-- ---- instructions

two : (f : ℕ → ℕ → Instr) (at a b : ℕ) → IsU32 a → IsU32 b → Then SpellsNumber (λ x. Then SpellsNumber (λ y. Done (f x y))) at (number_text a ++ number_text b) (f a b)
two f at a b h k =
    then _ _ at (number_text a) (number_text b) a (f a b) (number at a h)
    (then_done _ (λ y. f a y) (at + length (number_text a)) (number_text b) b (number (at + length (number_text a)) b k))

instr_ : (i : Instr) → is_simple i ≡ true → InstrWritable i → (at : ℕ) → InstrOf (opcode_of i) at (immediates i) i
unfolding InstrOf Done
instr_ (Plain plain.Unreachable) e w at = (refl, refl)
instr_ (Plain plain.Nop) e w at = (refl, refl)
instr_ (Plain plain.Return) e w at = (refl, refl)
instr_ (Plain plain.Drop) e w at = (refl, refl)
instr_ (Plain plain.Select) e w at = (refl, refl)
instr_ (Plain plain.MemorySize) e w at = then_done _ (λ z. instr.Plain plain.MemorySize) at (0 ∷ []) 0 (the_byte at 0)
instr_ (Plain plain.MemoryGrow) e w at = then_done _ (λ z. instr.Plain plain.MemoryGrow) at (0 ∷ []) 0 (the_byte at 0)
instr_ (Num n) e w at = (refl, refl)
instr_ (Const (val.I32 n)) e w at = then_done _ (λ k. instr.Const (val.I32 k)) at (signed_text 32 n) n (spells_word32 at n w)
instr_ (Const (val.I64 n)) e w at = then_done _ (λ k. instr.Const (val.I64 k)) at (signed_text 64 n) n (spells_word64 at n w)
instr_ (LocalGet x) e w at = then_done _ instr.LocalGet at (number_text x) x (number at x w)
instr_ (LocalSet x) e w at = then_done _ instr.LocalSet at (number_text x) x (number at x w)
instr_ (LocalTee x) e w at = then_done _ instr.LocalTee at (number_text x) x (number at x w)
instr_ (GlobalGet x) e w at = then_done _ instr.GlobalGet at (number_text x) x (number at x w)
instr_ (GlobalSet x) e w at = then_done _ instr.GlobalSet at (number_text x) x (number at x w)
instr_ (Load l a o) e w at = two (instr.Load l) at a o w.0 w.1
instr_ (Store s a o) e w at = two (instr.Store s) at a o w.0 w.1
instr_ (Block' t n is) e w at = cc
instr_ (Loop' t n is) e w at = cc
instr_ (If' t n is os) e w at = cc
instr_ (Br x) e w at = then_done _ instr.Br at (number_text x) x (number at x w)
instr_ (BrIf x) e w at = then_done _ instr.BrIf at (number_text x) x (number at x w)
instr_ (BrTable ls l) e w at =
    let a = vector_text number_text ls in
    then _ _ at a (number_text l) ls (instr.BrTable ls l) (list SpellsNumber number_text IsU32 (λ x h p. number p x h) ls w.0 w.1 at)
    (then_done _ (λ y. instr.BrTable ls y) (at + length a) (number_text l) l (number (at + length a) l w.2))
instr_ (Call x) e w at = then_done _ instr.Call at (number_text x) x (number at x w)
instr_ (CallIndirect x) e w at =
    then _ _ at (number_text x) (0 ∷ []) x (instr.CallIndirect x) (number at x w)
    (then_done _ (λ z. instr.CallIndirect x) (at + length (number_text x)) (0 ∷ []) 0 (the_byte (at + length (number_text x)) 0))

-- an instruction as an item
one : (o : Opcode) (i : Instr) (at : ℕ) (text : List ℕ) → InstrOf o at text i → ItemOf o at text (item.One i)
unfolding ItemOf InstrOf
one op.Block i at text h = absurd h
one op.Loop i at text h = absurd h
one op.If i at text h = absurd h
one op.Else i at text h = absurd h
one op.End i at text h = absurd h
one _ i at text h = then_done _ item.One at text i h

-- an instruction of its own is no block, loop or if
abbrev IsItem : Flat → Type 0
IsItem (item.One i) = is_simple i ≡ true
IsItem _ = Unit {0}

abbrev ItemFits : Flat → Type 0
ItemFits i = IsItem i × ItemWritable i

item_ : Spelled SpellsItem item_text ItemFits
unfolding SpellsItem item_text ItemOf Done
item_ (item.One i) w at = tagged _ at (code_of (opcode_of i)) (immediates i) (item.One i) (opcode_of i, refl, one (opcode_of i) i (at + 1) (immediates i) (instr_ i w.0 w.1 (at + 1)))
item_ (item.Block t) w at = tagged _ at (code_of op.Block) (block_type_code t ∷ []) (item.Block t) (op.Block, refl, then_done _ item.Block (at + 1) (block_type_code t ∷ []) t (block_type (at + 1) t))
item_ (item.Loop t) w at = tagged _ at (code_of op.Loop) (block_type_code t ∷ []) (item.Loop t) (op.Loop, refl, then_done _ item.Loop (at + 1) (block_type_code t ∷ []) t (block_type (at + 1) t))
item_ (item.If t) w at = tagged _ at (code_of op.If) (block_type_code t ∷ []) (item.If t) (op.If, refl, then_done _ item.If (at + 1) (block_type_code t ∷ []) t (block_type (at + 1) t))
item_ item.Else w at = tagged _ at (code_of op.Else) [] item.Else (op.Else, refl, (refl, refl))
item_ item.End w at = tagged _ at (code_of op.End) [] item.End (op.End, refl, (refl, refl))

-- ---- expressions

follows_fits : (ps : List Part) (is : List Flat) → Follow ps is → AllByRecursion ItemWritable is → AllByRecursion ItemFits (is ++ item.End ∷ [])
follows_fits ps [] f w = ((tt, tt), tt)
follows_fits ps (item.One i ∷ is) f w = ((f.0, w.0), follows_fits (then_item ps (item.One i)) is f.1 w.1)
follows_fits ps (item.Block t ∷ is) f w = ((tt, w.0), follows_fits (then_item ps (item.Block t)) is f.1 w.1)
follows_fits ps (item.Loop t ∷ is) f w = ((tt, w.0), follows_fits (then_item ps (item.Loop t)) is f.1 w.1)
follows_fits ps (item.If t ∷ is) f w = ((tt, w.0), follows_fits (then_item ps (item.If t)) is f.1 w.1)
follows_fits ps (item.Else ∷ is) f w = ((tt, w.0), follows_fits (then_item ps item.Else) is f.1 w.1)
follows_fits ps (item.End ∷ is) f w = ((tt, w.0), follows_fits (then_item ps item.End) is f.1 w.1)

expression : (is : List Instr) → CodeWritable is → (at : ℕ) → (ps : List ℕ) × SpellsExpression at (expression_text is) (is, ps)
unfolding SpellsExpression
expression is w at =
    each SpellsItem item_text ItemFits item_ (flat_body is) (follows_fits (own [] ∷ []) (flat is) (follow-flat is (own [] ∷ []) (omega arith)) w) at

pub instrs : (is : List Instr) → CodeWritable is → (at : ℕ) → SpellsInstrs at (expression_text is) is
unfolding SpellsInstrs
instrs is w at =
    let e = expression is w at in
    then_done _ (λ (x : List Instr × List ℕ). x.0) at (expression_text is) (is, e.0) e.1

-- ---- locals

copies-add : (n k : ℕ) (t : ValType) (ls : List ValType) → copies (n + k) t ++ ls ≡ copies n t ++ (copies k t ++ ls)
copies-add zero k t ls = ap (λ j. copies j t ++ ls) (let e : 0 + k ≡ k = omega arith in e)
copies-add (suc n) k t ls = ap (λ j. copies j t ++ ls) (let e : suc n + k ≡ suc (n + k) = omega arith in e) ∙ ap (λ ts. t ∷ ts) (copies-add n k t ls)

joins : (n : ℕ) (t : ValType) (rs : List (ℕ × ValType)) → locals_of (joined_to n t rs) ≡ copies n t ++ locals_of rs
joins n t [] = refl
joins n t (r ∷ rs) =
    elim (is_same_type t r.1) as (λ b. is_same_type t r.1 ≡ b → locals_of (cond b ((n + r.0, t) ∷ rs) ((n, t) ∷ r ∷ rs)) ≡ copies n t ++ (copies r.0 r.1 ++ locals_of rs)) [
      | true ↦ λ e. copies-add n r.0 t (locals_of rs) ∙ ap (λ u. copies n t ++ (copies r.0 u ++ locals_of rs)) (type-eq t r.1 e)
      | false ↦ λ e. refl
    ] refl

whole_locals : (ls : List ValType) → locals_of (runs_of ls) ≡ ls
whole_locals [] = refl
whole_locals (t ∷ ts) = joins 1 t (runs_of ts) ∙ ap (λ us. t ∷ us) (whole_locals ts)

pub few_joined : (n : ℕ) (t : ValType) (rs : List (ℕ × ValType)) → length (joined_to n t rs) ≤ suc (length rs)
few_joined n t [] = omega arith
few_joined n t (r ∷ rs) =
    elim (is_same_type t r.1) as (λ b. length (cond b ((n + r.0, t) ∷ rs) ((n, t) ∷ r ∷ rs)) ≤ suc (suc (length rs))) [
      | true ↦ omega arith
      | false ↦ omega arith
    ]

few_runs : (ls : List ValType) → length (runs_of ls) ≤ length ls
few_runs [] = omega arith
few_runs (t ∷ ts) = omega (arith, few_joined 1 t (runs_of ts), few_runs ts)

length-copies : (n : ℕ) (t : ValType) → length (copies n t) ≡ n
length-copies zero t = refl
length-copies (suc n) t = ap suc (length-copies n t)

short_runs : (most : ℕ) (rs : List (ℕ × ValType)) → length (locals_of rs) ≤ most → most ≤ 1000 → AllByRecursion (λ r. IsU32 r.0) rs
short_runs most [] few le = tt
short_runs most (r ∷ rs) few le =
    let len : length (copies r.0 r.1 ++ locals_of rs) ≡ r.0 + length (locals_of rs) = length-append (copies r.0 r.1) (locals_of rs) ∙ ap (λ k. k + length (locals_of rs)) (length-copies r.0 r.1) in
    (omega arith, short_runs most rs (omega arith) le)

run : Spelled SpellsRun run_text (λ r. IsU32 r.0)
unfolding SpellsRun
run r w at =
    then _ _ at (number_text r.0) (value_type_text r.1) r.0 r (number at r.0 w)
    (then_done _ (λ t. (r.0, t)) (at + length (number_text r.0)) (value_type_text r.1) r.1 (value_type r.1 tt (at + length (number_text r.0))))

locals : (ls : List ValType) → length ls ≤ 1000 → (at : ℕ) → SpellsLocals at (vector_text run_text (runs_of ls)) ls
unfolding SpellsLocals Runs vector_text
locals ls few at =
    let rs = runs_of ls in
    let a = number_text (length rs) in
    let len : length (locals_of rs) ≤ length ls = omega (arith, ap length (whole_locals ls)) in
    let e = each SpellsRun run_text (λ r. IsU32 r.0) run rs (short_runs (length ls) rs len few) (at + length a) in
    then _ _ at a (flat_map run_text rs) (length rs) ls (number at (length rs) (omega (arith, few_runs ls)))
    (rs, e.0, refl, e.1, sym (whole_locals ls))

-- ---- bodies

pub sized : {A : Type 0} (P : Spelling A) (at : ℕ) (bs : List ℕ) (x : A) → IsCounted bs → P (at + length (number_text (length bs))) bs x → Sized P at (sized_text bs) x
unfolding Sized OfLength sized_text
sized P at bs x few p = then _ _ at (number_text (length bs)) bs (length bs) x (number at (length bs) few) (refl, p)

-- a body that is that of a function
pub record IsBody (at : ℕ) (f : Func) : Type 0 where
  pub body : Body
  pub spells : SpellsBody at (func_text f) body
  pub locals : body.locals ≡ f.locals
  pub code : body.code ≡ f.body

pub body_of : (f : Func) → FuncWritable f → length f.locals ≤ 1000 → (at : ℕ) → IsBody at f
unfolding SpellsBody SpellsBodyContents
body_of f w few at =
    let start = at + length (number_text (length (body_text f))) in
    let a = vector_text run_text (runs_of f.locals) in
    let e = expression f.body w.2 (start + length a) in
    let b : Body = record { locals = f.locals; code = f.body; places = e.0 } in
    record {
      body = b;
      spells = sized SpellsBodyContents at (body_text f) b w.1
          (then _ _ start a (expression_text f.body) f.locals b (locals f.locals few start)
          (then_done _ (λ (code : List Instr × List ℕ). record { locals = f.locals; code = code.0; places = code.1 }) (start + length a) (expression_text f.body) (f.body, e.0) e.1));
      locals = refl;
      code = refl;
    }

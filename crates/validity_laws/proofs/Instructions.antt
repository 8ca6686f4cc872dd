-- Each instruction leads from operands of which something is known to such operands, or is stuck.
use Rattle.std.proofs.Common.{◌≡◌, ℕ, ◌<◌, ◌≤◌, ◌^◌, Bool, true, false, List, [], ◌∷◌, length, reverse, slice_get, Option, Some, None, refl, sym, ◌∙◌, subst, inl, inr}
use Rattle.std.specs.List.{All}
use Rattle.wasm_values.specs.declared.number.ValType.{ValType}
use Rattle.wasm_values.specs.declared.number.ValType.TheVariants.{I32}
use Rattle.wasm_values.specs.Operators.{type_of, result_type}
use Rattle.wasm_syntax.specs.declared.instr.Plain.{Plain}
use Rattle.wasm_syntax.specs.declared.instr.Plain.TheVariants as plain
use Rattle.wasm_syntax.specs.declared.instr.Instr as source
use Rattle.wasm_syntax.specs.declared.instr.Instr.{Instr}
use Rattle.wasm_syntax.specs.declared.module.FuncType.{FuncType}
use Rattle.wasm_syntax.specs.declared.module.GlobalType.{GlobalType}
use Rattle.wasm_syntax.specs.Accesses.{bytes_loaded, bytes_stored, loaded_type, stored_type}
use Rattle.wasm_syntax.specs.FlatForm.{is_simple}
use Rattle.wasm_syntax.specs.Trees.{instruction_of}
use Rattle.wasm_typing.specs.declared.fault.ValidWord.{ValidWord}
use Rattle.wasm_typing.specs.Typing.{Types, Context, Turns, Takes, num_takes, PlainTyped, InstructionTyped}
use Rattle.wasm_typing.specs.faults.Faults.{first_failing, conditions}
use Rattle.body_check.specs.words.Operands.{StandsFor}
use Rattle.body_check.proofs.ActLemmas.{looked_up, looked_up_with, guarded, need_stuck, targets_there}
use Rattle.validity_laws.proofs.Known.{Decided, Moves, moves_as, less, at_most, turning, leaving, stopping, dropping, selecting}

-- ---- what an instruction needs beside its operands

none_is_some : {X : Type 0} (x : X) → None ≡ Some x → ⊥
none_is_some x e = cc

-- something that is looked up
found : {X : Type 0} (P : Types → Type 0) (o : Option X) (F : X → Types → Types → Type 0) → ((x : X) → Moves P (F x)) → Moves P (λ ins outs. (y : X) × (o ≡ Some y) × F y ins outs)
found {X} P o F moves = by_option o refl
  where
    by_option : (p : Option X) → o ≡ p → Moves P (λ ins outs. (y : X) × (o ≡ Some y) × F y ins outs)
    by_option None e = inr (λ ins outs p r. none_is_some r.0 (sym e ∙ r.1))
    by_option (Some x) e = moves_as P (F x) (λ ins outs. (y : X) × (o ≡ Some y) × F y ins outs) (looked_up o x F e) (moves x)

-- the same, where one more thing holds of it
found_with : {X : Type 0} (P : Types → Type 0) (o : Option X) (G : X → Type 0) (F : X → Types → Types → Type 0) → ((x : X) → o ≡ Some x → Decided (G x)) → ((x : X) → Moves P (F x)) →
    Moves P (λ ins outs. (y : X) × (o ≡ Some y) × G y × F y ins outs)
found_with {X} P o G F holds moves = by_option o refl
  where
    some_same : (x y : X) → Some x ≡ Some y → x ≡ y
    some_same x y e = cc

    by_test : (x : X) → o ≡ Some x → Decided (G x) → Moves P (λ ins outs. (y : X) × (o ≡ Some y) × G y × F y ins outs)
    by_test x e (inl g) = moves_as P (F x) (λ ins outs. (y : X) × (o ≡ Some y) × G y × F y ins outs) (looked_up_with o x G F e g) (moves x)
    by_test x e (inr never) = inr (λ ins outs p r. never (subst G (some_same r.0 x (sym r.1 ∙ e)) r.2))

    by_option : (p : Option X) → o ≡ p → Moves P (λ ins outs. (y : X) × (o ≡ Some y) × G y × F y ins outs)
    by_option None e = inr (λ ins outs p r. none_is_some r.0 (sym e ∙ r.1))
    by_option (Some x) e = by_test x e (holds x e)

-- where something holds
where_so : (P : Types → Type 0) (A : Type 0) (R : Types → Types → Type 0) → Decided A → Moves P R → Moves P (λ ins outs. A × R ins outs)
where_so P A R (inl a) moves = moves_as P R (λ ins outs. A × R ins outs) (guarded A R a) moves
where_so P A R (inr never) moves = inr (λ ins outs p r. never r.0)

where_both : (P : Types → Type 0) (A B : Type 0) (R : Types → Types → Type 0) → Decided A → Decided B → Moves P R → Moves P (λ ins outs. A × B × R ins outs)
where_both P A B R (inl a) (inl b) moves = moves_as P R (λ ins outs. A × B × R ins outs) (λ ins outs r. (a, b, r), λ ins outs s. s.2) moves
where_both P A B R (inl a) (inr never) moves = inr (λ ins outs p r. never r.1)
where_both P A B R (inr never) b moves = inr (λ ins outs p r. never r.0)

a_test : (b : Bool) → Decided (b ≡ true)
a_test true = inl refl
a_test false = inr (λ e. cc)

-- ---- each instruction

plain_moves : (c : Context) (op : Plain) (ks : List (Option ValType)) (dead : Bool) → Moves (StandsFor ks dead) (PlainTyped c op)
plain_moves c plain.Unreachable ks dead = stopping ks dead
plain_moves c plain.Nop ks dead = turning [] [] ks dead
plain_moves c plain.Return ks dead = leaving c.results ks dead
plain_moves c plain.Drop ks dead = dropping ks dead
plain_moves c plain.Select ks dead = selecting ks dead
plain_moves c plain.MemorySize ks dead = where_so (StandsFor ks dead) (0 < length c.memories) (Turns [] (I32 ∷ [])) (less 0 (length c.memories)) (turning [] (I32 ∷ []) ks dead)
plain_moves c plain.MemoryGrow ks dead = where_so (StandsFor ks dead) (0 < length c.memories) (Turns (I32 ∷ []) (I32 ∷ [])) (less 0 (length c.memories)) (turning (I32 ∷ []) (I32 ∷ []) ks dead)

-- `br_table`, by whether all its targets take the same
table_moves : (c : Context) (labels : List Types) (ls : List ℕ) (l : ℕ) (ks : List (Option ValType)) (dead : Bool) →
    Moves (StandsFor ks dead) (InstructionTyped c labels (instruction_of (source.BrTable ls l)))
table_moves c labels ls l ks dead = by_fault (first_failing (conditions c labels (source.BrTable ls l))) refl
  where
    by_fault : (o : Option ValidWord) → first_failing (conditions c labels (source.BrTable ls l)) ≡ o → Moves (StandsFor ks dead) (InstructionTyped c labels (instruction_of (source.BrTable ls l)))
    by_fault (Some w) e = inr (need_stuck (StandsFor ks dead) c labels (source.BrTable ls l) w refl e).0
    by_fault None e =
        found_with (StandsFor ks dead) (slice_get labels l) (λ ts. All (λ k. slice_get labels k ≡ Some ts) ls) (λ ts ins outs. Takes (I32 ∷ ts) ins)
        (λ ts there. inl (targets_there c labels ls l ts e there)) (λ ts. leaving (I32 ∷ ts) ks dead)

pub simple_moves : (c : Context) (labels : List Types) (i : Instr) (ks : List (Option ValType)) (dead : Bool) → is_simple i ≡ true →
    Moves (StandsFor ks dead) (InstructionTyped c labels (instruction_of i))
simple_moves c labels (source.Plain op) ks dead s = plain_moves c op ks dead
simple_moves c labels (source.Num op) ks dead s = turning (num_takes op) (result_type op ∷ []) ks dead
simple_moves c labels (source.Const value) ks dead s = turning [] (type_of value ∷ []) ks dead
simple_moves c labels (source.LocalGet x) ks dead s = found (StandsFor ks dead) (slice_get c.locals x) (λ t. Turns [] (t ∷ [])) (λ t. turning [] (t ∷ []) ks dead)
simple_moves c labels (source.LocalSet x) ks dead s = found (StandsFor ks dead) (slice_get c.locals x) (λ t. Turns (t ∷ []) []) (λ t. turning (t ∷ []) [] ks dead)
simple_moves c labels (source.LocalTee x) ks dead s = found (StandsFor ks dead) (slice_get c.locals x) (λ t. Turns (t ∷ []) (t ∷ [])) (λ t. turning (t ∷ []) (t ∷ []) ks dead)
simple_moves c labels (source.GlobalGet x) ks dead s =
    found (StandsFor ks dead) (slice_get c.globals x) (λ (g : GlobalType). Turns [] (g.value ∷ [])) (λ (g : GlobalType). turning [] (g.value ∷ []) ks dead)
simple_moves c labels (source.GlobalSet x) ks dead s =
    found_with (StandsFor ks dead) (slice_get c.globals x) (λ (g : GlobalType). g.mutable ≡ true) (λ (g : GlobalType). Turns (g.value ∷ []) []) (λ (g : GlobalType) e. a_test g.mutable) (λ (g : GlobalType). turning (g.value ∷ []) [] ks dead)
simple_moves c labels (source.Load op align offset) ks dead s =
    where_both (StandsFor ks dead) (0 < length c.memories) (2 ^ align ≤ bytes_loaded op) (Turns (I32 ∷ []) (loaded_type op ∷ []))
    (less 0 (length c.memories)) (at_most (2 ^ align) (bytes_loaded op)) (turning (I32 ∷ []) (loaded_type op ∷ []) ks dead)
simple_moves c labels (source.Store op align offset) ks dead s =
    where_both (StandsFor ks dead) (0 < length c.memories) (2 ^ align ≤ bytes_stored op) (Turns (stored_type op ∷ I32 ∷ []) [])
    (less 0 (length c.memories)) (at_most (2 ^ align) (bytes_stored op)) (turning (stored_type op ∷ I32 ∷ []) [] ks dead)
simple_moves c labels (source.Block' ty n body) ks dead s = absurd cc
simple_moves c labels (source.Loop' ty n body) ks dead s = absurd cc
simple_moves c labels (source.If' ty n first other) ks dead s = absurd cc
simple_moves c labels (source.Br l) ks dead s = found (StandsFor ks dead) (slice_get labels l) (λ ts ins outs. Takes ts ins) (λ ts. leaving ts ks dead)
simple_moves c labels (source.BrIf l) ks dead s = found (StandsFor ks dead) (slice_get labels l) (λ ts. Turns (I32 ∷ ts) ts) (λ ts. turning (I32 ∷ ts) ts ks dead)
simple_moves c labels (source.BrTable ls l) ks dead s = table_moves c labels ls l ks dead
simple_moves c labels (source.Call f) ks dead s =
    found (StandsFor ks dead) (slice_get c.funcs f) (λ (ty : FuncType). Turns (reverse ty.params) (reverse ty.results)) (λ (ty : FuncType). turning (reverse ty.params) (reverse ty.results) ks dead)
simple_moves c labels (source.CallIndirect t) ks dead s =
    where_so (StandsFor ks dead) (0 < length c.tables) (λ ins outs. (ty : FuncType) × (slice_get c.types t ≡ Some ty) × Turns (I32 ∷ reverse ty.params) (reverse ty.results) ins outs)
    (less 0 (length c.tables))
    (found (StandsFor ks dead) (slice_get c.types t) (λ (ty : FuncType). Turns (I32 ∷ reverse ty.params) (reverse ty.results)) (λ (ty : FuncType). turning (I32 ∷ reverse ty.params) (reverse ty.results) ks dead))

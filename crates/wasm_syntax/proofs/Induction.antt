-- Induction over instructions and their lists: what holds of instructions that hold no others, and passes from the sides of a
-- block, of a loop and of an `if` to it, holds of all.
use Rattle.std.proofs.Common.{◌≡◌, true, List, [], ◌∷◌, map, Option, Some, None, refl, sym, subst}
use Rattle.wasm_values.specs.declared.number.ValType.{ValType}
use Rattle.wasm_syntax.specs.declared.instr.Instr.{Instr, Plain, Num, Const, LocalGet, LocalSet, LocalTee, GlobalGet, GlobalSet, Load, Store, Br, BrIf, BrTable, Call, CallIndirect}
use Rattle.wasm_syntax.specs.declared.instr.Instr.TheVariants as instr
use Rattle.wasm_syntax.specs.declared.instr.Instr.TheOpen.{Instr-F}
use Rattle.wasm_syntax.specs.declared.instr.Instr.TheOpen as layer
use Rattle.wasm_syntax.specs.declared.instr.Instr.TheViews.{roll-Instr}
use Rattle.wasm_syntax.specs.declared.instr.Instr.TheFolds.{map-Instr, ind-Instr}
use Rattle.wasm_syntax.specs.FlatForm.{is_simple}

-- The cases of an induction: P is of an instruction, and Q of a list of them.
pub record Cases (P : Instr → Type 0) (Q : List Instr → Type 0) : Type 0 where
  pub simple : (i : Instr) → is_simple i ≡ true → P i
  pub block : (ty : Option ValType) (is : List Instr) → Q is → P (instr.Block ty is)
  pub loop : (ty : Option ValType) (is : List Instr) → Q is → P (instr.Loop ty is)
  pub one_side : (ty : Option ValType) (is : List Instr) → Q is → P (instr.If ty is None)
  pub two_sides : (ty : Option ValType) (is others : List Instr) → Q is → Q others → P (instr.If ty is (Some others))
  pub none : Q []
  pub more : (i : Instr) (is : List Instr) → P i → Q is → Q (i ∷ is)

by_items : (P : Instr → Type 0) (Q : List Instr → Type 0) → Cases P Q → (es : List ((i : Instr) × P i)) → Q (map (λ e. e.0) es)
by_items P Q c [] = c.none
by_items P Q c (e ∷ es) = c.more e.0 (map (λ e. e.0) es) e.1 (by_items P Q c es)

by_layer : (P : Instr → Type 0) (Q : List Instr → Type 0) → Cases P Q → (y : Instr-F ((i : Instr) × P i)) →
    P (roll-Instr (map-Instr ((i : Instr) × P i) Instr (λ e. e.0) y))
by_layer P Q c (layer.Plain op) = subst P (sym (instr.rolls-Plain op)) (c.simple (Plain op) refl)
by_layer P Q c (layer.Num op) = subst P (sym (instr.rolls-Num op)) (c.simple (Num op) refl)
by_layer P Q c (layer.Const value) = subst P (sym (instr.rolls-Const value)) (c.simple (Const value) refl)
by_layer P Q c (layer.LocalGet x) = subst P (sym (instr.rolls-LocalGet x)) (c.simple (LocalGet x) refl)
by_layer P Q c (layer.LocalSet x) = subst P (sym (instr.rolls-LocalSet x)) (c.simple (LocalSet x) refl)
by_layer P Q c (layer.LocalTee x) = subst P (sym (instr.rolls-LocalTee x)) (c.simple (LocalTee x) refl)
by_layer P Q c (layer.GlobalGet x) = subst P (sym (instr.rolls-GlobalGet x)) (c.simple (GlobalGet x) refl)
by_layer P Q c (layer.GlobalSet x) = subst P (sym (instr.rolls-GlobalSet x)) (c.simple (GlobalSet x) refl)
by_layer P Q c (layer.Load op align offset) = subst P (sym (instr.rolls-Load op align offset)) (c.simple (Load op align offset) refl)
by_layer P Q c (layer.Store op align offset) = subst P (sym (instr.rolls-Store op align offset)) (c.simple (Store op align offset) refl)
by_layer P Q c (layer.Block ty es) = subst P (sym (instr.rolls-Block ty (map (λ e. e.0) es))) (c.block ty (map (λ e. e.0) es) (by_items P Q c es))
by_layer P Q c (layer.Loop ty es) = subst P (sym (instr.rolls-Loop ty (map (λ e. e.0) es))) (c.loop ty (map (λ e. e.0) es) (by_items P Q c es))
by_layer P Q c (layer.If ty es None) = subst P (sym (instr.rolls-If ty (map (λ e. e.0) es) None)) (c.one_side ty (map (λ e. e.0) es) (by_items P Q c es))
by_layer P Q c (layer.If ty es (Some os)) =
    subst P (sym (instr.rolls-If ty (map (λ e. e.0) es) (Some (map (λ e. e.0) os))))
    (c.two_sides ty (map (λ e. e.0) es) (map (λ e. e.0) os) (by_items P Q c es) (by_items P Q c os))
by_layer P Q c (layer.Br l) = subst P (sym (instr.rolls-Br l)) (c.simple (Br l) refl)
by_layer P Q c (layer.BrIf l) = subst P (sym (instr.rolls-BrIf l)) (c.simple (BrIf l) refl)
by_layer P Q c (layer.BrTable ls l) = subst P (sym (instr.rolls-BrTable ls l)) (c.simple (BrTable ls l) refl)
by_layer P Q c (layer.Call f) = subst P (sym (instr.rolls-Call f)) (c.simple (Call f) refl)
by_layer P Q c (layer.CallIndirect t) = subst P (sym (instr.rolls-CallIndirect t)) (c.simple (CallIndirect t) refl)

-- It holds of an instruction.
pub of_instr : (P : Instr → Type 0) (Q : List Instr → Type 0) → Cases P Q → (i : Instr) → P i
of_instr P Q c = ind-Instr P (λ x y is. subst (λ z. P (roll-Instr z)) is (by_layer P Q c y))

-- It holds of a list of instructions.
pub of_instrs : (P : Instr → Type 0) (Q : List Instr → Type 0) → Cases P Q → (is : List Instr) → Q is
of_instrs P Q c [] = c.none
of_instrs P Q c (i ∷ is) = c.more i is (of_instr P Q c i) (of_instrs P Q c is)

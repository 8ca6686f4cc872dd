-- What stands at a place of a body, and where its parts begin.
use Rattle.std.proofs.Common.{◌≡◌, ℕ, ◌+◌, ◌-◌, ◌<◌, ◌≤◌, inl, inr, List, [], ◌∷◌, ◌++◌, length, drop, Option, Some, slice_get, refl, sym, ap, ◌∙◌, arith}
use Rattle.std.proofs.lemmas.List.{length-drop, length-append}
use Rattle.wasm_values.specs.declared.number.ValType.{ValType}
use Rattle.wasm_syntax.specs.declared.instr.Instr.{Instr}
use Rattle.wasm_syntax.specs.declared.flat.Flat.TheVariants.{One, Block, Loop, If, Else, End}
use Rattle.wasm_syntax.specs.FlatForm.{flat_of, flat, flat_body}
use Rattle.wasm_syntax.specs.Sides.{Side, ToEnd, ToElse, flat_sides, sides_from, first_instrs, rest_from, turn_of, EndsAt, TurnsAt, HasNoElse, IsWhole}
use Rattle.wasm_syntax.specs.Trees as tree
use Rattle.wasm_syntax.specs.Trees.{Instruction, Sequence, Empty, Then, IfElse, instruction_of, sequence_of}
use Rattle.wasm_syntax.specs.Places.{size_of, size_of_all, rest_at, OneAt, PartAt, IfAt, IfElseAt, ChoiceAt}
use Rattle.wasm_syntax.proofs.TreeLaws.{instruction_of-Block, instruction_of-Loop, instruction_of-If, instruction_of-IfElse}
use Rattle.wasm_syntax.proofs.PlaceLemmas.{OneAt-sides_from}
use Rattle.wasm_syntax.proofs.RestLaws.{rest_from-zero, rest_from-One, rest_from-Else, rest_from-End, rest_from-Block, rest_from-Loop, rest_from-If, rest_from-If_Else, next_within, flat_sides-sides_from, live_at, IsWhole-EndsAt}
use Rattle.wasm_syntax.proofs.PlaceLaws.{length-flat_of, length-flat}

-- the whole body is left at its first place
pub rest_at-zero : (body : List Instr) → rest_at body 0 ≡ sequence_of body
unfolding rest_at
rest_at-zero body = ap sequence_of (rest_from-zero body)

pub rest_at-Else : (body : List Instr) (p : ℕ) → slice_get (flat_body body) p ≡ Some Else → rest_at body p ≡ Empty
unfolding rest_at
rest_at-Else body p h = ap sequence_of (rest_from-Else body p h)

pub rest_at-End : (body : List Instr) (p : ℕ) → slice_get (flat_body body) p ≡ Some End → rest_at body p ≡ Empty
unfolding rest_at
rest_at-End body p h = ap sequence_of (rest_from-End body p h)

pub OneAt-item : (body : List Instr) (p : ℕ) (i : Instr) → slice_get (flat_body body) p ≡ Some (One i) → OneAt body p i
unfolding rest_at
OneAt-item body p i h =
    let l = live_at body p (One i) h in
    record {
      simple = (OneAt-sides_from (flat_body body) p i l.first l.others h l.is).simple;
      within = next_within body p (One i) h (λ e. cc);
      rest = ap sequence_of (rest_from-One body p i h);
    }

first_is : (i j : Instruction) (s t : Sequence) → Then i s ≡ Then j t → i ≡ j
first_is i j s t e = cc

size_by : (n p q m k : ℕ) → q < n → n - p ≡ k + (n - q) → k ≡ m → 0 < m → q ≡ p + m
size_by n p q m k h e f g = omega arith

some_size : (t : Instruction) → 0 < size_of t
some_size (tree.Block ty body) = omega arith
some_size (tree.Loop ty body) = omega arith
some_size (tree.If ty first) = omega arith
some_size (IfElse ty first second) = omega arith
some_size (tree.Plain op) = omega arith
some_size (tree.Num op) = omega arith
some_size (tree.Const value) = omega arith
some_size (tree.LocalGet x) = omega arith
some_size (tree.LocalSet x) = omega arith
some_size (tree.LocalTee x) = omega arith
some_size (tree.GlobalGet x) = omega arith
some_size (tree.GlobalSet x) = omega arith
some_size (tree.Load op align offset) = omega arith
some_size (tree.Store op align offset) = omega arith
some_size (tree.Br l) = omega arith
some_size (tree.BrIf l) = omega arith
some_size (tree.BrTable ls l) = omega arith
some_size (tree.Call f) = omega arith
some_size (tree.CallIndirect t) = omega arith

-- the place after an instruction, by how many places it takes
whole_size : (body : List Instr) (p q : ℕ) (t : Instruction) (s : Sequence) → IsWhole body p q → rest_at body p ≡ Then t s → q ≡ p + size_of t
unfolding rest_at
whole_size body p q t s w e =
    let is = first_is (instruction_of w.instr) t (sequence_of (rest_from body q)) s (sym (ap sequence_of w.rest) ∙ e) in
    let items = flat_body body in
    let lengths = sym (length-drop p items) ∙ ap length w.items ∙ length-append (flat_of w.instr) (drop q items) ∙ ap (λ n. length (flat_of w.instr) + n) (length-drop q items) in
    size_by (length items) p q (size_of t) (length (flat_of w.instr)) w.within lengths (length-flat_of w.instr ∙ ap size_of is) (some_size t)

part_at : (body : List Instr) (p e : ℕ) (part : Sequence → Instruction) → IsWhole body p (e + 1) → p + 1 ≤ e →
    rest_at body p ≡ Then (part (rest_at body (p + 1))) (rest_at body (e + 1)) → PartAt body p part (p + 1) (e + 1)
part_at body p e part w h r =
    record { begins = refl; ends = whole_size body p (e + 1) (part (rest_at body (p + 1))) (rest_at body (e + 1)) w r; inner = omega arith; within = w.within; rest = r }

pub PartAt-Block : (body : List Instr) (p e : ℕ) (ty : Option ValType) → slice_get (flat_body body) p ≡ Some (Block ty) → EndsAt (flat_body body) (p + 1) e →
    PartAt body p (tree.Block ty) (p + 1) (e + 1)
unfolding rest_at
PartAt-Block body p e ty h ends =
    part_at body p e (tree.Block ty) (IsWhole-EndsAt body p e (Block ty) refl h ends) ends.not_before
    (ap sequence_of (rest_from-Block body p e ty h ends) ∙ ap (λ t. Then t (rest_at body (e + 1))) (instruction_of-Block ty (rest_from body (p + 1))))

pub PartAt-Loop : (body : List Instr) (p e : ℕ) (ty : Option ValType) → slice_get (flat_body body) p ≡ Some (Loop ty) → EndsAt (flat_body body) (p + 1) e →
    PartAt body p (tree.Loop ty) (p + 1) (e + 1)
unfolding rest_at
PartAt-Loop body p e ty h ends =
    part_at body p e (tree.Loop ty) (IsWhole-EndsAt body p e (Loop ty) refl h ends) ends.not_before
    (ap sequence_of (rest_from-Loop body p e ty h ends) ∙ ap (λ t. Then t (rest_at body (e + 1))) (instruction_of-Loop ty (rest_from body (p + 1))))

pub IfAt-item : (body : List Instr) (p e : ℕ) (ty : Option ValType) → slice_get (flat_body body) p ≡ Some (If ty) → EndsAt (flat_body body) (p + 1) e →
    HasNoElse (flat_body body) (p + 1) → IfAt body p ty (p + 1) e (e + 1)
unfolding rest_at
IfAt-item body p e ty h ends none =
    let r : rest_at body p ≡ Then (tree.If ty (rest_at body (p + 1))) (rest_at body (e + 1)) =
    ap sequence_of (rest_from-If body p e ty h ends none) ∙ ap (λ t. Then t (rest_at body (e + 1))) (instruction_of-If ty (rest_from body (p + 1)))
    in
    let size = whole_size body p (e + 1) (tree.If ty (rest_at body (p + 1))) (rest_at body (e + 1)) (IsWhole-EndsAt body p e (If ty) refl h ends) r in
    record { begins = refl; turns = omega arith; ends = refl; empty = rest_at-End body e ends.item; rest = r }

-- the lengths of the items from the first side and from the second
record Turned (ss ts : List Side) : Type 0 where
  size : length (flat_sides ss) ≡ size_of_all (sequence_of (first_instrs ss)) + 1 + length (flat_sides ts)

turned_by : (ss ts : List Side) (others : List Instr) → turn_of ss ≡ Some others → ts ≡ ToEnd others ∷ drop 1 ss → Turned ss ts
unfolding flat_sides
turned_by [] ts others e f = cc
turned_by (ToEnd is ∷ ss) ts others e f = cc
turned_by (ToElse is js ∷ ss) ts others e f =
    let same : js ≡ others = let some : Some js ≡ Some others = e in cc in
    let tail = ap (λ xs. length (flat_sides xs)) f in
    let inner = ap (λ ks. length (flat ks ++ End ∷ flat_sides ss)) same in
    record { size = omega (arith, length-append (flat is) (Else ∷ (flat js ++ End ∷ flat_sides ss)), length-flat is, tail, inner) }

turn_size : (body : List Instr) (p q : ℕ) → p + 1 ≤ q → TurnsAt (flat_body body) (p + 1) q → q ≡ p + 1 + size_of_all (rest_at body (p + 1))
unfolding rest_at
turn_size body p q h turns =
    let items = flat_body body in
    let t = turned_by (sides_from items (p + 1)) (sides_from items (q + 1)) (first_instrs (sides_from items (q + 1))) turns.side turns.around in
    let here = ap length (flat_sides-sides_from body (p + 1)) ∙ length-drop (p + 1) items in
    let there = ap length (flat_sides-sides_from body (q + 1)) ∙ length-drop (q + 1) items in
    let within = turns.within in
    omega (arith, t.size)

pub IfElseAt-item : (body : List Instr) (p q e : ℕ) (ty : Option ValType) → slice_get (flat_body body) p ≡ Some (If ty) → EndsAt (flat_body body) (p + 1) e →
    TurnsAt (flat_body body) (p + 1) q → IfElseAt body p ty (p + 1) (q + 1) (e + 1)
unfolding rest_at
IfElseAt-item body p q e ty h ends turns =
    let r : rest_at body p ≡ Then (IfElse ty (rest_at body (p + 1)) (rest_at body (q + 1))) (rest_at body (e + 1)) =
    ap sequence_of (rest_from-If_Else body p q e ty h ends turns) ∙
    ap (λ t. Then t (rest_at body (e + 1))) (instruction_of-IfElse ty (rest_from body (p + 1)) (rest_from body (q + 1)))
    in
    let turn = turn_size body p q turns.not_before turns in
    let size = whole_size body p (e + 1) (IfElse ty (rest_at body (p + 1)) (rest_at body (q + 1))) (rest_at body (e + 1)) (IsWhole-EndsAt body p e (If ty) refl h ends) r in
    record { begins = refl; turns = omega arith; ends = omega arith; rest = r }

pub ChoiceAt-If : (body : List Instr) (p e : ℕ) (ty : Option ValType) → slice_get (flat_body body) p ≡ Some (If ty) → EndsAt (flat_body body) (p + 1) e →
    HasNoElse (flat_body body) (p + 1) → ChoiceAt body p ty (p + 1) e (e + 1)
ChoiceAt-If body p e ty h ends none =
    record {
      begins = refl;
      inner = ends.not_before;
      outer = omega arith;
      within = (IsWhole-EndsAt body p e (If ty) refl h ends).within;
      sides = inl (IfAt-item body p e ty h ends none);
    }

pub ChoiceAt-IfElse : (body : List Instr) (p q e : ℕ) (ty : Option ValType) → slice_get (flat_body body) p ≡ Some (If ty) → EndsAt (flat_body body) (p + 1) e →
    TurnsAt (flat_body body) (p + 1) q → ChoiceAt body p ty (p + 1) (q + 1) (e + 1)
ChoiceAt-IfElse body p q e ty h ends turns =
    let a = IfElseAt-item body p q e ty h ends turns in
    let turn = a.turns in
    let end = a.ends in
    record {
      begins = refl;
      inner = omega arith;
      outer = omega arith;
      within = (IsWhole-EndsAt body p e (If ty) refl h ends).within;
      sides = inr a;
    }

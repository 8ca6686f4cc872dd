-- Instructions and their parts stand at their numbers.
use Rattle.std.proofs.Common.{◌≡◌, ℕ, suc, ◌+◌, ◌-◌, ◌<◌, inl, inr, List, [], ◌∷◌, ◌++◌, length, drop, get_or, Option, Some, slice_get, refl, sym, ap, ◌∙◌, arith, append_assoc}
use Rattle.std.proofs.Math.Seq.{drop-append_seam}
use Rattle.std.proofs.lemmas.List.{length-drop, length-append, drop-drop, get_or-drop}
use Rattle.std.proofs.lemmas.Option.{slice_get_read}
use Rattle.wasm_values.specs.declared.number.ValType.{ValType}
use Rattle.wasm_syntax.specs.declared.instr.Instr.{Instr}
use Rattle.wasm_syntax.specs.declared.instr.Instr.TheVariants as instr
use Rattle.wasm_syntax.specs.declared.flat.Flat.{Flat}
use Rattle.wasm_syntax.specs.declared.flat.Flat.TheVariants.{Block, Loop, If, Else, End}
use Rattle.wasm_syntax.specs.FlatForm.{flat_of, flat, flat_body}
use Rattle.wasm_syntax.specs.Sides.{Side, ToEnd, ToElse, instrs_of, after, read, flat_sides, sides_in, sides_from, first_instrs}
use Rattle.wasm_syntax.specs.Trees as tree
use Rattle.wasm_syntax.specs.Trees.{Instruction, Sequence, Then, IfElse, instruction_of, sequence_of, instr_from, instrs_from}
use Rattle.wasm_syntax.specs.Places.{size_of, size_of_all, rest_at, item_of, StopsAt, HasPartsAt, InstructionAt}
use Rattle.wasm_syntax.proofs.FlatLemmas.{flat_of-Block, flat_of-Loop, flat_of-If, flat_of-If_Else, flat_of-simple}
use Rattle.wasm_syntax.proofs.SideLemmas.{read-flat_sides, flat_sides-after}
use Rattle.wasm_syntax.proofs.TreeLaws.{instr_from-instruction_of, sequence_of-instrs_from}
use Rattle.wasm_syntax.proofs.PlaceLemmas.{open_within, cons_of}
use Rattle.wasm_syntax.proofs.RestLaws.{flat_sides-sides_from, live}
use Rattle.wasm_syntax.proofs.PlaceLaws.{length-flat, size_from, size_from_all}

-- ---- from one place to a later one

item_by : (items : List Flat) (p : ℕ) (x : Flat) (xs : List Flat) → drop p items ≡ x ∷ xs → slice_get items p ≡ Some x
item_by items p x xs e =
    let left : suc (length xs) ≡ length items - p = sym (ap length e) ∙ length-drop p items in
    let h : p < length items = omega arith in
    let first : get_or items (p + 0) x ≡ x = sym (get_or-drop p items 0 x) ∙ ap (λ ys. get_or ys 0 x) e in
    slice_get_read items (length items) p x refl h (sym first ∙ ap (λ n. get_or items n x) (omega arith))

sides_from-drop : (items : List Flat) (q : ℕ) (ts : List Side) → drop q items ≡ flat_sides ts → sides_from items q ≡ ts
unfolding sides_from
sides_from-drop items q ts e = ap (λ xs. sides_in (read xs)) e ∙ ap sides_in (read-flat_sides ts)

-- the items between two places
module _ (body : List Instr) (p q : ℕ) (ss ts : List Side) (xs : List Flat) (here : sides_from (flat_body body) p ≡ ss) (items : flat_sides ss ≡ xs ++ flat_sides ts) (far : q ≡ p + length xs) where
  drop_there : drop q (flat_body body) ≡ flat_sides ts
  drop_there =
      ap (λ n. drop n (flat_body body)) far ∙ sym (drop-drop (length xs) p (flat_body body)) ∙
      ap (drop (length xs)) (sym (flat_sides-sides_from body p) ∙ ap flat_sides here ∙ items) ∙ drop-append_seam xs (flat_sides ts)

  sides_there : sides_from (flat_body body) q ≡ ts
  sides_there = sides_from-drop (flat_body body) q ts drop_there

item_at : (body : List Instr) (p : ℕ) (ss : List Side) (x : Flat) (xs : List Flat) → sides_from (flat_body body) p ≡ ss → flat_sides ss ≡ x ∷ xs → slice_get (flat_body body) p ≡ Some x
item_at body p ss x xs here items = item_by (flat_body body) p x xs (sym (flat_sides-sides_from body p) ∙ ap flat_sides here ∙ items)

rest_by : (body : List Instr) (p : ℕ) (s : Side) (ss : List Side) → sides_from (flat_body body) p ≡ s ∷ ss → rest_at body p ≡ sequence_of (instrs_of s)
unfolding rest_at
rest_by body p s ss e = ap (λ xs. sequence_of (first_instrs xs)) e

-- ---- an instruction that is next

record Front (i : Instruction) (s : Sequence) (ss : List Side) : Type 0 where
  side : Side
  outer : List Side
  is : ss ≡ after (instr_from i ∷ []) side ∷ outer
  rest : sequence_of (instrs_of side) ≡ s

first_is : (i j : Instruction) (s t : Sequence) → Then i s ≡ Then j t → j ≡ i
first_is i j s t e = cc

rest_is : (i j : Instruction) (s t : Sequence) → Then i s ≡ Then j t → s ≡ t
rest_is i j s t e = cc

front : (i : Instruction) (s : Sequence) (ss : List Side) → sequence_of (first_instrs ss) ≡ Then i s → Front i s ss
front i s [] e = cc
front i s (ToEnd [] ∷ ss) e = cc
front i s (ToEnd (j ∷ js) ∷ ss) e =
    let same : j ≡ instr_from i = sym (instr_from-instruction_of j) ∙ sym (ap instr_from (first_is (instruction_of j) i (sequence_of js) s e)) in
    record { side = ToEnd js; outer = ss; is = ap (λ k. ToEnd (k ∷ js) ∷ ss) same; rest = rest_is (instruction_of j) i (sequence_of js) s e }
front i s (ToElse [] others ∷ ss) e = cc
front i s (ToElse (j ∷ js) others ∷ ss) e =
    let same : j ≡ instr_from i = sym (instr_from-instruction_of j) ∙ sym (ap instr_from (first_is (instruction_of j) i (sequence_of js) s e)) in
    record { side = ToElse js others; outer = ss; is = ap (λ k. ToElse (k ∷ js) others ∷ ss) same; rest = rest_is (instruction_of j) i (sequence_of js) s e }

front_at : (body : List Instr) (p : ℕ) (i : Instruction) (s : Sequence) → rest_at body p ≡ Then i s → Front i s (sides_from (flat_body body) p)
unfolding rest_at
front_at body p i s e = front i s (sides_from (flat_body body) p) e

-- ---- its parts

-- the items of a tree, its own item first
abbrev Begins : Instruction → Type 0
Begins i = (xs : List Flat) × (flat_of (instr_from i) ≡ item_of i ∷ xs)

begins : (i : Instruction) → Begins i
begins (tree.Block ty body) = (_, flat_of-Block ty (instrs_from body))
begins (tree.Loop ty body) = (_, flat_of-Loop ty (instrs_from body))
begins (tree.If ty first) = (_, flat_of-If ty (instrs_from first))
begins (IfElse ty first second) = (_, flat_of-If_Else ty (instrs_from first) (instrs_from second))
begins (tree.Plain op) = ([], flat_of-simple (instr.Plain op) refl)
begins (tree.Num op) = ([], flat_of-simple (instr.Num op) refl)
begins (tree.Const value) = ([], flat_of-simple (instr.Const value) refl)
begins (tree.LocalGet x) = ([], flat_of-simple (instr.LocalGet x) refl)
begins (tree.LocalSet x) = ([], flat_of-simple (instr.LocalSet x) refl)
begins (tree.LocalTee x) = ([], flat_of-simple (instr.LocalTee x) refl)
begins (tree.GlobalGet x) = ([], flat_of-simple (instr.GlobalGet x) refl)
begins (tree.GlobalSet x) = ([], flat_of-simple (instr.GlobalSet x) refl)
begins (tree.Load op align offset) = ([], flat_of-simple (instr.Load op align offset) refl)
begins (tree.Store op align offset) = ([], flat_of-simple (instr.Store op align offset) refl)
begins (tree.Br l) = ([], flat_of-simple (instr.Br l) refl)
begins (tree.BrIf l) = ([], flat_of-simple (instr.BrIf l) refl)
begins (tree.BrTable ls l) = ([], flat_of-simple (instr.BrTable ls l) refl)
begins (tree.Call f) = ([], flat_of-simple (instr.Call f) refl)
begins (tree.CallIndirect t) = ([], flat_of-simple (instr.CallIndirect t) refl)

-- the inside of a part that ends
inside_at : (body : List Instr) (p : ℕ) (x : Flat) (is : List Instr) (t : Instruction) (side : Side) (outer ss : List Side) →
    sides_from (flat_body body) p ≡ ss → flat_sides ss ≡ flat_of (instr_from t) ++ flat_sides (side ∷ outer) →
    flat_of (instr_from t) ≡ x ∷ (flat is ++ End ∷ []) → rest_at body (p + 1) ≡ sequence_of is
unfolding flat_sides
inside_at body p x is t side outer ss here items form =
    rest_by body (p + 1) (ToEnd is) (side ∷ outer) (
    sides_there body p (p + 1) ss (ToEnd is ∷ side ∷ outer) (x ∷ []) here (
    items ∙ ap (λ xs. xs ++ flat_sides (side ∷ outer)) form ∙ ap (λ xs. x ∷ xs) (append_assoc (flat is) (End ∷ []) (flat_sides (side ∷ outer)))
    ) refl
    )

-- both sides of an `if`
abbrev SidesAt : List Instr → ℕ → List Instr → List Instr → Type 0
SidesAt body p is others =
    (rest_at body (p + 1) ≡ sequence_of is) ×
    (slice_get (flat_body body) (p + 1 + length (flat is)) ≡ Some Else) ×
    (rest_at body (p + 1 + length (flat is) + 1) ≡ sequence_of others)

sides_at : (body : List Instr) (p : ℕ) (x : Flat) (is others : List Instr) (t : Instruction) (side : Side) (outer ss : List Side) →
    sides_from (flat_body body) p ≡ ss → flat_sides ss ≡ flat_of (instr_from t) ++ flat_sides (side ∷ outer) →
    flat_of (instr_from t) ≡ x ∷ (flat is ++ Else ∷ (flat others ++ End ∷ [])) → SidesAt body p is others
unfolding flat_sides
sides_at body p x is others t side outer ss here items form =
    let tail = flat_sides (side ∷ outer) in
    let first = sides_there body p (p + 1) ss (ToElse is others ∷ side ∷ outer) (x ∷ []) here (
    items ∙ ap (λ xs. xs ++ tail) form ∙ ap (λ xs. x ∷ xs) (append_assoc (flat is) (Else ∷ (flat others ++ End ∷ [])) tail) ∙
    ap (λ xs. x ∷ (flat is ++ Else ∷ xs)) (append_assoc (flat others) (End ∷ []) tail)
    ) refl in
    let turn = sides_there body (p + 1) (p + 1 + length (flat is)) (ToElse is others ∷ side ∷ outer) (ToElse [] others ∷ side ∷ outer) (flat is) first refl refl in
    let second = sides_there body (p + 1 + length (flat is)) (p + 1 + length (flat is) + 1) (ToElse [] others ∷ side ∷ outer) (ToEnd others ∷ side ∷ outer) (Else ∷ []) turn refl refl in (
      rest_by body (p + 1) (ToElse is others) (side ∷ outer) first,
      item_at body (p + 1 + length (flat is)) (ToElse [] others ∷ side ∷ outer) Else (flat others ++ End ∷ flat_sides (side ∷ outer)) turn refl,
      rest_by body (p + 1 + length (flat is) + 1) (ToEnd others) (side ∷ outer) second,
    )

sides_numbered : (body : List Instr) (p : ℕ) (ty : Option ValType) (first second : Sequence) → SidesAt body p (instrs_from first) (instrs_from second) → HasPartsAt body p (IfElse ty first second)
sides_numbered body p ty first second a =
    let size = size_from_all first in (
      a.0 ∙ sequence_of-instrs_from first,
      ap (λ n. slice_get (flat_body body) (p + 1 + n)) (sym size) ∙ a.1,
      ap (λ n. rest_at body (p + 1 + n + 1)) (sym size) ∙ a.2 ∙ sequence_of-instrs_from second,
    )

parts_at : (body : List Instr) (p : ℕ) (t : Instruction) (side : Side) (outer ss : List Side) →
    sides_from (flat_body body) p ≡ ss → flat_sides ss ≡ flat_of (instr_from t) ++ flat_sides (side ∷ outer) → HasPartsAt body p t
parts_at body p (tree.Block ty inside) side outer ss here items =
    inside_at body p (Block ty) (instrs_from inside) (tree.Block ty inside) side outer ss here items (flat_of-Block ty (instrs_from inside)) ∙ sequence_of-instrs_from inside
parts_at body p (tree.Loop ty inside) side outer ss here items =
    inside_at body p (Loop ty) (instrs_from inside) (tree.Loop ty inside) side outer ss here items (flat_of-Loop ty (instrs_from inside)) ∙ sequence_of-instrs_from inside
parts_at body p (tree.If ty first) side outer ss here items =
    inside_at body p (If ty) (instrs_from first) (tree.If ty first) side outer ss here items (flat_of-If ty (instrs_from first)) ∙ sequence_of-instrs_from first
parts_at body p (IfElse ty first second) side outer ss here items =
    sides_numbered body p ty first second (
    sides_at body p (If ty) (instrs_from first) (instrs_from second) (IfElse ty first second) side outer ss here items (flat_of-If_Else ty (instrs_from first) (instrs_from second))
    )
parts_at body p (tree.Plain op) side outer ss here items = tt
parts_at body p (tree.Num op) side outer ss here items = tt
parts_at body p (tree.Const value) side outer ss here items = tt
parts_at body p (tree.LocalGet x) side outer ss here items = tt
parts_at body p (tree.LocalSet x) side outer ss here items = tt
parts_at body p (tree.LocalTee x) side outer ss here items = tt
parts_at body p (tree.GlobalGet x) side outer ss here items = tt
parts_at body p (tree.GlobalSet x) side outer ss here items = tt
parts_at body p (tree.Load op align offset) side outer ss here items = tt
parts_at body p (tree.Store op align offset) side outer ss here items = tt
parts_at body p (tree.Br l) side outer ss here items = tt
parts_at body p (tree.BrIf l) side outer ss here items = tt
parts_at body p (tree.BrTable ls l) side outer ss here items = tt
parts_at body p (tree.Call f) side outer ss here items = tt
parts_at body p (tree.CallIndirect t) side outer ss here items = tt

-- an instruction that is left next at a place stands there, and what is left after it comes after its own places
pub InstructionAt-rest_at : (body : List Instr) (p : ℕ) (i : Instruction) (s : Sequence) → rest_at body p ≡ Then i s → InstructionAt body p i s
InstructionAt-rest_at body p i s e =
    let f = front_at body p i s e in
    let items = ap flat_sides f.is ∙ flat_sides-after (instr_from i) f.side f.outer in
    let b = begins i in
    let far : p + size_of i ≡ p + length (flat_of (instr_from i)) = ap (λ n. p + n) (sym (size_from i)) in
    let there = sides_there body p (p + size_of i) (sides_from (flat_body body) p) (f.side ∷ f.outer) (flat_of (instr_from i)) refl items far in
    record {
      item = item_at body p (sides_from (flat_body body) p) (item_of i) (b.0 ++ flat_sides (f.side ∷ f.outer)) refl (items ∙ ap (λ xs. xs ++ flat_sides (f.side ∷ f.outer)) b.1);
      within = open_within (flat_body body) (p + size_of i) f.side f.outer there;
      rest = rest_by body (p + size_of i) f.side f.outer there ∙ f.rest;
      parts = parts_at body p i f.side f.outer (sides_from (flat_body body) p) refl items;
    }

stops_by : (body : List Instr) (p q : ℕ) (s : Side) (ss : List Side) → sides_from (flat_body body) p ≡ s ∷ ss → q ≡ p + length (flat (instrs_of s)) → StopsAt body q
unfolding flat_sides
stops_by body p q (ToEnd is) ss here far =
    let there = sides_there body p q (ToEnd is ∷ ss) (ToEnd [] ∷ ss) (flat is) here refl far in
    record { item = inr (item_at body q (ToEnd [] ∷ ss) End (flat_sides ss) there refl); rest = rest_by body q (ToEnd []) ss there }
stops_by body p q (ToElse is others) ss here far =
    let there = sides_there body p q (ToElse is others ∷ ss) (ToElse [] others ∷ ss) (flat is) here refl far in
    record { item = inl (item_at body q (ToElse [] others ∷ ss) Else (flat others ++ End ∷ flat_sides ss) there refl); rest = rest_by body q (ToElse [] others) ss there }

-- what is left of the innermost part stops at an `else` or an `end`, after its own places
pub StopsAt-rest_at : (body : List Instr) (p : ℕ) → p < length (flat_body body) → StopsAt body (p + size_of_all (rest_at body p))
StopsAt-rest_at body p h =
    let c = cons_of (sides_from (flat_body body) p) (live body p h) in
    stops_by body p (p + size_of_all (rest_at body p)) c.first c.others c.is (
    ap (λ n. p + n) (ap size_of_all (rest_by body p c.first c.others c.is) ∙ sym (length-flat (instrs_of c.first)))
    )

-- a body has as many places as its instructions take, and one for its last `end`
pub length-flat_body : (body : List Instr) → length (flat_body body) ≡ size_of_all (sequence_of body) + 1
length-flat_body body = length-append (flat body) (End ∷ []) ∙ ap (λ n. n + 1) (length-flat body)

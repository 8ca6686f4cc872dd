-- What the walk over a body sums is what its tree sums.
use Rattle.std.proofs.Common.{◌≡◌, ℕ, zero, suc, ◌+◌, ◌-◌, ◌<◌, ◌≤◌, List, [], ◌∷◌, ◌++◌, Option, Some, None, length, drop, slice_get, refl, sym, ap, ◌∙◌, arith, append_assoc, length-append}
use Rattle.std.specs.Prelude.{option_map, option_and_then}
use Rattle.std.proofs.lemmas.Option.{get_or_from_slice_get, slice_get_within}
use Rattle.std.proofs.lemmas.List.{append-nil, at_drop_more, at_drop_all}
use Rattle.wasm_syntax.specs.declared.instr.Instr.{Instr}
use Rattle.wasm_syntax.specs.declared.instr.Instr.TheVariants as instr
use Rattle.wasm_syntax.specs.declared.flat.Flat.{Flat}
use Rattle.wasm_syntax.specs.declared.flat.Flat.TheVariants as flat
use Rattle.wasm_syntax.specs.FlatForm as form
use Rattle.wasm_syntax.specs.FlatForm.{flat_of, flat_body}
use Rattle.wasm_syntax.specs.Trees as tree
use Rattle.wasm_syntax.specs.Trees.{Instruction, Sequence, Empty, Then, IfElse, sequence_of, instr_from, instrs_from}
use Rattle.wasm_syntax.proofs.TreeLaws.{instrs_from-sequence_of}
use Rattle.wasm_syntax.proofs.FlatLemmas.{flat_of-Block, flat_of-If, flat_of-If_Else, flat_of-Loop, flat_of-simple}
use Rattle.step_bound.specs.declared.walk.Part.{Part}
use Rattle.step_bound.specs.words.Sums.{added, joined, sum_with, sum_over, Sums, begun, walked, walked_all, begin}

-- The walk at this sum within these parts.
abbrev at : (steps : ℕ) → List Part → Sums
at steps around = record { steps = steps; around = around }

then_map : {A B C : Type 0} → (f : B → Option C) (g : A → B) (o : Option A) → option_and_then f (option_map g o) ≡ option_and_then (λ x. f (g x)) o
then_map f g None = refl
then_map f g (Some x) = refl

then_then : {A B C : Type 0} → (f : B → Option C) (g : A → Option B) (o : Option A) → option_and_then f (option_and_then g o) ≡ option_and_then (λ x. option_and_then f (g x)) o
then_then f g None = refl
then_then f g (Some x) = refl

then_same : {A B : Type 0} → (f g : A → Option B) → ((x : A) → f x ≡ g x) → (o : Option A) → option_and_then f o ≡ option_and_then g o
then_same f g e None = refl
then_same f g e (Some x) = e x

module _ (known : ℕ → Option ℕ) where
  -- What the walk over more items gives after the sum, if there is one.
  abbrev further : List Part → List Flat → ℕ → Option Sums
  further around xs n = walked_all known (at n around) xs

  -- one item of an instruction that holds no others
  one : (steps : ℕ) (around : List Part) (xs : List Flat) (i : Instr) (o : Option ℕ) → flat_of i ≡ flat.One i ∷ [] → walked known (at steps around) (flat.One i) ≡ option_map (λ n. at n around) o
      → walked_all known (at steps around) (flat_of i ++ xs) ≡ option_and_then (further around xs) o
  one steps around xs i o items e =
      ap (λ ys. walked_all known (at steps around) (ys ++ xs)) items
      ∙ ap (option_and_then (λ next. walked_all known next xs)) e
      ∙ then_map (λ next. walked_all known next xs) (λ n. at n around) o

  -- a part that one item begins, with one side
  one_sided : (steps : ℕ) (around : List Part) (x : Flat) (is : List Instr) (xs : List Flat) (o : Option ℕ)
      → walked known (at steps around) x ≡ Some (begun (at steps around))
      → ((ys : List Flat) → walked_all known (begun (at steps around)) (form.flat is ++ ys) ≡ option_and_then (further (record { before = steps; first = 0 } ∷ around) ys) o)
      → walked_all known (at steps around) ((x ∷ (form.flat is ++ flat.End ∷ [])) ++ xs) ≡ option_and_then (further around xs) (option_map (joined steps 0) o)
  one_sided steps around x is xs o e inner =
      ap (option_and_then (λ next. walked_all known next ((form.flat is ++ flat.End ∷ []) ++ xs))) e
      ∙ ap (walked_all known (begun (at steps around))) (append_assoc (form.flat is) (flat.End ∷ []) xs)
      ∙ inner (flat.End ∷ xs)
      ∙ sym (then_map (further around xs) (joined steps 0) o)

  -- an `if` with two sides
  two_sided : (steps : ℕ) (around : List Part) (ty : _) (is others : List Instr) (xs : List Flat) (o p : Option ℕ)
      → ((ys : List Flat) → walked_all known (begun (at steps around)) (form.flat is ++ ys) ≡ option_and_then (further (record { before = steps; first = 0 } ∷ around) ys) o)
      → ((n : ℕ) (ys : List Flat) → walked_all known (at 0 (record { before = steps; first = n } ∷ around)) (form.flat others ++ ys) ≡ option_and_then (further (record { before = steps; first = n } ∷ around) ys) p)
      → walked_all known (at steps around) ((flat.If ty ∷ (form.flat is ++ flat.Else ∷ (form.flat others ++ flat.End ∷ []))) ++ xs)
      ≡ option_and_then (further around xs) (option_and_then (λ n. option_map (joined steps n) p) o)
  two_sided steps around ty is others xs o p first second =
      ap (walked_all known (begun (at steps around))) (append_assoc (form.flat is) (flat.Else ∷ (form.flat others ++ flat.End ∷ [])) xs)
      ∙ first (flat.Else ∷ ((form.flat others ++ flat.End ∷ []) ++ xs))
      ∙ then_same (further (record { before = steps; first = 0 } ∷ around) (flat.Else ∷ ((form.flat others ++ flat.End ∷ []) ++ xs))) (λ n. option_and_then (further around xs) (option_map (joined steps n) p)) after_first o
      ∙ sym (then_then (further around xs) (λ n. option_map (joined steps n) p) o)
    where
      after_first : (n : ℕ) → walked_all known (at 0 (record { before = steps; first = n } ∷ around)) ((form.flat others ++ flat.End ∷ []) ++ xs) ≡ option_and_then (further around xs) (option_map (joined steps n) p)
      after_first n =
          ap (walked_all known (at 0 (record { before = steps; first = n } ∷ around))) (append_assoc (form.flat others) (flat.End ∷ []) xs)
          ∙ second n (flat.End ∷ xs)
          ∙ sym (then_map (further around xs) (joined steps n) p)

mutual
  over_instruction : (known : ℕ → Option ℕ) (i : Instruction) (steps : ℕ) (around : List Part) (xs : List Flat)
      → walked_all known (at steps around) (flat_of (instr_from i) ++ xs) ≡ option_and_then (further known around xs) (sum_with known i steps)
  over_instruction known (tree.Plain op) steps around xs = one known steps around xs (instr.Plain op) (Some (added steps 1)) (flat_of-simple (instr.Plain op) refl) refl
  over_instruction known (tree.Num op) steps around xs = one known steps around xs (instr.Num op) (Some (added steps 1)) (flat_of-simple (instr.Num op) refl) refl
  over_instruction known (tree.Const value) steps around xs = one known steps around xs (instr.Const value) (Some (added steps 1)) (flat_of-simple (instr.Const value) refl) refl
  over_instruction known (tree.LocalGet x) steps around xs = one known steps around xs (instr.LocalGet x) (Some (added steps 1)) (flat_of-simple (instr.LocalGet x) refl) refl
  over_instruction known (tree.LocalSet x) steps around xs = one known steps around xs (instr.LocalSet x) (Some (added steps 1)) (flat_of-simple (instr.LocalSet x) refl) refl
  over_instruction known (tree.LocalTee x) steps around xs = one known steps around xs (instr.LocalTee x) (Some (added steps 1)) (flat_of-simple (instr.LocalTee x) refl) refl
  over_instruction known (tree.GlobalGet x) steps around xs = one known steps around xs (instr.GlobalGet x) (Some (added steps 1)) (flat_of-simple (instr.GlobalGet x) refl) refl
  over_instruction known (tree.GlobalSet x) steps around xs = one known steps around xs (instr.GlobalSet x) (Some (added steps 1)) (flat_of-simple (instr.GlobalSet x) refl) refl
  over_instruction known (tree.Load op a o) steps around xs = one known steps around xs (instr.Load op a o) (Some (added steps 1)) (flat_of-simple (instr.Load op a o) refl) refl
  over_instruction known (tree.Store op a o) steps around xs = one known steps around xs (instr.Store op a o) (Some (added steps 1)) (flat_of-simple (instr.Store op a o) refl) refl
  over_instruction known (tree.Block ty body) steps around xs =
      ap (λ ys. walked_all known (at steps around) (ys ++ xs)) (flat_of-Block ty (instrs_from body))
      ∙ one_sided known steps around (flat.Block ty) (instrs_from body) xs (sum_over known body 0) refl (over_sequence known body 0 (record { before = steps; first = 0 } ∷ around))
  over_instruction known (tree.Loop ty body) steps around xs =
      ap (λ ys. walked_all known (at steps around) (ys ++ xs)) (flat_of-Loop ty (instrs_from body))
  over_instruction known (tree.If ty first) steps around xs =
      ap (λ ys. walked_all known (at steps around) (ys ++ xs)) (flat_of-If ty (instrs_from first))
      ∙ one_sided known steps around (flat.If ty) (instrs_from first) xs (sum_over known first 0) refl (over_sequence known first 0 (record { before = steps; first = 0 } ∷ around))
  over_instruction known (IfElse ty first second) steps around xs =
      ap (λ ys. walked_all known (at steps around) (ys ++ xs)) (flat_of-If_Else ty (instrs_from first) (instrs_from second))
      ∙ two_sided known steps around ty (instrs_from first) (instrs_from second) xs (sum_over known first 0) (sum_over known second 0)
      (over_sequence known first 0 (record { before = steps; first = 0 } ∷ around))
      (λ n. over_sequence known second 0 (record { before = steps; first = n } ∷ around))
  over_instruction known (tree.Br l) steps around xs = one known steps around xs (instr.Br l) (Some (added steps 1)) (flat_of-simple (instr.Br l) refl) refl
  over_instruction known (tree.BrIf l) steps around xs = one known steps around xs (instr.BrIf l) (Some (added steps 1)) (flat_of-simple (instr.BrIf l) refl) refl
  over_instruction known (tree.BrTable ls l) steps around xs = one known steps around xs (instr.BrTable ls l) (Some (added steps 1)) (flat_of-simple (instr.BrTable ls l) refl) refl
  over_instruction known (tree.Call f) steps around xs = one known steps around xs (instr.Call f) (sum_with known (tree.Call f) steps) (flat_of-simple (instr.Call f) refl) refl
  over_instruction known (tree.CallIndirect t) steps around xs = one known steps around xs (instr.CallIndirect t) None (flat_of-simple (instr.CallIndirect t) refl) refl

  over_sequence : (known : ℕ → Option ℕ) (s : Sequence) (steps : ℕ) (around : List Part) (xs : List Flat)
      → walked_all known (at steps around) (form.flat (instrs_from s) ++ xs) ≡ option_and_then (further known around xs) (sum_over known s steps)
  over_sequence known Empty steps around xs = refl
  over_sequence known (Then i rest) steps around xs =
      ap (walked_all known (at steps around)) (append_assoc (flat_of (instr_from i)) (form.flat (instrs_from rest)) xs)
      ∙ over_instruction known i steps around (form.flat (instrs_from rest) ++ xs)
      ∙ then_same (further known around (form.flat (instrs_from rest) ++ xs)) (λ n. option_and_then (further known around xs) (sum_over known rest n)) (λ n. over_sequence known rest n around xs) (sum_with known i steps)
      ∙ sym (then_then (further known around xs) (sum_over known rest) (sum_with known i steps))

-- ---- a whole body

module _ (known : ℕ → Option ℕ) (body : List Instr) where
  pub over_body : walked_all known begin (form.flat body) ≡ option_map (λ n. at n []) (sum_over known (sequence_of body) 0)
  over_body =
      ap (λ is. walked_all known begin (form.flat is)) (sym (instrs_from-sequence_of body))
      ∙ ap (walked_all known begin) (sym (append-nil (form.flat (instrs_from (sequence_of body)))))
      ∙ over_sequence known (sequence_of body) 0 [] []
      ∙ ends (sum_over known (sequence_of body) 0)
    where
      ends : (o : Option ℕ) → option_and_then (further known [] []) o ≡ option_map (λ n. at n []) o
      ends None = refl
      ends (Some n) = refl

  -- an item before the last is one of the body's
  pub items_before : (n : ℕ) (x : Flat) → n < length (flat_body body) - 1 → slice_get (flat_body body) n ≡ Some x → slice_get (form.flat body) n ≡ Some x
  items_before n x less e = before (form.flat body) n (let l = length-append (form.flat body) (flat.End ∷ []) in omega (arith, l)) e
    where
      before : (xs : List Flat) (n : ℕ) → n < length xs → slice_get (xs ++ flat.End ∷ []) n ≡ Some x → slice_get xs n ≡ Some x
      before [] n h e = absurd (omega arith)
      before (y ∷ ys) zero h e = e
      before (y ∷ ys) (suc n) h e = before ys n (omega arith) e

  -- What is left of the items, from this sum on, gives what the whole gives.
  abbrev pub IsAt : Sums → ℕ → Type 0
  IsAt s n = walked_all known s (drop n (form.flat body)) ≡ walked_all known begin (form.flat body)

  rest_at_item : (n : ℕ) (x : Flat) → n < length (flat_body body) - 1 → slice_get (flat_body body) n ≡ Some x → drop n (form.flat body) ≡ x ∷ drop (n + 1) (form.flat body)
  rest_at_item n x less e =
      let here = items_before n x less e in
      at_drop_more (λ l. l) (form.flat body) n x (slice_get_within (form.flat body) n x here)
      ∙ ap (λ y. y ∷ drop (n + 1) (form.flat body)) (get_or_from_slice_get (form.flat body) n x x here)

  pub goes_on : (n : ℕ) (s next : Sums) (x : Flat) → n < length (flat_body body) - 1 → slice_get (flat_body body) n ≡ Some x → walked known s x ≡ Some next → IsAt s n → IsAt next (n + 1)
  goes_on n s next x less e w h =
      sym (ap (option_and_then (λ t. walked_all known t (drop (n + 1) (form.flat body)))) w)
      ∙ sym (ap (walked_all known s) (rest_at_item n x less e)) ∙ h

  none_of : (o : Option ℕ) → None ≡ option_map (λ n. at n []) o → o ≡ None
  none_of None e = refl
  none_of (Some n) e = cc

  some_of : (o : Option ℕ) (s : Sums) → Some s ≡ option_map (λ n. at n []) o → o ≡ Some s.steps
  some_of None s e = cc
  some_of (Some n) s e = sym (ap (option_map (λ (t : Sums). t.steps)) e)

  pub stops : (n : ℕ) (s : Sums) (x : Flat) → n < length (flat_body body) - 1 → slice_get (flat_body body) n ≡ Some x → walked known s x ≡ None → IsAt s n → sum_over known (sequence_of body) 0 ≡ None
  stops n s x less e w h =
      none_of (sum_over known (sequence_of body) 0)
      (sym (ap (option_and_then (λ t. walked_all known t (drop (n + 1) (form.flat body)))) w)
      ∙ sym (ap (walked_all known s) (rest_at_item n x less e)) ∙ h ∙ over_body)

  pub is_over : (n : ℕ) (s : Sums) → length (flat_body body) - 1 ≤ n → IsAt s n → sum_over known (sequence_of body) 0 ≡ Some s.steps
  is_over n s late h =
      some_of (sum_over known (sequence_of body) 0) s
      (sym (at_drop_all (walked_all known s) (form.flat body) n (let l = length-append (form.flat body) (flat.End ∷ []) in omega (arith, l))) ∙ h ∙ over_body)

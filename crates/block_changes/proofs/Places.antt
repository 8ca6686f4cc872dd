-- The items of a side, and its instructions.
use Rattle.std.proofs.Common.{◌≡◌, ℕ, zero, suc, ◌+◌, ◌<◌, inl, inr, Bool, true, false, ◌||◌, List, length, slice_get, Some, refl, sym, ap, ◌∙◌, subst, arith}
use Rattle.wasm_syntax.specs.declared.flat.Flat.{Flat}
use Rattle.wasm_syntax.specs.declared.flat.Flat.TheVariants.{Block, Loop, If, Else, End}
use Rattle.wasm_syntax.specs.declared.instr.Instr.{Instr}
use Rattle.wasm_syntax.specs.FlatForm.{flat_body}
use Rattle.wasm_syntax.specs.Trees as tree
use Rattle.wasm_syntax.specs.Trees.{Instruction, Sequence, Empty, Then, IfElse, instruction_of, instr_from}
use Rattle.wasm_syntax.specs.Places.{size_of, size_of_all, rest_at, item_of, InstructionAt, StopsAt}
use Rattle.wasm_syntax.proofs.TreeLaws.{instruction_of-instr_from}
use Rattle.wasm_syntax.proofs.NumberLaws as number
use Rattle.outline_rules.specs.Blocks.{has, has_some}
use Rattle.block_changes.specs.words.Effects.{passes}
use Rattle.block_changes.specs.words.Gathered.{passes_at, any_in}

or_apart : (a b c : Bool) → ((a || b) || c) ≡ (a || (b || c))
or_apart true b c = refl
or_apart false b c = refl

or_none : (b : Bool) → (b || false) ≡ b
or_none true = refl
or_none false = refl

module _ (test : Instruction → Bool) (body : List Instr) where
  -- items in two parts
  any-parts : (p m n : ℕ) → any_in test body p (m + n) ≡ (any_in test body p m || any_in test body (p + m) n)
  unfolding any_in
  any-parts p m zero =
      let none : m + 0 ≡ m = omega arith in
      ap (any_in test body p) none ∙ sym (or_none (any_in test body p m))
  any-parts p m (suc n) =
      let more : m + suc n ≡ suc (m + n) = omega arith in
      let place : p + (m + n) ≡ p + m + n = omega arith in
      ap (any_in test body p) more
      ∙ ap (λ b. b || passes_at test (slice_get (flat_body body) (p + (m + n)))) (any-parts p m n)
      ∙ ap (λ k. (any_in test body p m || any_in test body (p + m) n) || passes_at test (slice_get (flat_body body) k)) place
      ∙ or_apart (any_in test body p m) (any_in test body (p + m) n) _

  -- one item
  any-one : (p : ℕ) (x : Flat) → slice_get (flat_body body) p ≡ Some x → any_in test body p 1 ≡ passes test x
  unfolding any_in
  any-one p x here =
      let place : p + 0 ≡ p = omega arith in
      ap (λ k. passes_at test (slice_get (flat_body body) k)) place ∙ ap (passes_at test) here

  any-stop : (p : ℕ) → StopsAt body p → any_in test body p 1 ≡ false
  any-stop p s = elim s.item [ inl e ↦ any-one p Else e | inr e ↦ any-one p End e ]

  -- a part with its first item and that which closes it
  any-part : (p n : ℕ) (x : Flat) (b : Bool) → slice_get (flat_body body) p ≡ Some x → passes test x ≡ false → any_in test body (p + 1) n ≡ b → StopsAt body (p + 1 + n) → any_in test body p (1 + n + 1) ≡ b
  any-part p n x b here none inside stop =
      let place : p + (1 + n) ≡ p + 1 + n = omega arith in
      any-parts p (1 + n) 1
      ∙ ap (λ c. any_in test body p (1 + n) || c) (ap (λ k. any_in test body k 1) place ∙ any-stop (p + 1 + n) stop)
      ∙ or_none (any_in test body p (1 + n))
      ∙ any-parts p 1 n
      ∙ ap (λ c. c || any_in test body (p + 1) n) (any-one p x here ∙ none)
      ∙ inside

  -- a side that another follows
  any-sides : (p m n : ℕ) (a b : Bool) → any_in test body p m ≡ a → slice_get (flat_body body) (p + m) ≡ Some Else → any_in test body (p + m + 1) n ≡ b → any_in test body p (m + 1 + n) ≡ (a || b)
  any-sides p m n a b first turn second =
      let place : p + (m + 1) ≡ p + m + 1 = omega arith in
      any-parts p (m + 1) n
      ∙ ap (λ c. c || any_in test body (p + (m + 1)) n) (any-parts p m 1 ∙ ap (λ c. any_in test body p m || c) (any-one (p + m) Else turn) ∙ or_none (any_in test body p m) ∙ first)
      ∙ ap (λ c. a || c) (ap (λ k. any_in test body k n) place ∙ second)

  stops : (p n : ℕ) (s : Sequence) → p < length (flat_body body) → rest_at body p ≡ s → n ≡ size_of_all s → StopsAt body (p + n)
  stops p n s within rest count =
      subst (λ k. StopsAt body (p + k)) (ap size_of_all rest ∙ sym count) (number.StopsAt-rest_at body p within)

  mutual
    unfolding any_in

    any-instruction : (p : ℕ) (i : Instruction) (s : Sequence) → InstructionAt body p i s → any_in test body p (size_of i) ≡ has test i
    any-instruction p (tree.Block ty inside) s at =
        any-part p (size_of_all inside) (Block ty) (has_some test inside) at.item refl (any-sequence (p + 1) inside at.parts)
        (stops (p + 1) (size_of_all inside) inside (omega (arith, at.within)) at.parts refl)
    any-instruction p (tree.Loop ty inside) s at =
        any-part p (size_of_all inside) (Loop ty) (has_some test inside) at.item refl (any-sequence (p + 1) inside at.parts)
        (stops (p + 1) (size_of_all inside) inside (omega (arith, at.within)) at.parts refl)
    any-instruction p (tree.If ty first) s at =
        any-part p (size_of_all first) (If ty) (has_some test first) at.item refl (any-sequence (p + 1) first at.parts)
        (stops (p + 1) (size_of_all first) first (omega (arith, at.within)) at.parts refl)
    any-instruction p (IfElse ty first second) s at =
        let size : 1 + size_of_all first + 1 + size_of_all second + 1 ≡ 1 + (size_of_all first + 1 + size_of_all second) + 1 = omega arith in
        ap (any_in test body p) size
        ∙ any-part p (size_of_all first + 1 + size_of_all second) (If ty) (has_some test first || has_some test second) at.item refl
        (any-sides (p + 1) (size_of_all first) (size_of_all second) _ _ (any-sequence (p + 1) first at.parts.0) at.parts.1 (any-sequence (p + 1 + size_of_all first + 1) second at.parts.2))
        (subst (StopsAt body) (omega arith)
        (stops (p + 1 + size_of_all first + 1) (size_of_all second) second (omega (arith, at.within)) at.parts.2 refl))
    any-instruction p i s at = any-one p (item_of i) at.item ∙ ap test (instruction_of-instr_from i)

    any-sequence : (p : ℕ) (s : Sequence) → rest_at body p ≡ s → any_in test body p (size_of_all s) ≡ has_some test s
    any-sequence p Empty e = refl
    any-sequence p (Then i rest) e =
        let at = number.InstructionAt-rest_at body p i rest e in
        any-parts p (size_of i) (size_of_all rest)
        ∙ ap (λ b. b || any_in test body (p + size_of i) (size_of_all rest)) (any-instruction p i rest at)
        ∙ ap (λ b. has test i || b) (any-sequence (p + size_of i) rest at.rest)

  -- a side from its first place on
  pub any-side : (p : ℕ) → any_in test body p (size_of_all (rest_at body p)) ≡ has_some test (rest_at body p)
  any-side p = any-sequence p (rest_at body p) refl

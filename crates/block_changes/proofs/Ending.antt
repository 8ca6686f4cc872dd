-- From instruction to instruction of a part.
use Rattle.std.proofs.Common.{◌≡◌, ℕ, ◌+◌, ◌<◌, inl, inr, List, length, Option, IsTrue, refl, ap, arith}
use Rattle.wasm_values.specs.declared.number.ValType.{ValType}
use Rattle.wasm_syntax.specs.declared.instr.Instr.{Instr, Block', Loop', If'}
use Rattle.wasm_syntax.specs.FlatForm.{is_simple, flat_body}
use Rattle.wasm_syntax.specs.Trees as tree
use Rattle.wasm_syntax.specs.Trees.{Instruction, Sequence, Then, instruction_of}
use Rattle.wasm_syntax.specs.Places.{size_of, size_of_all, rest_at, OneAt, PartAt, ChoiceAt}
use Rattle.block_changes.specs.words.Ends.{IsFurther}

size-simple : (i : Instr) → IsTrue (is_simple i) → size_of (instruction_of i) ≡ 1
size-simple (Block' ty n inside) h = cc
size-simple (Loop' ty n inside) h = cc
size-simple (If' ty n first other) h = cc
size-simple i h = refl

module _ (body : List Instr) (p : ℕ) where
  -- an instruction with all in it
  over : (i : Instruction) (q : ℕ) → 0 < size_of i → q ≡ p + size_of i → q < length (flat_body body) → rest_at body p ≡ Then i (rest_at body q) → IsFurther body p q
  over i q some far within rest =
      let size = ap size_of_all rest in
      record {
        further = omega arith;
        within = within;
        same_end = omega arith;
      }

  pub over_one : (i : Instr) → OneAt body p i → IsFurther body p (p + 1)
  over_one i at =
      let one : size_of (instruction_of i) ≡ 1 = size-simple i at.simple in
      over (instruction_of i) (p + 1) (omega arith) (omega arith) at.within at.rest

  pub over_block : (ty : Option ValType) (inside after : ℕ) → PartAt body p (tree.Block ty) inside after → IsFurther body p after
  over_block ty inside after at = over (tree.Block ty (rest_at body inside)) after (omega arith) at.ends at.within at.rest

  pub over_loop : (ty : Option ValType) (inside after : ℕ) → PartAt body p (tree.Loop ty) inside after → IsFurther body p after
  over_loop ty inside after at = over (tree.Loop ty (rest_at body inside)) after (omega arith) at.ends at.within at.rest

  pub over_choice : (ty : Option ValType) (first second after : ℕ) → ChoiceAt body p ty first second after → IsFurther body p after
  over_choice ty first second after at = elim at.sides [
    | inl one ↦
        over (tree.If ty (rest_at body first)) after (omega arith)
        (let begins = one.begins in let turns = one.turns in let ends = one.ends in omega arith) at.within one.rest
    | inr both ↦
        over (tree.IfElse ty (rest_at body first) (rest_at body second)) after (omega arith)
        (let begins = both.begins in let turns = both.turns in let ends = both.ends in omega arith) at.within both.rest
  ]

pub ruleset goings = (over_one, over_block, over_loop, over_choice)

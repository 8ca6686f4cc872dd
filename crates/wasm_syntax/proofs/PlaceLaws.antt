-- Where the parts of instructions stand, by their numbers.
use Rattle.std.proofs.Common.{◌≡◌, ℕ, ◌+◌, true, List, [], ◌∷◌, ◌++◌, length, refl, sym, ap, ◌∙◌, arith}
use Rattle.std.proofs.lemmas.List.{length-append}
use Rattle.wasm_syntax.specs.declared.instr.Instr.{Instr}
use Rattle.wasm_syntax.specs.declared.flat.Flat.{Flat}
use Rattle.wasm_syntax.specs.declared.flat.Flat.TheVariants.{Block, Loop, If, Else, End}
use Rattle.wasm_syntax.specs.FlatForm.{is_simple, flat_of, flat}
use Rattle.wasm_syntax.specs.Trees as tree
use Rattle.wasm_syntax.specs.Trees.{Instruction, Sequence, Empty, Then, IfElse, instruction_of, sequence_of, instr_from, instrs_from}
use Rattle.wasm_syntax.specs.Places.{size_of, size_of_all}
use Rattle.wasm_syntax.proofs.FlatLemmas.{flat_of-Block, flat_of-Loop, flat_of-If, flat_of-If_Else, flat_of-simple}
use Rattle.wasm_syntax.proofs.TreeLaws.{instr_from-instruction_of, instrs_from-sequence_of}

-- ---- how many items an instruction has

part_size : (x : Flat) (is : List Flat) (n : ℕ) → length is ≡ n → length (x ∷ (is ++ End ∷ [])) ≡ 1 + n + 1
part_size x is n e = omega (arith, length-append is (End ∷ []))

sides_size : (x : Flat) (is others : List Flat) (n m : ℕ) → length is ≡ n → length others ≡ m → length (x ∷ (is ++ Else ∷ (others ++ End ∷ []))) ≡ 1 + n + 1 + m + 1
sides_size x is others n m e f = omega (arith, length-append is (Else ∷ (others ++ End ∷ [])), length-append others (End ∷ []))

simple_size : (i : Instr) → is_simple i ≡ true → length (flat_of i) ≡ 1
simple_size i e = ap length (flat_of-simple i e)

mutual
  pub size_from : (t : Instruction) → length (flat_of (instr_from t)) ≡ size_of t
  size_from (tree.Block ty body) = ap length (flat_of-Block ty (instrs_from body)) ∙ part_size (Block ty) (flat (instrs_from body)) (size_of_all body) (size_from_all body)
  size_from (tree.Loop ty body) = ap length (flat_of-Loop ty (instrs_from body)) ∙ part_size (Loop ty) (flat (instrs_from body)) (size_of_all body) (size_from_all body)
  size_from (tree.If ty first) = ap length (flat_of-If ty (instrs_from first)) ∙ part_size (If ty) (flat (instrs_from first)) (size_of_all first) (size_from_all first)
  size_from (IfElse ty first second) =
      ap length (flat_of-If_Else ty (instrs_from first) (instrs_from second)) ∙
      sides_size (If ty) (flat (instrs_from first)) (flat (instrs_from second)) (size_of_all first) (size_of_all second) (size_from_all first) (size_from_all second)
  size_from i = simple_size (instr_from i) refl

  pub size_from_all : (s : Sequence) → length (flat (instrs_from s)) ≡ size_of_all s
  size_from_all Empty = refl
  size_from_all (Then i s) =
      let head = size_from i in
      let others = size_from_all s in
      omega (arith, length-append (flat_of (instr_from i)) (flat (instrs_from s)))

-- an instruction has as many items as its tree takes places
pub length-flat_of : (i : Instr) → length (flat_of i) ≡ size_of (instruction_of i)
length-flat_of i = ap (λ j. length (flat_of j)) (sym (instr_from-instruction_of i)) ∙ size_from (instruction_of i)

pub length-flat : (is : List Instr) → length (flat is) ≡ size_of_all (sequence_of is)
length-flat is = ap (λ js. length (flat js)) (sym (instrs_from-sequence_of is)) ∙ size_from_all (sequence_of is)

-- The trees of instructions are one to one with them.
use Rattle.std.proofs.Common.{◌≡◌, true, List, ◌∷◌, Option, Some, None, refl, ap, ◌∙◌}
use Rattle.wasm_values.specs.declared.number.ValType.{ValType}
use Rattle.wasm_syntax.specs.declared.instr.Instr.{Instr, Block', Loop', If', Row_of-Instr, end_of-Instr, more_of-Instr, items-the_row-Instr, items_hidden-the_row-Instr-0}
use Rattle.wasm_syntax.specs.declared.instr.Instr.TheBlock.{hidden-the_row-Instr-0}
use Rattle.wasm_syntax.specs.declared.instr.Instr.TheVariants as instr
use Rattle.wasm_syntax.specs.Trees.{Sequence, Empty, Then, Block, Loop, If, IfElse, instruction_of, sequence_in, sequence_of, instr_from, instrs_from}
use Rattle.wasm_syntax.specs.Trees as tree
use Rattle.wasm_syntax.specs.FlatForm.{is_simple}
use Rattle.wasm_syntax.proofs.Induction.{Cases, of_instr, of_instrs}

sequence_in-items : {n : _} (r : Row_of-Instr n) → sequence_in r ≡ sequence_of (items-the_row-Instr n r)
sequence_in-items end_of-Instr = refl
sequence_in-items (more_of-Instr i is) = ap (Then (instruction_of i)) (sequence_in-items is)

sequence_in-hidden : (is : List Instr) → sequence_in (hidden-the_row-Instr-0 is) ≡ sequence_of is
sequence_in-hidden is = sequence_in-items (hidden-the_row-Instr-0 is) ∙ ap sequence_of (items_hidden-the_row-Instr-0 is)

pub instruction_of-Block : (ty : Option ValType) (is : List Instr) → instruction_of (instr.Block ty is) ≡ Block ty (sequence_of is)
instruction_of-Block ty is = ap (Block ty) (sequence_in-hidden is)

pub instruction_of-Loop : (ty : Option ValType) (is : List Instr) → instruction_of (instr.Loop ty is) ≡ Loop ty (sequence_of is)
instruction_of-Loop ty is = ap (Loop ty) (sequence_in-hidden is)

pub instruction_of-If : (ty : Option ValType) (is : List Instr) → instruction_of (instr.If ty is None) ≡ If ty (sequence_of is)
instruction_of-If ty is = ap (If ty) (sequence_in-hidden is)

pub instruction_of-IfElse : (ty : Option ValType) (is others : List Instr) → instruction_of (instr.If ty is (Some others)) ≡ IfElse ty (sequence_of is) (sequence_of others)
instruction_of-IfElse ty is others =
    ap (λ s. IfElse ty s (sequence_in (hidden-the_row-Instr-0 others))) (sequence_in-hidden is) ∙ ap (IfElse ty (sequence_of is)) (sequence_in-hidden others)

-- ---- a tree of an instruction that has this tree is this tree

mutual
  pub instruction_of-instr_from : (t : tree.Instruction) → instruction_of (instr_from t) ≡ t
  instruction_of-instr_from (Block ty body) = instruction_of-Block ty (instrs_from body) ∙ ap (Block ty) (sequence_of-instrs_from body)
  instruction_of-instr_from (Loop ty body) = instruction_of-Loop ty (instrs_from body) ∙ ap (Loop ty) (sequence_of-instrs_from body)
  instruction_of-instr_from (If ty first) = instruction_of-If ty (instrs_from first) ∙ ap (If ty) (sequence_of-instrs_from first)
  instruction_of-instr_from (IfElse ty first second) =
      instruction_of-IfElse ty (instrs_from first) (instrs_from second) ∙
      ap (λ s. IfElse ty s (sequence_of (instrs_from second))) (sequence_of-instrs_from first) ∙
      ap (IfElse ty first) (sequence_of-instrs_from second)
  instruction_of-instr_from _ = refl

  pub sequence_of-instrs_from : (s : Sequence) → sequence_of (instrs_from s) ≡ s
  sequence_of-instrs_from Empty = refl
  sequence_of-instrs_from (Then i s) =
      ap (λ t. Then t (sequence_of (instrs_from s))) (instruction_of-instr_from i) ∙ ap (Then i) (sequence_of-instrs_from s)

-- ---- the instruction that has the tree of an instruction is that instruction

abbrev Returns : Instr → Type 0
Returns i = instr_from (instruction_of i) ≡ i

abbrev ReturnsAll : List Instr → Type 0
ReturnsAll is = instrs_from (sequence_of is) ≡ is

returns_cons : (i : Instr) (is : List Instr) → Returns i → ReturnsAll is → ReturnsAll (i ∷ is)
returns_cons i is e es = ap (λ j. j ∷ instrs_from (sequence_of is)) e ∙ ap (λ js. i ∷ js) es

returns_simple : (i : Instr) → is_simple i ≡ true → Returns i
returns_simple (Block' ty n body) e = cc
returns_simple (Loop' ty n body) e = cc
returns_simple (If' ty n first other) e = cc
returns_simple _ e = refl

returns_If_Else : (ty : Option ValType) (is others : List Instr) → ReturnsAll is → ReturnsAll others → Returns (instr.If ty is (Some others))
returns_If_Else ty is others h k =
    ap instr_from (instruction_of-IfElse ty is others) ∙
    ap (λ js. instr.If ty js (Some (instrs_from (sequence_of others)))) h ∙
    ap (λ js. instr.If ty is (Some js)) k

returns : Cases Returns ReturnsAll
returns = record {
  simple = returns_simple;
  block = λ ty is h. ap instr_from (instruction_of-Block ty is) ∙ ap (instr.Block ty) h;
  loop = λ ty is h. ap instr_from (instruction_of-Loop ty is) ∙ ap (instr.Loop ty) h;
  one_side = λ ty is h. ap instr_from (instruction_of-If ty is) ∙ ap (λ js. instr.If ty js None) h;
  two_sides = returns_If_Else;
  none = refl;
  more = returns_cons;
}

pub instr_from-instruction_of : (i : Instr) → instr_from (instruction_of i) ≡ i
instr_from-instruction_of = of_instr Returns ReturnsAll returns

pub instrs_from-sequence_of : (is : List Instr) → instrs_from (sequence_of is) ≡ is
instrs_from-sequence_of = of_instrs Returns ReturnsAll returns

-- What bounds are made of.
use Rattle.std.proofs.Common.{◌≡◌, ℕ, ◌+◌, max, IsTrue, Some, slice_get, refl, sym, ap, subst, ◌∙◌, arith}
use Rattle.wasm_syntax.specs.declared.module.Func.{Func}
use Rattle.wasm_syntax.specs.declared.module.Module.{Module}
use Rattle.wasm_syntax.specs.Trees as tree
use Rattle.wasm_syntax.specs.Trees.{Instruction, Sequence, Empty, Then, IfElse, sequence_of}
use Rattle.type_safety.proofs.Lists.{same_some}
use Rattle.step_bound.specs.Bounds.{imported_funcs, is_single, InstructionBound, single, call, block, one_side, two_sides, SequenceBound, nothing, more, FunctionBound, function}

pub record ThenParts (m : Module) (i : Instruction) (rest : Sequence) (n : ℕ) : Type 0 where
  pub first : ℕ
  pub first_bound : InstructionBound m i first
  pub others : ℕ
  pub others_bound : SequenceBound m rest others
  pub is : n ≡ first + others

pub then_parts : {m : Module} {i : Instruction} {rest : Sequence} {n : ℕ} → SequenceBound m (Then i rest) n → ThenParts m i rest n
then_parts (more i rest a b x y) = record { first = a; first_bound = x; others = b; others_bound = y; is = refl }

pub empty_part : {m : Module} {n : ℕ} → SequenceBound m Empty n → n ≡ 0
empty_part nothing = refl

pub record FunctionParts (m : Module) (k n : ℕ) : Type 0 where
  pub func : Func
  pub there : slice_get m.funcs k ≡ Some func
  pub body : ℕ
  pub body_bound : SequenceBound m (sequence_of func.body) body
  pub is : n ≡ body + 1

pub function_parts : {m : Module} {k n : ℕ} → FunctionBound m k n → FunctionParts m k n
function_parts (function k n f at s) = record { func = f; there = at; body = n; body_bound = s; is = refl }

pub record CallParts (m : Module) (x n : ℕ) : Type 0 where
  pub place : ℕ
  pub place_is : x ≡ imported_funcs m + place
  pub callee : ℕ
  pub callee_bound : FunctionBound m place callee
  pub is : n ≡ 1 + callee

pub call_parts : {m : Module} {x n : ℕ} → InstructionBound m (tree.Call x) n → CallParts m x n
call_parts (single i s) = cc
call_parts (call x k n e f) = record { place = k; place_is = e; callee = n; callee_bound = f; is = refl }

pub block_part : {m : Module} {ty : _} {body : Sequence} {n : ℕ} → InstructionBound m (tree.Block ty body) n → (a : ℕ) × SequenceBound m body a × (n ≡ 2 + a)
block_part (single i s) = cc
block_part (block ty body a x) = (a, x, refl)

pub loop_none : {m : Module} {ty : _} {body : Sequence} {n : ℕ} → InstructionBound m (tree.Loop ty body) n → ⊥
loop_none (single i s) = cc

pub indirect_none : {m : Module} {x : ℕ} {n : ℕ} → InstructionBound m (tree.CallIndirect x) n → ⊥
indirect_none (single i s) = cc

pub if_part : {m : Module} {ty : _} {first : Sequence} {n : ℕ} → InstructionBound m (tree.If ty first) n → (a : ℕ) × SequenceBound m first a × (n ≡ 2 + max a 0)
if_part (single i s) = cc
if_part (one_side ty first a x) = (a, x, refl)

pub if_else_parts : {m : Module} {ty : _} {first second : Sequence} {n : ℕ} → InstructionBound m (IfElse ty first second) n → (a b : ℕ) × SequenceBound m first a × SequenceBound m second b × (n ≡ 2 + max a b)
if_else_parts (single i s) = cc
if_else_parts (two_sides ty first second a b x y) = (a, b, x, y, refl)

pub single_is : {m : Module} {i : Instruction} {n : ℕ} → IsTrue (is_single i) → InstructionBound m i n → n ≡ 1
single_is h (single i s) = refl
single_is h (call x k n e f) = cc
single_is h (block ty body n x) = cc
single_is h (one_side ty first n x) = cc
single_is h (two_sides ty first second n p x y) = cc

-- ---- at most one bound

module _ (m : Module) where
  same_function : (k j : ℕ) (f g : Func) → k ≡ j → slice_get m.funcs k ≡ Some f → slice_get m.funcs j ≡ Some g → f ≡ g
  same_function k j f g e at there = same_some (slice_get m.funcs k) f g at (ap (slice_get m.funcs) e ∙ there)

mutual
  instruction_once : {m : Module} {i : Instruction} {a : ℕ} → InstructionBound m i a → (b : ℕ) → InstructionBound m i b → a ≡ b
  instruction_once (single i s) b y = sym (single_is s y)
  instruction_once {m = m} (call x k n e f) b y =
      let p = call_parts y in
      let same : k ≡ p.place = omega (arith, e, p.place_is) in
      ap (λ z. 1 + z) (function_once f p.place p.callee same p.callee_bound) ∙ sym p.is
  instruction_once (block ty body n x) b y =
      let p = block_part y in ap (λ z. 2 + z) (sequence_once x p.0 p.1) ∙ sym p.2
  instruction_once (one_side ty first n x) b y =
      let p = if_part y in ap (λ z. 2 + max z 0) (sequence_once x p.0 p.1) ∙ sym p.2
  instruction_once (two_sides ty first second n q x z) b y =
      let p = if_else_parts y in
      ap (λ w. 2 + max w q) (sequence_once x p.0 p.2) ∙ ap (λ w. 2 + max p.0 w) (sequence_once z p.1 p.3) ∙ sym p.4

  sequence_once : {m : Module} {s : Sequence} {a : ℕ} → SequenceBound m s a → (b : ℕ) → SequenceBound m s b → a ≡ b
  sequence_once nothing b y = sym (empty_part y)
  sequence_once (more i rest n q x z) b y =
      let p = then_parts y in
      ap (λ w. w + q) (instruction_once x p.first p.first_bound) ∙ ap (λ w. p.first + w) (sequence_once z p.others p.others_bound) ∙ sym p.is

  function_once : {m : Module} {k a : ℕ} → FunctionBound m k a → (j b : ℕ) → k ≡ j → FunctionBound m j b → a ≡ b
  function_once {m = m} (function k n f at x) j b e y =
      let p = function_parts y in
      let same : f ≡ p.func = same_function m k j f p.func e at p.there in
      let here : SequenceBound m (sequence_of f.body) p.body = subst (λ (g : Func). SequenceBound m (sequence_of g.body) p.body) (sym same) p.body_bound in
      ap (λ z. z + 1) (sequence_once x p.body here) ∙ sym p.is

pub at_most_one : (m : Module) (k a b : ℕ) → FunctionBound m k a → FunctionBound m k b → a ≡ b
at_most_one m k a b x y = function_once x k b refl y

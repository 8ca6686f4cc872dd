-- Facts that are given one by one, and operators of one operand or two.
use Rattle.std.proofs.Common.{◌≡◌, ℕ, Bool, true, false, ◌&&◌, [], ◌∷◌, IsTrue, refl}
use Rattle.std.specs.Prelude.{◌==◌}
use Rattle.wasm_values.specs.declared.number.IntOp.{IntOp}
use Rattle.wasm_values.specs.declared.number.IntOp.TheVariants as int
use Rattle.wasm_values.specs.declared.number.NumOp.{NumOp}
use Rattle.wasm_values.specs.declared.number.NumOp.TheVariants.{W32, W64, Wrap, ExtendS, ExtendU}
use Rattle.wasm_values.specs.Operators.{operands, num_operands}
use Rattle.term_trees.specs.declared.term.Formula.{Formula}
use Rattle.notes.specs.declared.reason.Reason.TheVariants as reason
use Rattle.outline_rules.specs.Refusals.{wanted, ◌>>◌}
use Rattle.outline_rules.specs.States.{State}
use Rattle.outline_rules.specs.HeapMoves.{is_fact, fact_wanted}
use Rattle.symbolic_calls.specs.words.Parts.{facts_wanted}

one : (b : Bool) → wanted reason.Fact (b && true) ≡ wanted reason.Fact b
one true = refl
one false = refl

two : (a b : Bool) → wanted reason.Fact (a && (b && true)) ≡ (wanted reason.Fact a >> wanted reason.Fact b)
two true b = one b
two false b = refl

module _ (s : State) (k : ℕ) (f : Formula) where
  pub only-wanted : facts_wanted (k ∷ []) (f ∷ []) s ≡ fact_wanted s k f
  only-wanted = one (is_fact s k f)

  pub two-wanted : (l : ℕ) (g : Formula) → facts_wanted (k ∷ l ∷ []) (f ∷ g ∷ []) s ≡ (fact_wanted s k f >> fact_wanted s l g)
  two-wanted l g = two (is_fact s k f) (is_fact s l g)

pub ruleset known = (only-wanted, two-wanted)

-- ---- operands

int-two : (op : IntOp) → (operands op == 1) ≡ false → IsTrue (operands op == 2)
int-two int.Eqz is = cc
int-two int.Clz is = cc
int-two int.Ctz is = cc
int-two int.Popcnt is = cc
int-two _ is = refl

pub num-two : (op : NumOp) → (num_operands op == 1) ≡ false → IsTrue (num_operands op == 2)
num-two (W32 op) is = int-two op is
num-two (W64 op) is = int-two op is
num-two Wrap is = cc
num-two ExtendS is = cc
num-two ExtendU is = cc

pub ruleset arities = (num-two)

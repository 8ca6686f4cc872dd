-- The tests of a contract, one after another.
use Rattle.std.proofs.Common.{◌≡◌, sym, ap, subst, ◌∙◌, ℕ, false, not, Some, Result, Ok, Err, IfOk}
use Rattle.wasm_values.specs.Answers.{Gives}
use Rattle.wasm_syntax.specs.declared.module.FuncType.{FuncType}
use Rattle.notes.specs.declared.reason.Reason.{Reason}
use Rattle.notes.specs.declared.reason.Reason.TheVariants as reason
use Rattle.notes.specs.declared.assertion.Contract.{Contract}
use Rattle.escape_analysis.specs.Exposure.{is_exposed}
use Rattle.outline_rules.specs.Refusals.{Refusal, Ruling, wanted, ◌>>◌}
use Rattle.outline_rules.specs.Settings.{Setting, func_type}
use Rattle.outline_rules.specs.Tests.{pre_tested, post_tested, contract_tested_by}
use Rattle.heap_logic.specs.declared.fault.MoveFault.{MoveFault}
use Rattle.heap_logic.specs.Faults.{refusal_of}
use Rattle.outline_setting.specs.Reasons.{refusal_for}

-- what is said is what another test says
pub gives_same : (result : Result (Unit {0}) Reason) (said other : Ruling (Unit {0})) → said ≡ other
    → Gives refusal_for (λ (u : Unit {0}). tt {0}) result other → Gives refusal_for (λ (u : Unit {0}). tt {0}) result said
gives_same result said other is given = subst (λ s. Gives refusal_for (λ (u : Unit {0}). tt {0}) result s) (sym is) given

pub gives_fault : (result : Result (Unit {0}) MoveFault) (said other : Ruling (Unit {0})) → said ≡ other
    → Gives refusal_of (λ (u : Unit {0}). tt {0}) result other → Gives refusal_of (λ (u : Unit {0}). tt {0}) result said
gives_fault result said other is given = subst (λ s. Gives refusal_of (λ (u : Unit {0}). tt {0}) result s) (sym is) given

pub ok_more : (result : Result (Unit {0}) MoveFault) (P Q : Type 0) → IfOk result (λ u. P) → (P → Q) → IfOk result (λ u. Q)
ok_more (Ok u) P Q h so = so h
ok_more (Err e) P Q h so = tt

module _ (s : Setting) (f : ℕ) (contract : Contract) (ty : FuncType) (free : is_exposed s.code f ≡ false) (is : ty ≡ func_type s f) where
  both_tests : contract_tested_by s f (Some contract) ≡ (pre_tested s ty contract >> post_tested s ty contract)
  both_tests =
      ap (λ b. wanted reason.Exposed (not b) >> pre_tested s (func_type s f) contract >> post_tested s (func_type s f) contract) free
      ∙ ap (λ t. pre_tested s t contract >> post_tested s t contract) (sym is)

  pub tested_on : (u : Unit {0}) → pre_tested s ty contract ≡ Ok u → contract_tested_by s f (Some contract) ≡ post_tested s ty contract
  tested_on u met = both_tests ∙ ap (λ r. r >> post_tested s ty contract) met

  pub tested_not : (e : Refusal) → pre_tested s ty contract ≡ Err e → contract_tested_by s f (Some contract) ≡ Err e
  tested_not e met = both_tests ∙ ap (λ r. r >> post_tested s ty contract) met

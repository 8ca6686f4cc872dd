-- Where the function is left: what its contract says, or the invariant.
use Rattle.std.proofs.Common.{◌≡◌, ℕ, Option, Some, None, refl}
use Rattle.std.specs.Prelude.{Ok}
use Rattle.notes.specs.declared.assertion.Contract.{Contract}
use Rattle.notes.specs.declared.uses.With.{With}
use Rattle.outline_rules.specs.Refusals.{◌>>◌}
use Rattle.outline_rules.specs.Settings.{Setting, func_type, result_type_of, contract_of}
use Rattle.outline_rules.specs.States.{State}
use Rattle.outline_rules.specs.Entailment.{entailed}
use Rattle.outline_rules.specs.Branches.{passed, wanted_at_return, leaves_function}
use Rattle.symbolic_branches.specs.words.Parts.{leaves_by}

leaves-with : (c : Setting) (f : ℕ) (w : With) (s : State) (o : Option Contract)
    → (entailed s (wanted_at_return c f o s) w >> Ok tt) ≡ leaves_by c o (passed (result_type_of (func_type c f)) s) w s
leaves-with c f w s None = refl
leaves-with c f w s (Some k) = refl

pub leaves-is : (c : Setting) (f : ℕ) (w : With) (s : State) → leaves_function c f w s ≡ leaves_by c (contract_of c f) (passed (result_type_of (func_type c f)) s) w s
leaves-is c f w s = leaves-with c f w s (contract_of c f)

pub ruleset leavings = (leaves-is)

-- Steps, first without their sub-derivations.
use Rattle.std.specs.Prelude.{ℕ, ℤ, ◌+◌, Bool, List, Result, Ok}
use Rattle.sexp_text.specs.declared.fault.TextFault.{TextFault}
use Rattle.sexp_text.specs.Reading.{◌>>=◌}
use Rattle.term_trees.specs.declared.term.Formula.{Formula}
use Rattle.bitvector_rules.specs.declared.step.Rule.{Rule}
use Rattle.bitvector_rules.specs.declared.step.Ref.{Ref}
use Rattle.bitvector_rules.specs.declared.step.Step.{Step, roll-Step}
use Rattle.notes_grammar.specs.Parts.{Parts}
use Rattle.notes_grammar.specs.Reading.{list_of, all_of, rule_in, formula_in, reference, whole, sub_in}
use Rattle.notes_terms.specs.Fields.{four_fields}
use Rattle.notes_terms.specs.declared.steps.StepFront.{StepFront}

-- a step without its sub-derivations
pub record Front : Type 0 where
  pub rule : Rule
  pub formula : Formula
  pub refs : List Ref
  pub numbers : List ℤ

abbrev pub front_of : Rule → Formula → List Ref → List ℤ → Front
front_of r f rs ns = record { rule = r; formula = f; refs = rs; numbers = ns }

abbrev pub front_seen : StepFront → Front
front_seen f = record { rule = f.rule; formula = f.formula; refs = f.refs; numbers = f.numbers }

-- the step with these sub-derivations
abbrev pub stepped : Front → Result (List (List Step)) TextFault → Result Step TextFault
stepped f subs = subs >>= λ ss. Ok (roll-Step (record { rule = f.rule; formula = f.formula; refs = f.refs; numbers = f.numbers; subs = ss }))

-- the step of these parts, inside so many sub-derivations
abbrev pub listed_step : Bool → ℕ → Parts → ℕ → Result Step TextFault
listed_step later close ps level =
    four_fields rule_in (formula_in later) (list_of reference) (list_of whole) close ps >>= λ x.
    stepped (front_of x.0 x.1 x.2 x.3) (all_of (λ p. sub_in later p (level + 1)) x.4)

-- The own variables of an assertion that is known are within the limits.
use Rattle.std.proofs.Common.{◌≡◌, ℕ, ◌+◌, ◌≤◌, ◌<◌, ◌^◌, Bool, true, false, [], ◌++◌, length, Option, Some, None, refl, arith}
use Rattle.std.specs.Prelude.{nat_le, Ok}
use Rattle.std.proofs.lemmas.Bool.{leb-true}
use Rattle.wasm_values.specs.declared.limit.LimitWord.TheVariants as limit
use Rattle.notes.specs.declared.assertion.Assertion.{Assertion}
use Rattle.notes.specs.declared.assertion.Contract.{Contract}
use Rattle.outline_rules.specs.Refusals.{Ruling, limited, within, ◌>>=◌, ◌>>◌}
use Rattle.outline_rules.specs.Settings.{Setting, invariant_of}
use Rattle.outline_rules.specs.States.{State, nodes_of, settled}
use Rattle.outline_rules.specs.Entailment.{assertion_leaves}
use Rattle.outline_rules.specs.Renewal.{variables_from, parts_assumed, assumed}
use Rattle.outline_rules.specs.Entry.{given_count}
use Rattle.outline_entry.specs.words.Parts.{precondition_assumed}

module _ (s : State) (next : State → Ruling State) (t : State) where
  limited-by : (b : Bool) →
      ((limited limit.Nodes true >> limited limit.Variables b >> within limit.Facts 4096 (length s.facts)
      >> within limit.Chunks 1024 (length s.chunks) >> within limit.State 1000000 (nodes_of s) >> Ok s) >>= next) ≡ Ok t → b ≡ true
  limited-by true is = refl
  limited-by false is = cc

  settled-variables : (settled [] s >>= next) ≡ Ok t → s.vars ≤ 1000000
  unfolding settled
  settled-variables is = leb-true s.vars 1000000 (limited-by (nat_le s.vars 1000000) is)

-- what a precondition is known of has room for all of its own variables
assumed-room : (a : Assertion) (s t : State) → assumed a [] s.args None s ≡ Ok t → s.vars + a.own ≤ 1000000
assumed-room a s t is =
    let more : State = record s { vars = s.vars + a.own } in
    let next : State → Ruling State = λ u. parts_assumed (assertion_leaves u ([] ++ variables_from s.vars a.own) s.args None) a u in
    settled-variables more next t is

pub given-room : (c : Setting) (contract : Option Contract) (s t : State) (v : ℕ) → precondition_assumed c contract s ≡ Ok t → v ≡ s.vars → v + given_count contract < 2 ^ 32
given-room c None s t v is same = omega (arith, assumed-room (invariant_of c) s t is)
given-room c (Some contract) s t v is same = omega (arith, assumed-room contract.pre s t is)

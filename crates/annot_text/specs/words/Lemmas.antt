-- What lemmas are made of.
use Rattle.std.specs.Prelude.{ℕ, ◌++◌, List, Result, Ok, codes}
use Rattle.sexp_text.specs.declared.fault.TextFault.{TextFault}
use Rattle.sexp_text.specs.Reading.{◌>>=◌}
use Rattle.term_trees.specs.declared.term.Formula.{Formula}
use Rattle.bitvector_rules.specs.declared.step.Step.{Step}
use Rattle.notes.specs.declared.outline.Lemma.{Lemma}
use Rattle.notes_grammar.specs.Parts.{Part, Parts}
use Rattle.notes_grammar.specs.Shapes.{Setting}
use Rattle.notes_grammar.specs.Reading.{tagged, list_of, small, formula_in, steps_in, new_name}
use Rattle.notes_terms.specs.Fields.{four_fields}
use Rattle.notes_moves.specs.Joined.{joined}

-- name, number of variables, hypotheses and goal
abbrev pub Claim : Type 0
Claim = List ℕ × ℕ × List Formula × Formula

abbrev pub claim_of : List ℕ → ℕ → List Formula → Formula → Claim
claim_of n k hs g = (n, k, hs, g)

abbrev pub lemma_parts : Setting → ℕ → Parts → Result (Claim × List Step) TextFault
lemma_parts c close ps =
    four_fields (new_name c.names) small (list_of (formula_in c.later)) (formula_in c.later) close ps >>= λ x.
    joined (claim_of x.0 x.1 x.2 x.3) (steps_in c.later x.4 0)

abbrev pub lemma_read : Setting → Part → Result Lemma TextFault
lemma_read c p =
    tagged (codes "lemma") p >>= λ l. lemma_parts c l.1 l.0 >>= λ x. Ok (record { name = x.0.0; vars = x.0.1; hyps = x.0.2; goal = x.0.3; steps = x.1 })

-- lemmas, and what is read behind them
abbrev pub behind_lemmas : List Lemma → Result (List Lemma × Parts) TextFault → Result (List Lemma × Parts) TextFault
behind_lemmas before r = r >>= λ more. Ok (before ++ more.0, more.1)

-- What lists that are formulas are made of.
use Rattle.std.specs.Prelude.{ℕ, Bool, List, Result, Ok}
use Rattle.sexp_text.specs.declared.fault.TextFault.{TextFault}
use Rattle.sexp_text.specs.Reading.{◌>>=◌}
use Rattle.term_trees.specs.declared.term.Term.{Term}
use Rattle.term_trees.specs.declared.term.Formula.{Formula}
use Rattle.term_trees.specs.declared.term.Formula.TheVariants as formula
use Rattle.term_trees.specs.Terms.{node_count}
use Rattle.term_trees.specs.Formulas.{formula_nodes}
use Rattle.notes_grammar.specs.declared.head.Head.{Head}
use Rattle.notes_grammar.specs.declared.head.Head.TheVariants as head
use Rattle.notes_grammar.specs.Parts.{Part, Parts}
use Rattle.notes_grammar.specs.Reading.{Headed, headed, form, or_form, one_of, two_of, term_tokens, formula_tokens, constant}
use Rattle.notes_grammar.specs.Words.{head_named}
use Rattle.notes_terms.specs.declared.formulas.Claim.{Claim}
use Rattle.notes_terms.specs.declared.formulas.Claim.TheVariants.{Eq, Le, Lt}
use Rattle.notes_terms.specs.declared.formulas.OverFormulas.{OverFormulas}
use Rattle.notes_terms.specs.declared.formulas.OverFormulas.TheVariants.{And, Or, Imp}
use Rattle.notes_terms.specs.declared.formulas.FormulaKind.{FormulaKind}
use Rattle.notes_terms.specs.declared.formulas.FormulaKind.TheVariants as kind

-- the claim on two terms
abbrev pub claim_of : Claim → Term × Term → Formula
claim_of Eq x = formula.Eq x.0 x.1
claim_of Le x = formula.Le x.0 x.1
claim_of Lt x = formula.Lt x.0 x.1

-- the formula of two formulas
abbrev pub over_formulas : OverFormulas → Formula × Formula → Formula
over_formulas And x = formula.And x.0 x.1
over_formulas Or x = formula.Or x.0 x.1
over_formulas Imp x = formula.Imp x.0 x.1

-- the claim on the two terms that these parts are
abbrev pub claimed : Bool → ℕ → Claim → Parts → Result Formula TextFault
claimed later close claim ps = two_of node_count close (term_tokens later ps) >>= λ x. Ok (claim_of claim x)

-- the formula of a list of this kind
abbrev pub formed : Bool → FormulaKind → Headed → Result Formula TextFault
formed later (kind.Claim claim) h = claimed later h.close claim h.rest
formed later kind.Not h = one_of formula_nodes h.close (formula_tokens later h.rest) >>= λ f. Ok (formula.Not f)
formed later (kind.Two op) h = two_of formula_nodes h.close (formula_tokens later h.rest) >>= λ x. Ok (over_formulas op x)
formed later kind.Other h = form h.at

-- the kind of a formula whose list begins with this head
abbrev pub kind_of : Head → FormulaKind
kind_of head.Eq = kind.Claim Eq
kind_of head.Le = kind.Claim Le
kind_of head.Lt = kind.Claim Lt
kind_of head.Not = kind.Not
kind_of head.And = kind.Two And
kind_of head.Or = kind.Two Or
kind_of head.Imp = kind.Two Imp
kind_of _ = kind.Other

-- the formula that is a list of these parts
unfoldable pub listed_formula : Bool → Part → Result Formula TextFault
listed_formula later p = headed p >>= λ h. formed later (kind_of h.head) h

-- the formula that is the word at this place
abbrev pub word_formula : ℕ → List ℕ → Result Formula TextFault
word_formula at w = or_form at (head_named w) >>= constant at

-- What assertions and `with`s are made of.
use Rattle.std.specs.Prelude.{ℕ, Bool, Result, Ok, codes}
use Rattle.sexp_text.specs.declared.fault.TextFault.{TextFault}
use Rattle.sexp_text.specs.Reading.{◌>>=◌}
use Rattle.notes.specs.declared.assertion.Assertion.{Assertion}
use Rattle.notes.specs.declared.uses.With.{With}
use Rattle.notes_grammar.specs.Parts.{Part, Parts}
use Rattle.notes_grammar.specs.Reading.{tagged, list_of, small, term_in, formula_in, chunk_in}
use Rattle.notes_terms.specs.Fields.{whole_three}

abbrev pub assertion_read : Bool → Part → Result Assertion TextFault
assertion_read later p =
    tagged (codes "assert") p >>= λ l. whole_three small (list_of (formula_in later)) (list_of (chunk_in later)) l.1 l.0 >>= λ x.
    Ok (record { own = x.0; formulas = x.1; chunks = x.2 })

abbrev pub with_parts : Bool → ℕ → Parts → Result With TextFault
with_parts later close ps =
    whole_three (list_of (term_in later)) (list_of small) (list_of small) close ps >>= λ x. Ok (record { terms = x.0; facts = x.1; chunks = x.2 })

abbrev pub with_read : Bool → Part → Result With TextFault
with_read later p = tagged (codes "with") p >>= λ l. with_parts later l.1 l.0

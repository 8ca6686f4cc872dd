-- What whole notes are made of.
use Rattle.std.specs.Prelude.{ℕ, Bool, List, Result, Ok}
use Rattle.sexp_text.specs.declared.fault.TextFault.{TextFault}
use Rattle.sexp_text.specs.Reading.{◌>>=◌}
use Rattle.notes.specs.declared.assertion.Assertion.{Assertion}
use Rattle.notes.specs.declared.outline.FuncNotes.{FuncNotes}
use Rattle.notes.specs.declared.outline.Initial.{Initial}
use Rattle.notes.specs.declared.outline.Lemma.{Lemma}
use Rattle.notes.specs.declared.outline.Notes.{Notes}
use Rattle.notes_grammar.specs.Parts.{Parts}
use Rattle.notes_grammar.specs.Shapes.{Setting, names_of}
use Rattle.notes_grammar.specs.Reading.{all_of, assertion_in, initial_in, function_in, lemmas_of, notes_rest}
use Rattle.notes_terms.specs.Fields.{two_fields}
use Rattle.notes_moves.specs.Joined.{joined}

-- the invariant and the initial part
abbrev pub Front : Type 0
Front = Assertion × Initial

abbrev pub front_of : Assertion → Initial → Front
front_of a i = (a, i)

-- what stands behind the lemmas
abbrev pub rest_read : Setting → ℕ → Parts → Result (Front × List FuncNotes) TextFault
rest_read c close ps = two_fields (assertion_in c.later) (initial_in c) close ps >>= λ x. joined (front_of x.0 x.1) (all_of (function_in c) x.2)

-- the notes with these lemmas
abbrev pub with_lemmas : List Lemma → Result (Front × List FuncNotes) TextFault → Result Notes TextFault
with_lemmas ls r = r >>= λ x. Ok (record { invariant = x.0.0; initial = x.0.1; funcs = x.1; lemmas = ls })

abbrev pub setting_of : Bool → List Lemma → Setting
setting_of later ls = record { later = later; names = names_of ls }

-- what stands behind the version
abbrev pub behind_version : Bool → ℕ → Parts → Result Notes TextFault
behind_version later close ps = lemmas_of later ps >>= λ ls. notes_rest (setting_of later ls.0) ls.0 close ls.1

-- What notes of instructions and functions and the initial part are made of.
use Rattle.std.specs.Prelude.{ℕ, Bool, List, [], ◌∷◌, Option, Some, None, Result, Ok, codes}
use Rattle.sexp_text.specs.declared.fault.TextFault.{TextFault}
use Rattle.sexp_text.specs.Reading.{◌>>=◌}
use Rattle.notes.specs.declared.chunk.Chunk.{Chunk}
use Rattle.notes.specs.declared.assertion.Assertion.{Assertion}
use Rattle.notes.specs.declared.assertion.Contract.{Contract}
use Rattle.notes.specs.declared.moves.Move.{Move}
use Rattle.notes.specs.declared.uses.With.{With}
use Rattle.notes.specs.declared.uses.Take.{Take}
use Rattle.notes.specs.declared.uses.Use.{Use}
use Rattle.notes.specs.declared.uses.Use.TheVariants as used
use Rattle.notes.specs.declared.outline.Note.{Note}
use Rattle.notes.specs.declared.outline.FuncNotes.{FuncNotes}
use Rattle.notes.specs.declared.outline.Initial.{Initial}
use Rattle.notes_grammar.specs.Parts.{Part, Parts, Nil, Cons}
use Rattle.notes_grammar.specs.Shapes.{Setting}
use Rattle.notes_grammar.specs.Reading.{Headed, headed, tagged, field, ended, list_of, all_of, small, chunk_in, assertion_in, with_in, move_at, move_in, note_in, side_in, contract_first, after_list}
use Rattle.notes_terms.specs.Fields.{three_fields, whole_one, whole_two}
use Rattle.annot_text.specs.declared.functions.Noted.{Noted}
use Rattle.annot_text.specs.declared.functions.Noted.TheVariants as noted
use Rattle.annot_text.specs.declared.uses.UseKind.{UseKind}
use Rattle.notes_moves.specs.Joined.{joined}
use Rattle.annot_text.specs.words.Uses.{use_kind, use_formed}

-- a use of this kind, or a move
abbrev pub use_or_move : Setting → Headed → Option UseKind → Result Noted TextFault
use_or_move c h (Some k) = use_formed c k h >>= λ u. Ok (noted.Use u)
use_or_move c h None = move_at c h h.head >>= λ m. Ok (noted.Move m)

abbrev pub noted_headed : Setting → Headed → Result Noted TextFault
noted_headed c h = use_or_move c h (use_kind h.head)

abbrev pub noted_in : Setting → Part → Result Noted TextFault
noted_in c p = headed p >>= λ h. noted_headed c h

-- a move and what is behind it, or a use with no parts behind it
abbrev pub noted_then : Noted → Parts → Result (List Move × Use) TextFault → Result (List Move × Use) TextFault
noted_then (noted.Move m) ps rest = rest >>= λ more. Ok (m ∷ more.0, more.1)
noted_then (noted.Use u) ps rest = ended ([], u) ps

-- moves, and after them a use, if there is one
abbrev pub note_parts : Setting → Parts → Result (List Move × Use) TextFault
note_parts c Nil = Ok ([], used.Nothing)
note_parts c (Cons p ps) = noted_in c p >>= λ n. noted_then n ps (note_parts c ps)

abbrev pub note_read : Setting → Part → Result Note TextFault
note_read c p =
    tagged (codes "at") p >>= λ l. field small l.1 l.0 >>= λ i. note_parts c i.1 >>= λ x. Ok (record { at = i.0; moves = x.0; used = x.1 })

abbrev pub side_read : List ℕ → Bool → Part → Result Assertion TextFault
side_read tag later p = tagged tag p >>= λ l. whole_one (assertion_in later) l.1 l.0

abbrev pub contract_read : Bool → Part → Result Contract TextFault
contract_read later p =
    tagged (codes "contract") p >>= λ l. whole_two (side_in (codes "pre") later) (side_in (codes "post") later) l.1 l.0 >>= λ x.
    Ok (record { pre = x.0; post = x.1 })

abbrev pub function_parts : Setting → Parts → Result (Option Contract × List Note) TextFault
function_parts c ps = contract_first c.later ps >>= λ r. joined r.0 (all_of (note_in c) r.1)

abbrev pub function_read : Setting → Part → Result FuncNotes TextFault
function_read c p =
    tagged (codes "func") p >>= λ l. field small l.1 l.0 >>= λ k. function_parts c k.1 >>= λ x. Ok (record { func = k.0; contract = x.0; notes = x.1 })

abbrev pub first_parts : List Chunk → List Move → With → List Chunk × List Move × With
first_parts cs ms w = (cs, ms, w)

abbrev pub initial_parts : Setting → ℕ → Parts → Result ((List Chunk × List Move × With) × Option Take) TextFault
initial_parts c close ps =
    three_fields (list_of (chunk_in c.later)) (list_of (move_in c)) (with_in c.later) close ps >>= λ x. joined (first_parts x.0 x.1 x.2) (after_list c x.3)

abbrev pub initial_read : Setting → Part → Result Initial TextFault
initial_read c p =
    tagged (codes "initial") p >>= λ l. initial_parts c l.1 l.0 >>= λ x. Ok (record { chunks = x.0.0; moves = x.0.1; with = x.0.2; after = x.1 })

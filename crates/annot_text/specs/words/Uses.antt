-- What takes and lists that are uses are made of.
use Rattle.std.specs.Prelude.{ℕ, Bool, Option, Some, None, Result, Ok, codes}
use Rattle.sexp_text.specs.declared.fault.TextFault.{TextFault}
use Rattle.sexp_text.specs.Reading.{◌>>=◌}
use Rattle.notes.specs.declared.uses.Take.{Take}
use Rattle.notes.specs.declared.uses.Use.{Use}
use Rattle.notes.specs.declared.uses.Use.TheVariants as used
use Rattle.notes_grammar.specs.declared.head.Head.{Head}
use Rattle.notes_grammar.specs.declared.head.Head.TheVariants as head
use Rattle.notes_grammar.specs.Parts.{Part, Parts}
use Rattle.notes_grammar.specs.Shapes.{Setting}
use Rattle.notes_grammar.specs.Reading.{Headed, tagged, list_of, all_of, small, assertion_in, with_list, with_in, move_in, take_in, safe_list}
use Rattle.notes_terms.specs.Fields.{whole_one, whole_two}
use Rattle.annot_text.specs.declared.uses.UseKind.{UseKind}
use Rattle.annot_text.specs.declared.uses.UseKind.TheVariants as kind

abbrev pub take_parts : Setting → ℕ → Parts → Result Take TextFault
take_parts c close ps = whole_two (list_of (move_in c)) (with_in c.later) close ps >>= λ x. Ok (record { moves = x.0; with = x.1 })

abbrev pub take_read : Setting → Part → Result Take TextFault
take_read c p = tagged (codes "take") p >>= λ l. take_parts c l.1 l.0

-- the kind of a use whose list begins with this head, if it is a use
abbrev pub use_kind : Head → Option UseKind
use_kind head.With = Some kind.With
use_kind head.Cell = Some kind.Cell
use_kind head.Safe = Some kind.Safe
use_kind head.Trap = Some kind.Trap
use_kind head.Take = Some kind.Take
use_kind head.Table = Some kind.Table
use_kind head.Both = Some kind.Both
use_kind head.Label = Some kind.Label
use_kind head.Loop = Some kind.Loop
use_kind head.Skip = Some kind.Skip
use_kind _ = None

abbrev pub both_read : Bool → ℕ → Parts → Result Use TextFault
both_read later close ps = whole_two (with_in later) (with_in later) close ps >>= λ x. Ok (used.Both x.0 x.1)

abbrev pub loop_read : Bool → ℕ → Parts → Result Use TextFault
loop_read later close ps = whole_two (assertion_in later) (with_in later) close ps >>= λ x. Ok (used.Loop x.0 x.1)

abbrev pub skip_read : Setting → ℕ → Parts → Result Use TextFault
skip_read c close ps = whole_two (assertion_in c.later) (take_in c) close ps >>= λ x. Ok (used.Skip x.0 x.1)

-- the use of a list of this kind
abbrev pub use_formed : Setting → UseKind → Headed → Result Use TextFault
use_formed c kind.With h = with_list c.later h.close h.rest >>= λ w. Ok (used.With w)
use_formed c kind.Cell h = whole_one small h.close h.rest >>= λ k. Ok (used.Cell k)
use_formed c kind.Safe h = safe_list h.close h.rest
use_formed c kind.Trap h = whole_one (with_in c.later) h.close h.rest >>= λ w. Ok (used.Trap w)
use_formed c kind.Take h = take_parts c h.close h.rest >>= λ t. Ok (used.Take t)
use_formed c kind.Table h = all_of (take_in c) h.rest >>= λ ts. Ok (used.Table ts)
use_formed c kind.Both h = both_read c.later h.close h.rest
use_formed c kind.Label h = whole_one (assertion_in c.later) h.close h.rest >>= λ a. Ok (used.Label a)
use_formed c kind.Loop h = loop_read c.later h.close h.rest
use_formed c kind.Skip h = skip_read c h.close h.rest

-- What lists that are moves on chunks are made of.
use Rattle.std.specs.Prelude.{ℕ, Bool, if◌then◌else◌, Result, Ok}
use Rattle.sexp_text.specs.declared.fault.TextFault.{TextFault}
use Rattle.sexp_text.specs.Reading.{◌>>=◌}
use Rattle.term_trees.specs.declared.term.Term.{Term}
use Rattle.notes.specs.declared.heap_move.HeapMove.{HeapMove}
use Rattle.notes.specs.declared.heap_move.HeapMove.TheVariants as heap
use Rattle.notes_grammar.specs.declared.head.Head.{Head}
use Rattle.notes_grammar.specs.declared.head.Head.TheVariants as head
use Rattle.notes_grammar.specs.Parts.{Parts}
use Rattle.notes_grammar.specs.Reading.{Headed, form, field, width, small, term_in, formula_in}
use Rattle.notes_terms.specs.Fields.{whole_one, whole_three, whole_four}
use Rattle.notes_moves.specs.declared.heap_moves.OnOne.{OnOne}
use Rattle.notes_moves.specs.declared.heap_moves.OnOne.TheVariants as one
use Rattle.notes_moves.specs.declared.heap_moves.OnTwo.{OnTwo}
use Rattle.notes_moves.specs.declared.heap_moves.OnTwo.TheVariants as two
use Rattle.notes_moves.specs.declared.heap_moves.OnTerm.{OnTerm}
use Rattle.notes_moves.specs.declared.heap_moves.OnTerm.TheVariants as at_term
use Rattle.notes_moves.specs.declared.heap_moves.OnPart.{OnPart}
use Rattle.notes_moves.specs.declared.heap_moves.OnPart.TheVariants as at_part
use Rattle.notes_moves.specs.declared.heap_moves.HeapKind.{HeapKind}
use Rattle.notes_moves.specs.declared.heap_moves.HeapKind.TheVariants as kind

-- a kind in version 2 alone
abbrev pub second : Bool → HeapKind → HeapKind
second later k = if later then k else kind.Other

-- the kind of a move on chunks whose list begins with this head
abbrev pub heap_kind : Bool → Head → HeapKind
heap_kind later head.Split = kind.Part at_part.Split
heap_kind later head.Merge = kind.Two two.Merge
heap_kind later head.Forget = kind.One one.Forget
heap_kind later head.View = kind.One one.View
heap_kind later head.Halve = kind.One one.Halve
heap_kind later head.Unite = kind.Two two.Unite
heap_kind later head.Readdr = kind.Term at_term.Readdr
heap_kind later head.Reval = kind.Term at_term.Reval
heap_kind later head.Relen = kind.Term at_term.Relen
heap_kind later head.Pick = second later (kind.Part at_part.Pick)
heap_kind later head.Join = second later (kind.Two two.Join)
heap_kind later head.Enrow = second later kind.Enrow
heap_kind later head.Rows = second later kind.Rows
heap_kind later _ = kind.Other

abbrev pub one_move : OnOne → ℕ → HeapMove
one_move one.Forget c = heap.Forget c
one_move one.View c = heap.View c
one_move one.Halve c = heap.Halve c

abbrev pub two_move : OnTwo → ℕ × ℕ × ℕ → HeapMove
two_move two.Merge x = heap.Merge x.0 x.1 x.2
two_move two.Unite x = heap.Unite x.0 x.1 x.2
two_move two.Join x = heap.Join x.0 x.1 x.2

abbrev pub term_move : OnTerm → ℕ × Term × ℕ → HeapMove
term_move at_term.Readdr x = heap.Readdr x.0 x.1 x.2
term_move at_term.Reval x = heap.Reval x.0 x.1 x.2
term_move at_term.Relen x = heap.Relen x.0 x.1 x.2

abbrev pub part_move : OnPart → ℕ × Term × ℕ × ℕ → HeapMove
part_move at_part.Split x = heap.Split x.0 x.1 x.2 x.3
part_move at_part.Pick x = heap.Pick x.0 x.1 x.2 x.3

abbrev pub enrow_read : Bool → ℕ → Parts → Result HeapMove TextFault
enrow_read later close ps = whole_three small (formula_in later) small close ps >>= λ x. Ok (heap.Enrow x.0 x.1 x.2)

abbrev pub rows_read : Bool → ℕ → Parts → Result HeapMove TextFault
rows_read later close ps =
    field small close ps >>= λ c. field width close c.1 >>= λ w. whole_one (formula_in later) close w.1 >>= λ e. Ok (heap.Rows c.0 w.0 e)

-- the move on chunks of a list of this kind
abbrev pub heap_formed : Bool → HeapKind → Headed → Result HeapMove TextFault
heap_formed later (kind.One k) h = whole_one small h.close h.rest >>= λ c. Ok (one_move k c)
heap_formed later (kind.Two k) h = whole_three small small small h.close h.rest >>= λ x. Ok (two_move k x)
heap_formed later (kind.Term k) h = whole_three small (term_in later) small h.close h.rest >>= λ x. Ok (term_move k x)
heap_formed later (kind.Part k) h = whole_four small (term_in later) small small h.close h.rest >>= λ x. Ok (part_move k x)
heap_formed later kind.Enrow h = enrow_read later h.close h.rest
heap_formed later kind.Rows h = rows_read later h.close h.rest
heap_formed later kind.Other h = form h.at

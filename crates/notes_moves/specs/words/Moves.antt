-- What lists that are moves are made of.
use Rattle.std.specs.Prelude.{ℕ, Bool, if◌then◌else◌, List, Result, Ok}
use Rattle.sexp_text.specs.declared.fault.TextFault.{TextFault}
use Rattle.sexp_text.specs.Reading.{◌>>=◌}
use Rattle.term_trees.specs.declared.term.Formula.{Formula}
use Rattle.bitvector_rules.specs.declared.step.Step.{Step}
use Rattle.notes.specs.declared.moves.Move.{Move}
use Rattle.notes.specs.declared.moves.Move.TheVariants as move
use Rattle.notes_grammar.specs.declared.head.Head.{Head}
use Rattle.notes_grammar.specs.declared.head.Head.TheVariants as head
use Rattle.notes_grammar.specs.Parts.{Part, Parts}
use Rattle.notes_grammar.specs.Shapes.{Setting}
use Rattle.notes_grammar.specs.Reading.{Headed, headed, field, list_of, small, place_in, term_in, formula_in, steps_in, known_name}
use Rattle.notes_terms.specs.Fields.{whole_one, whole_three}
use Rattle.notes_moves.specs.declared.heap_moves.HeapKind.TheVariants as heap
use Rattle.notes_moves.specs.declared.moves.MoveKind.{MoveKind}
use Rattle.notes_moves.specs.declared.moves.MoveKind.TheVariants as kind
use Rattle.notes_moves.specs.words.HeapMoves.{heap_kind, heap_formed}
use Rattle.notes_moves.specs.Joined.{joined}

-- a kind in version 2 alone
abbrev pub second : Bool → MoveKind → MoveKind
second later k = if later then k else kind.Heap heap.Other

-- the kind of a move whose list begins with this head
abbrev pub move_kind : Bool → Head → MoveKind
move_kind later head.Have = kind.Have
move_kind later head.Name = kind.Name
move_kind later head.Let = kind.Let
move_kind later head.Put = kind.Put
move_kind later head.Each = second later kind.Each
move_kind later head.Use = second later kind.Use
move_kind later other = kind.Heap (heap_kind later other)

-- a formula, and the steps behind it
abbrev pub derivation_read : Bool → ℕ → Parts → Result (Formula × List Step) TextFault
derivation_read later close ps = field (formula_in later) close ps >>= λ f. joined f.0 (steps_in later f.1 0)

abbrev pub put_read : Bool → ℕ → Parts → Result Move TextFault
put_read later close ps = whole_three (place_in later) (term_in later) small close ps >>= λ x. Ok (move.Put x.0 x.1 x.2)

abbrev pub each_read : Bool → ℕ → Parts → Result Move TextFault
each_read later close ps = field small close ps >>= λ k. derivation_read later close k.1 >>= λ x. Ok (move.Each k.0 x.0 x.1)

abbrev pub use_read : Setting → ℕ → Parts → Result Move TextFault
use_read c close ps = whole_three (known_name c.names) (list_of (term_in c.later)) (list_of small) close ps >>= λ x. Ok (move.Lemma x.0 x.1 x.2)

-- the move of a list of this kind
abbrev pub move_formed : Setting → MoveKind → Headed → Result Move TextFault
move_formed c kind.Have h = derivation_read c.later h.close h.rest >>= λ x. Ok (move.Have x.0 x.1)
move_formed c kind.Name h = whole_one (place_in c.later) h.close h.rest >>= λ p. Ok (move.Name p)
move_formed c kind.Let h = whole_one (term_in c.later) h.close h.rest >>= λ t. Ok (move.Let t)
move_formed c kind.Put h = put_read c.later h.close h.rest
move_formed c kind.Each h = each_read c.later h.close h.rest
move_formed c kind.Use h = use_read c h.close h.rest
move_formed c (kind.Heap k) h = heap_formed c.later k h >>= λ m. Ok (move.Heap m)

abbrev pub move_headed : Setting → Headed → Result Move TextFault
move_headed c h = move_formed c (move_kind c.later h.head) h

abbrev pub move_read : Setting → Part → Result Move TextFault
move_read c p = headed p >>= λ h. move_headed c h

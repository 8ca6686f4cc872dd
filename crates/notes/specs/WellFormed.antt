-- When notes and all that they hold are well formed: their terms and widths are. A text spells no others.
use Rattle.std.specs.Prelude.{ℕ, ◌==◌, Bool, true, ◌&&◌, ◌||◌, Option, Some, None}
use Rattle.std.specs.List.{list_all}
use Rattle.term_trees.specs.Terms.{well_formed}
use Rattle.term_trees.specs.Formulas.{well_formed_formula}
use Rattle.bitvector_rules.specs.declared.step.Step.{Step, Step-F, fold-Step}
use Rattle.notes.specs.declared.chunk.Chunk.{Chunk}
use Rattle.notes.specs.declared.chunk.Chunk.TheVariants.{Cell, Region, Row}
use Rattle.notes.specs.declared.heap_move.HeapMove.{HeapMove}
use Rattle.notes.specs.declared.heap_move.HeapMove.TheVariants.{Split, Merge, Forget, View, Halve, Unite, Readdr, Reval, Relen, Pick, Join, Enrow, Rows}
use Rattle.notes.specs.declared.assertion.Assertion.{Assertion}
use Rattle.notes.specs.declared.assertion.Contract.{Contract}
use Rattle.notes.specs.declared.uses.With.{With}
use Rattle.notes.specs.declared.uses.Take.{Take}
use Rattle.notes.specs.declared.moves.Move.{Move}
use Rattle.notes.specs.declared.moves.Move.TheVariants as move
use Rattle.notes.specs.declared.uses.Use.{Use}
use Rattle.notes.specs.declared.uses.Use.TheVariants as used
use Rattle.notes.specs.declared.outline.Note.{Note}
use Rattle.notes.specs.declared.outline.FuncNotes.{FuncNotes}
use Rattle.notes.specs.declared.outline.Initial.{Initial}
use Rattle.notes.specs.declared.outline.Lemma.{Lemma}
use Rattle.notes.specs.declared.outline.Notes.{Notes}

-- whether what there is passes a test
abbrev pub where_there : {A : Type 0} → (A → Bool) → Option A → Bool
where_there test None = true
where_there test (Some a) = test a

-- ---- chunks

-- Whether a width is that of a cell: 1, 2, 4 or 8 bytes.
abbrev pub is_width : ℕ → Bool
is_width w = (w == 1 || w == 2) || (w == 4 || w == 8)

-- Whether a chunk is well formed: its width and all in it are.
abbrev pub well_formed_chunk : Chunk → Bool
well_formed_chunk (Cell width at value) = is_width width && (well_formed at && well_formed value)
well_formed_chunk (Region at len) = well_formed at && well_formed len
well_formed_chunk (Row width at count each) = is_width width && (well_formed at && (well_formed count && well_formed_formula each))

-- ---- steps and moves

-- whether a step's formula is well formed, and all steps of its sub-derivations are
abbrev pub well_formed_step_here : Step-F Bool → Bool
well_formed_step_here s = well_formed_formula s.formula && list_all (λ sub. list_all (λ b. b) sub) s.subs

-- Whether a step is well formed.
abbrev pub well_formed_step : Step → Bool
well_formed_step s = fold-Step Bool well_formed_step_here s

-- Whether a heap move is well formed.
abbrev pub well_formed_heap_move : HeapMove → Bool
well_formed_heap_move (Split c t f g) = well_formed t
well_formed_heap_move (Merge c d f) = true
well_formed_heap_move (Forget c) = true
well_formed_heap_move (View c) = true
well_formed_heap_move (Halve c) = true
well_formed_heap_move (Unite c d f) = true
well_formed_heap_move (Readdr c t f) = well_formed t
well_formed_heap_move (Reval c t f) = well_formed t
well_formed_heap_move (Relen c t f) = well_formed t
well_formed_heap_move (Pick c t f g) = well_formed t
well_formed_heap_move (Join c d f) = true
well_formed_heap_move (Enrow c each f) = well_formed_formula each
well_formed_heap_move (Rows c w each) = is_width w && well_formed_formula each

-- Whether a move is well formed.
abbrev pub well_formed_move : Move → Bool
well_formed_move (move.Have f steps) = well_formed_formula f && list_all well_formed_step steps
well_formed_move (move.Name p) = true
well_formed_move (move.Let t) = well_formed t
well_formed_move (move.Put p t f) = well_formed t
well_formed_move (move.Heap m) = well_formed_heap_move m
well_formed_move (move.Each c f steps) = well_formed_formula f && list_all well_formed_step steps
well_formed_move (move.Lemma name ts facts) = list_all well_formed ts

-- ---- assertions and uses

-- Whether an assertion is well formed.
abbrev pub well_formed_assertion : Assertion → Bool
well_formed_assertion a = list_all well_formed_formula a.formulas && list_all well_formed_chunk a.chunks

-- Whether a contract is well formed.
abbrev pub well_formed_contract : Contract → Bool
well_formed_contract c = well_formed_assertion c.pre && well_formed_assertion c.post

-- Whether a `with` is well formed.
abbrev pub well_formed_with : With → Bool
well_formed_with w = list_all well_formed w.terms

-- Whether a take is well formed.
abbrev pub well_formed_take : Take → Bool
well_formed_take t = list_all well_formed_move t.moves && well_formed_with t.with

-- Whether a use is well formed.
abbrev pub well_formed_use : Use → Bool
well_formed_use used.Nothing = true
well_formed_use (used.With w) = well_formed_with w
well_formed_use (used.Cell c) = true
well_formed_use (used.Safe fs) = true
well_formed_use (used.Trap w) = well_formed_with w
well_formed_use (used.Take t) = well_formed_take t
well_formed_use (used.Table ts) = list_all well_formed_take ts
well_formed_use (used.Both w x) = well_formed_with w && well_formed_with x
well_formed_use (used.Label a) = well_formed_assertion a
well_formed_use (used.Loop a w) = well_formed_assertion a && well_formed_with w
well_formed_use (used.Skip a t) = well_formed_assertion a && well_formed_take t

-- ---- notes

-- Whether a note is well formed.
abbrev pub well_formed_note : Note → Bool
well_formed_note n = list_all well_formed_move n.moves && well_formed_use n.used

-- Whether the notes of a function are.
abbrev pub well_formed_func : FuncNotes → Bool
well_formed_func f = where_there well_formed_contract f.contract && list_all well_formed_note f.notes

-- Whether the initial part is.
abbrev pub well_formed_initial : Initial → Bool
well_formed_initial i =
    list_all well_formed_chunk i.chunks
    && (list_all well_formed_move i.moves && (well_formed_with i.with && where_there well_formed_take i.after))

-- Whether a lemma is.
abbrev pub well_formed_lemma : Lemma → Bool
well_formed_lemma l =
    list_all well_formed_formula l.hyps && (well_formed_formula l.goal && list_all well_formed_step l.steps)

-- Whether notes are well formed.
abbrev pub well_formed_notes : Notes → Bool
well_formed_notes n =
    well_formed_assertion n.invariant
    && (well_formed_initial n.initial && (list_all well_formed_func n.funcs && list_all well_formed_lemma n.lemmas))

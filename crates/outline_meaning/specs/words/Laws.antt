-- What is proved of pieces, moves and entailments: statements alone.
use Rattle.std.specs.Prelude.{◌≡◌, ℕ, ◌+◌, ◌%◌, ◌^◌, ◌<◌, ◌≤◌, ℤ, pos, List, [], ◌∷◌, ◌++◌, map, length, slice_index, Option, Ok, All, IfSome, IsTrue, ◌↔◌, is_some, Some, None, false}
use Rattle.std.specs.Option.{option_map_or}
use Rattle.wasm_syntax.specs.declared.module.Module.{Module}
use Rattle.wasm_syntax.specs.declared.module.Marks.{Marks}
use Rattle.wasm_values.specs.Operators.{bytes_of_number}
use Rattle.wasm_typing.specs.Valid.{ValInRange}
use Rattle.wasm_store.specs.declared.store.Store.{Store}
use Rattle.wasm_store.specs.Configuration.{Activation}
use Rattle.wasm_store.specs.Memory.{overwritten}
use Rattle.term_trees.specs.declared.term.Term.{Term}
use Rattle.term_trees.specs.declared.term.Formula.{Formula}
use Rattle.term_trees.specs.Leaves.{Leaves, replaced_formula}
use Rattle.term_trees.specs.Meaning.{Numbers, value, holds}
use Rattle.bitvector_rules.specs.Truth.{AllHold}
use Rattle.notes.specs.declared.chunk.Chunk.{Chunk}
use Rattle.notes.specs.declared.heap_move.HeapMove.{HeapMove}
use Rattle.notes.specs.declared.assertion.Assertion.{Assertion}
use Rattle.notes.specs.declared.outline.Initial.{Initial}
use Rattle.notes.specs.declared.outline.Notes.{Notes}
use Rattle.notes.specs.declared.moves.Move.{Move}
use Rattle.notes.specs.declared.moves.Move.TheVariants as move
use Rattle.term_trees.specs.declared.term.Place.{Place}
use Rattle.term_trees.specs.declared.term.Place.TheVariants as place
use Rattle.notes.specs.declared.uses.With.{With}
use Rattle.outline_rules.specs.Settings.{Setting, setting, is_memory_private}
use Rattle.outline_rules.specs.Initial.{are_chunks_right, chunks_added, started, initial_outlined}
use Rattle.outline_rules.specs.Entry.{initial_state}
use Rattle.outline_rules.specs.Tests.{LeafTest, assertion_reason}
use Rattle.outline_rules.specs.Outlines.{Verified, outline}
use Rattle.outline_meaning.specs.Initials.{FirstBytes}
use Rattle.outline_rules.specs.Chunks.{replaced_chunk}
use Rattle.outline_rules.specs.States.{State}
use Rattle.outline_rules.specs.Leaves.{has_leaves, formula_has_leaves, chunk_has_leaves}
use Rattle.outline_rules.specs.HeapMoves.{heap_moved}
use Rattle.outline_rules.specs.Moves.{move_made, moved}
use Rattle.outline_rules.specs.Entailment.{Wanted, Entailed, assertion_leaves, assertion_place, entailed}
use Rattle.outline_rules.specs.Fits.{Fits}
use Rattle.outline_rules.specs.Meets.{numbers_of, Held, held_by, PagesMeet, Meets, IsNamed, variable_leaves}
use Rattle.outline_rules.specs.words.Laws.{MeetsLater, LemmasAreRight}
use Rattle.outline_meaning.specs.Agreement.{Agrees, StandsInRows}
use Rattle.outline_meaning.specs.Pieces.{Piece, CellPiece, RegionPiece, piece_of, pieces_of, base_of, size_of, is_in, coverage, Lies, Fit}
use Rattle.outline_meaning.specs.Beside.{PagesFit, MeetsBeside, MeetsBesideLater, HeldInRange}

-- ---- pieces

-- Chunks fit a memory where their pieces do.
abbrev pub FitsIsFit : Type 0
FitsIsFit =
    (n : Numbers) (bytes : List ℕ) (chunks : List Chunk)
    → (Fits n bytes chunks → Fit bytes (pieces_of n chunks)) × (Fit bytes (pieces_of n chunks) → Fits n bytes chunks)

-- Where pieces fit, others that lie in the memory fit, too, where no byte lies in more of them: another order, a part, a
-- piece cut in two, two pieces made one.
abbrev pub FewerFit : Type 0
FewerFit =
    (bytes : List ℕ) (ps qs : List Piece)
    → Fit bytes ps → All (Lies bytes) qs → ((b : ℕ) → coverage qs b ≤ coverage ps b) → Fit bytes qs

-- The coverage of two lists is the sum of theirs.
abbrev pub CoverageAdds : Type 0
CoverageAdds = (ps qs : List Piece) (b : ℕ) → coverage (ps ++ qs) b ≡ coverage ps b + coverage qs b

-- Pieces that fit do so in another order, and so does each part of them.
abbrev pub OrdersFit : Type 0
OrdersFit =
    (bytes : List ℕ) (ps qs rs : List Piece)
    → (Fit bytes (ps ++ qs) → Fit bytes (qs ++ ps))
    × (Fit bytes (ps ++ qs ++ rs) → Fit bytes (qs ++ ps ++ rs))
    × (Fit bytes (ps ++ qs) → Fit bytes ps) × (Fit bytes (ps ++ qs) → Fit bytes qs)

-- A piece doesn't notice what bytes outside it come to, nor that the memory grows.
abbrev pub PieceIsBlind : Type 0
PieceIsBlind =
    (before after : List ℕ) (p : Piece)
    → length before ≤ length after
    → ((b : ℕ) → b < length before → IsTrue (is_in p b) → slice_index after b ≡ slice_index before b)
    → Lies before p → Lies after p

-- Nor do pieces that fit.
abbrev pub PiecesAreBlind : Type 0
PiecesAreBlind =
    (before after : List ℕ) (ps : List Piece)
    → length before ≤ length after
    → ((b : ℕ) → b < length before → coverage ps b ≡ 1 → slice_index after b ≡ slice_index before b)
    → Fit before ps → Fit after ps

-- A store in a cell: the cell has the number that is stored, and all others fit as before.
abbrev pub StoreFits : Type 0
StoreFits =
    (bytes : List ℕ) (start width : ℕ) (number : ℤ) (stored : ℕ) (before after : List Piece)
    → Fit bytes (before ++ CellPiece (pos start) width number ∷ after)
    → Fit (overwritten bytes start (bytes_of_number width stored)) (before ++ CellPiece (pos start) width (pos (stored % 256 ^ width)) ∷ after)

-- A write inside any piece: in its place there is a region then, and all others fit as before.
abbrev pub WriteFits : Type 0
WriteFits =
    (bytes : List ℕ) (start : ℕ) (new : List ℕ) (p : Piece) (before after : List Piece)
    → start + length new ≤ length bytes → ((b : ℕ) → start ≤ b → b < start + length new → IsTrue (is_in p b))
    → Fit bytes (before ++ p ∷ after) → Fit (overwritten bytes start new) (before ++ RegionPiece (base_of p) (size_of p) ∷ after)

-- A growth: all pieces fit as before, and so does the region of the new bytes beside them.
abbrev pub GrowthFits : Type 0
GrowthFits =
    (bytes new : List ℕ) (ps : List Piece)
    → Fit bytes ps → Fit (bytes ++ new) (ps ++ RegionPiece (pos (length bytes)) (pos (length new)) ∷ [])

-- ---- numbers

-- Terms, formulas and chunks mean the same under numbers that agree on their leaves: so also under numbers that are
-- extended.
abbrev pub AgreeingIsSame : Type 0
AgreeingIsSame =
    (l : Leaves) (n m : Numbers) → Agrees l n m
    → ((t : Term) → IsTrue (has_leaves l t) → value n t ≡ value m t)
    × ((f : Formula) → IsTrue (formula_has_leaves l f) → holds n f ≡ holds m f)
    × ((c : Chunk) → IsTrue (chunk_has_leaves l c) → piece_of n c ≡ piece_of m c)

-- Numbers that are extended agree on the leaves of a state.
abbrev pub ExtendedAgree : Type 0
ExtendedAgree = (n more : List ℤ) → Agrees (variable_leaves (length n)) (numbers_of n) (numbers_of (n ++ more))

-- The pieces of a state are the same under numbers that are extended.
abbrev pub PiecesExtend : Type 0
PiecesExtend =
    (s : State) (n more : List ℤ)
    → length n ≡ s.vars → IsNamed s → pieces_of (numbers_of n) s.chunks ≡ pieces_of (numbers_of (n ++ more)) s.chunks

-- Formulas and chunks with trees in place of their leaves mean what they mean under the numbers that stand for these.
abbrev pub ReplacingKeepsPieces : Type 0
ReplacingKeepsPieces =
    (l : Leaves) (n m : Numbers) → StandsInRows l n m
    → ((fs : List Formula) → AllHold n (map (replaced_formula l) fs) ↔ AllHold m fs)
    × ((cs : List Chunk) → pieces_of n (map (replaced_chunk l) cs) ≡ pieces_of m cs)

-- ---- states

-- A state that meets what is held does so beside nothing.
abbrev pub BesideNothing : Type 0
BesideNothing =
    (c : Setting) (s : State) (h : Held) (n : List ℤ) → Meets c s h n → MeetsBeside c s h n []

-- Values of a typed store and frame lie in their ranges.
abbrev pub TypedIsInRange : Type 0
TypedIsInRange =
    (store : Store) (f : Activation)
    → All (λ g. ValInRange g.value) store.globals → All (λ m. All (λ b. b < 256) m.bytes) store.memories
    → All ValInRange f.locals → All ValInRange f.operands
    → HeldInRange (held_by store f)

-- A state that meets what is held beside others meets it.
abbrev pub OthersForgotten : Type 0
OthersForgotten =
    (c : Setting) (s : State) (h : Held) (n : List ℤ) (others : List Piece) → MeetsBeside c s h n others → Meets c s h n

-- ---- moves

-- A heap move keeps meaning beside others.
abbrev pub HeapMoveKeeps : Type 0
HeapMoveKeeps =
    (m : HeapMove) (c : Setting) (s t : State) (h : Held) (n : List ℤ) (others : List Piece)
    → HeldInRange h → MeetsBeside c s h n others → heap_moved m s ≡ Ok t → MeetsBesideLater c t h n others

-- A move keeps meaning beside others.
abbrev pub MoveKeeps : Type 0
MoveKeeps =
    (m : Move) (c : Setting) (s t : State) (h : Held) (n : List ℤ) (others : List Piece)
    → LemmasAreRight c → HeldInRange h → MeetsBeside c s h n others → move_made c m s ≡ Ok t → MeetsBesideLater c t h n others

-- So it keeps meaning alone.
abbrev pub MoveKeepsAlone : Type 0
MoveKeepsAlone =
    (m : Move) (c : Setting) (s t : State) (h : Held) (n : List ℤ)
    → LemmasAreRight c → HeldInRange h → Meets c s h n → move_made c m s ≡ Ok t → MeetsLater c t h n

-- A move keeps meaning whatever is held, in its ranges or not.
abbrev pub MoveKeepsAnything : Move → Type 0
MoveKeepsAnything m =
    (c : Setting) (s t : State) (h : Held) (n : List ℤ)
    → LemmasAreRight c → Meets c s h n → move_made c m s ≡ Ok t → MeetsLater c t h n

-- That what is held lies in its ranges can't be left out: `name (local 0)` would else not keep meaning.
abbrev pub RangesAreNeeded : Type 0
RangesAreNeeded = (c : Setting) → LemmasAreRight c → MoveKeepsAnything (move.Name (place.Local 0)) → ⊥

-- So do moves, one after another.
abbrev pub MovesKeep : Type 0
MovesKeep =
    (ms : List Move) (c : Setting) (s t : State) (h : Held) (n : List ℤ) (others : List Piece)
    → LemmasAreRight c → HeldInRange h → MeetsBeside c s h n others → moved c ms s ≡ Ok t → MeetsBesideLater c t h n others

-- What moves leave of a state, whatever is held: the terms of parameters and of the precondition's own variables; the types
-- of locals and operands; which globals have a term, and whether the page count has one; and variables are only added.
pub record SameSlots (s t : State) : Type 0 where
  pub args : t.args ≡ s.args
  pub given : t.given ≡ s.given
  pub locals : map (λ e. e.0) t.locals ≡ map (λ e. e.0) s.locals
  pub operands : map (λ e. e.0) t.operands ≡ map (λ e. e.0) s.operands
  pub globals : map (λ (g : Option Term). is_some g) t.globals ≡ map (λ (g : Option Term). is_some g) s.globals
  pub pages : is_some t.pages ≡ is_some s.pages
  pub vars : s.vars ≤ t.vars

-- A move leaves that, and so do moves one after another.
abbrev pub MovesLeaveSlots : Type 0
MovesLeaveSlots =
    (c : Setting) (s t : State)
    → ((m : Move) → move_made c m s ≡ Ok t → SameSlots s t) × ((ms : List Move) → moved c ms s ≡ Ok t → SameSlots s t)

-- ---- entailments

-- An assertion holds as a state entails it: with these terms for its own variables and the places of the state its formulas
-- are true, and its chunks fit jointly with those that are left and with the pieces of others.
pub record AssertedBeside (s : State) (want : Wanted) (e : Entailed) (held : Option (List ℕ)) (n : List ℤ) (others : List Piece) : Type 0 where
  pub formulas : AllHold (numbers_of n) (map (replaced_formula (assertion_leaves s (want.fixed ++ e.terms) want.args want.result)) want.assertion.formulas)
  pub chunks :
      PagesFit (numbers_of n) s.pages
      (pieces_of (numbers_of n) (map (replaced_chunk (assertion_leaves s (want.fixed ++ e.terms) want.args want.result)) want.assertion.chunks)
      ++ (pieces_of (numbers_of n) e.left ++ others)) held

-- What a state entails, beside others, holds.
abbrev pub EntailmentKeeps : Type 0
EntailmentKeeps =
    (c : Setting) (s : State) (h : Held) (want : Wanted) (w : With) (e : Entailed) (n : List ℤ) (others : List Piece)
    → MeetsBeside c s h n others → entailed s want w ≡ Ok e → AssertedBeside s want e h.memory n others

-- An assertion holds as a state entails it, alone: with these terms for its own variables and the places of the state its
-- formulas are true, and its chunks fit the private memory, apart from those that are left.
pub record AssertedAlone (s : State) (want : Wanted) (e : Entailed) (held : Option (List ℕ)) (n : List ℤ) : Type 0 where
  pub formulas : AllHold (numbers_of n) (map (replaced_formula (assertion_leaves s (want.fixed ++ e.terms) want.args want.result)) want.assertion.formulas)
  pub chunks :
      PagesMeet (numbers_of n) s.pages
      (map (replaced_chunk (assertion_leaves s (want.fixed ++ e.terms) want.args want.result)) want.assertion.chunks ++ e.left) held

-- What a state that meets what is held entails, holds.
abbrev pub EntailmentKeepsAlone : Type 0
EntailmentKeepsAlone =
    (c : Setting) (s : State) (h : Held) (want : Wanted) (w : With) (e : Entailed) (n : List ℤ)
    → Meets c s h n → entailed s want w ≡ Ok e → AssertedAlone s want e h.memory n

-- The numbers that an assertion is read under, apart from any state: the state's variables, numbers for its own variables,
-- and a number for each place.
abbrev pub assertion_numbers : State → (want : Wanted) → (terms : List Term) → List ℤ → Numbers
assertion_numbers s want terms n = record {
  variables = n;
  own = map (value (numbers_of n)) (want.fixed ++ terms);
  places = λ p. option_map_or (value (numbers_of n)) (assertion_place s want.args want.result p) (pos 0);
}

-- What is wanted names no more than the state does.
pub record WantedIsNamed (s : State) (want : Wanted) : Type 0 where
  pub args : All (λ t. IsTrue (has_leaves (variable_leaves s.vars) t)) want.args
  pub fixed : All (λ t. IsTrue (has_leaves (variable_leaves s.vars) t)) want.fixed
  pub result : IfSome want.result (λ t. IsTrue (has_leaves (variable_leaves s.vars) t))

-- The same without the state's terms: the assertion itself holds under its numbers, and its pieces under these fit jointly
-- with those that are left and with the pieces of others.
pub record AssertionHolds (s : State) (want : Wanted) (e : Entailed) (held : Option (List ℕ)) (n : List ℤ) (others : List Piece) : Type 0 where
  pub formulas : AllHold (assertion_numbers s want e.terms n) want.assertion.formulas
  pub chunks :
      PagesFit (numbers_of n) s.pages
      (pieces_of (assertion_numbers s want e.terms n) want.assertion.chunks ++ (pieces_of (numbers_of n) e.left ++ others)) held

-- What a state entails holds under the assertion's own numbers.
abbrev pub EntailmentHandsOver : Type 0
EntailmentHandsOver =
    (c : Setting) (s : State) (h : Held) (want : Wanted) (w : With) (e : Entailed) (n : List ℤ) (others : List Piece)
    → MeetsBeside c s h n others → WantedIsNamed s want → entailed s want w ≡ Ok e → AssertionHolds s want e h.memory n others

-- ---- the chunks of `initial`

-- The chunks of `initial` that keep the rules fit the first bytes of the private memory.
abbrev pub InitialChunksFit : Type 0
InitialChunksFit =
    (c : Setting) (n : Numbers) (chunks : List Chunk) (bytes : List ℕ)
    → FirstBytes c bytes → IsTrue (are_chunks_right c chunks) → Fit bytes (pieces_of n chunks)

-- A state without chunks that meets what is held meets it with those of `initial`, too.
abbrev pub InitialChunksKeep : Type 0
InitialChunksKeep =
    (c : Setting) (s t : State) (h : Held) (n : List ℤ) (chunks : List Chunk)
    → MeetsBeside c s h n [] → s.chunks ≡ [] → is_some s.pages ≡ is_memory_private c
    → ((bytes : List ℕ) → h.memory ≡ Some bytes → FirstBytes c bytes)
    → IsTrue (are_chunks_right c chunks) → chunks_added chunks s ≡ Ok t → MeetsBeside c t h n []

-- Where the initial part goes through, there is an initial state; and where it meets what is held in a new instance, so does
-- some state after its chunks and moves, under more numbers, from which the start goes through.
abbrev pub InitialGoes : Type 0
InitialGoes =
    (c : Setting) (initial : Initial) → initial_outlined c initial ≡ Ok tt
    → (s : State) × (initial_state c ≡ Ok s)
    × ((h : Held) (n : List ℤ) → LemmasAreRight c → HeldInRange h → MeetsBeside c s h n []
    → ((bytes : List ℕ) → h.memory ≡ Some bytes → FirstBytes c bytes)
    → (t : State) × (started c c.code.start initial t ≡ Ok tt) × MeetsBesideLater c t h n [])

-- ---- what a verified outline gives

-- The lemmas of the notes of a verified outline are right.
abbrev pub VerifiedLemmas : Type 0
VerifiedLemmas = (m : Module) (marks : Marks) (notes : Notes) → outline m marks notes ≡ Verified → LemmasAreRight (setting m notes)

-- The test finds no reason against a leaf only where there is one.
pub record Admits (t : LeafTest) (l : Leaves) : Type 0 where
  pub own : (k : ℕ) → t.own k ≡ None → IsTrue (is_some (l.own k))
  pub places : (p : Place) → t.place p ≡ None → IsTrue (is_some (l.place p))

-- An assertion has these leaves alone, and chunks only where there is a private memory.
pub record AssertionIsTested (c : Setting) (l : Leaves) (a : Assertion) : Type 0 where
  pub formulas : All (λ f. IsTrue (formula_has_leaves l f)) a.formulas
  pub chunks : All (λ d. IsTrue (chunk_has_leaves l d)) a.chunks
  pub none : is_memory_private c ≡ false → a.chunks ≡ []

-- What the test of an assertion lets through has the leaves that it may have.
abbrev pub TestedIsNamed : Type 0
TestedIsNamed =
    (c : Setting) (t : LeafTest) (l : Leaves) (a : Assertion) → Admits t l → assertion_reason c t a ≡ None → AssertionIsTested c l a

-- Lists that are read by their kinds are read as the grammar says.
use Rattle.std.proofs.Common.{◌≡◌, ℕ, Bool, true, false, if◌then◌else◌, Result, Ok, Err, List, refl, sym, ap}
use Rattle.std.specs.Prelude.{codes}
use Rattle.sexp_text.specs.declared.fault.TextFault.{TextFault}
use Rattle.sexp_text.specs.Reading.{◌>>=◌}
use Rattle.term_trees.specs.declared.term.Term.{Term}
use Rattle.term_trees.specs.declared.term.Formula.{Formula}
use Rattle.bitvector_rules.specs.declared.step.Step.{Step}
use Rattle.notes.specs.declared.chunk.Chunk.{Chunk}
use Rattle.notes.specs.declared.chunk.Chunk.TheVariants as chunk
use Rattle.notes.specs.declared.assertion.Assertion.{Assertion}
use Rattle.notes.specs.declared.uses.With.{With}
use Rattle.notes.specs.declared.heap_move.HeapMove.{HeapMove}
use Rattle.notes.specs.declared.heap_move.HeapMove.TheVariants as heap
use Rattle.notes.specs.declared.moves.Move.{Move}
use Rattle.notes.specs.declared.moves.Move.TheVariants as move
use Rattle.notes_grammar.specs.declared.head.Head.{Head}
use Rattle.notes_grammar.specs.declared.head.Head.TheVariants as head
use Rattle.notes_grammar.specs.Parts.{Part, Parts}
use Rattle.notes_grammar.specs.Shapes.{Setting}
use Rattle.notes_grammar.specs.Reading.{Headed, headed, tagged, form, in_second, field, list_of, small, width, place_in, term_in, formula_in, steps_in, known_name, row_list, cell_list, region_list, chunk_at, chunk_in, assertion_in, with_list, with_in, one_small, three_small, small_term_small, small_term_two, enrow_list, rows_list, heap_at, have_list, put_list, each_list, lemma_use, move_at, move_in}
use Rattle.notes_moves.specs.declared.heap_moves.OnTwo.TheVariants as two
use Rattle.notes_moves.specs.declared.heap_moves.OnPart.TheVariants as at_part
use Rattle.notes_moves.specs.declared.heap_moves.HeapKind.{HeapKind}
use Rattle.notes_moves.specs.declared.heap_moves.HeapKind.TheVariants as heap_kinds
use Rattle.notes_moves.specs.declared.moves.MoveKind.{MoveKind}
use Rattle.notes_moves.specs.declared.moves.MoveKind.TheVariants as move_kinds
use Rattle.notes_moves.specs.words.Assertions.{assertion_read, with_parts, with_read}
use Rattle.notes_moves.specs.words.Chunks.{chunk_kind, cell_read, region_read, row_read, chunk_formed, chunk_read}
use Rattle.notes_moves.specs.words.HeapMoves.{heap_kind, rows_read, heap_formed}
use Rattle.notes_moves.specs.words.Moves.{move_kind, derivation_read, put_read, each_read, use_read, move_formed, move_headed, move_read}
use Rattle.notes_moves.proofs.Endings.{one_made, two_made, three_made}

-- both sides go on alike
pub alike : {A B : Type 0} (r : Result A TextFault) (f g : A → Result B TextFault) → ((x : A) → f x ≡ g x) → (r >>= f) ≡ (r >>= g)
alike (Ok x) f g e = e x
alike (Err d) f g e = refl

-- ---- chunks

cell_same : (later : Bool) (close : ℕ) (ps : Parts) → cell_list later close ps ≡ cell_read later close ps
unfolding cell_list
cell_same later close ps =
    alike (field width close ps) (λ w. field (term_in later) close w.1 >>= λ a. field (term_in later) close a.1 >>= λ v. _) _
    (λ w. two_made (λ a v. chunk.Cell w.0 a v) (term_in later) (term_in later) close w.1)

region_same : (later : Bool) (close : ℕ) (ps : Parts) → region_list later close ps ≡ region_read later close ps
unfolding region_list
region_same later close ps = two_made (λ a n. chunk.Region a n) (term_in later) (term_in later) close ps

row_same : (later : Bool) (close : ℕ) (ps : Parts) → row_list later close ps ≡ row_read later close ps
unfolding row_list
row_same later close ps =
    alike (field width close ps) _ _ (λ w. three_made (λ a n f. chunk.Row w.0 a n f) (term_in later) (term_in later) (formula_in later) close w.1)

chunk_same : (later : Bool) (h : Headed) (k : Head) → chunk_at later h k ≡ chunk_formed later (chunk_kind later k) h
unfolding chunk_at
chunk_same later h head.Cell = cell_same later h.close h.rest
chunk_same later h head.Region = region_same later h.close h.rest
chunk_same later h head.Row = by later
  where
    by : (b : Bool) → in_second b h.at (row_list later h.close h.rest) ≡ chunk_formed later (chunk_kind b head.Row) h
    by true = row_same later h.close h.rest
    by false = refl
chunk_same later h k = refl

pub chunk_is : (later : Bool) (p : Part) → chunk_in later p ≡ chunk_read later p
unfolding chunk_in
chunk_is later p = alike (headed p) _ _ (λ h. chunk_same later h h.head)

-- ---- assertions and `with`s

pub assertion_is : (later : Bool) (p : Part) → assertion_in later p ≡ assertion_read later p
unfolding assertion_in
assertion_is later p = alike (tagged (codes "assert") p) _ _ (λ l. three_made made small (list_of (formula_in later)) (list_of (chunk_in later)) l.1 l.0)
  where
    made : ℕ → List Formula → List Chunk → Assertion
    made n fs cs = record { own = n; formulas = fs; chunks = cs }

pub with_list_is : (later : Bool) (close : ℕ) (ps : Parts) → with_list later close ps ≡ with_parts later close ps
unfolding with_list
with_list_is later close ps = three_made made (list_of (term_in later)) (list_of small) (list_of small) close ps
  where
    made : List Term → List ℕ → List ℕ → With
    made ts fs cs = record { terms = ts; facts = fs; chunks = cs }

pub with_is : (later : Bool) (p : Part) → with_in later p ≡ with_read later p
unfolding with_in
with_is later p = alike (tagged (codes "with") p) _ _ (λ l. with_list_is later l.1 l.0)

-- ---- moves on chunks

rows_same : (later : Bool) (close : ℕ) (ps : Parts) → rows_list later close ps ≡ rows_read later close ps
unfolding rows_list
rows_same later close ps =
    alike (field small close ps) _ _ (λ c. alike (field width close c.1) _ _ (λ w. one_made (λ e. heap.Rows c.0 w.0 e) (formula_in later) close w.1))

second_heap : (b : Bool) (at : ℕ) (r : Result HeapMove TextFault) (formed : HeapKind → Result HeapMove TextFault) (k : HeapKind) →
    r ≡ formed k → formed heap_kinds.Other ≡ form at → in_second b at r ≡ formed (if b then k else heap_kinds.Other)
second_heap true at r formed k e o = e
second_heap false at r formed k e o = sym o

pub heap_same : (later : Bool) (h : Headed) (k : Head) → heap_at later h k ≡ heap_formed later (heap_kind later k) h
unfolding heap_at one_small three_small small_term_small small_term_two enrow_list
heap_same later h head.Split = refl
heap_same later h head.Merge = refl
heap_same later h head.Forget = refl
heap_same later h head.View = refl
heap_same later h head.Halve = refl
heap_same later h head.Unite = refl
heap_same later h head.Readdr = refl
heap_same later h head.Reval = refl
heap_same later h head.Relen = refl
heap_same later h head.Pick =
    second_heap later h.at _ (λ k. heap_formed later k h) (heap_kinds.Part at_part.Pick) refl refl
heap_same later h head.Join =
    second_heap later h.at _ (λ k. heap_formed later k h) (heap_kinds.Two two.Join) refl refl
heap_same later h head.Enrow =
    second_heap later h.at _ (λ k. heap_formed later k h) heap_kinds.Enrow (three_made (λ c e f. heap.Enrow c e f) small (formula_in later) small h.close h.rest) refl
heap_same later h head.Rows =
    second_heap later h.at _ (λ k. heap_formed later k h) heap_kinds.Rows (rows_same later h.close h.rest) refl
heap_same later h k = refl

-- ---- moves

derived : Formula → List Step → Formula × List Step
derived f ss = (f, ss)

-- a formula and its steps, and what is made of them
made_of : (later : Bool) (make : Formula → List Step → Move) (close : ℕ) (ps : Parts) →
    (field (formula_in later) close ps >>= λ f. steps_in later f.1 0 >>= λ ss. Ok (make f.0 ss)) ≡ (derivation_read later close ps >>= λ x. Ok (make x.0 x.1))
unfolding derived
made_of later make close ps = by (field (formula_in later) close ps)
  where
    by_steps : (f : Formula) (r : Result (List Step) TextFault) → (r >>= λ ss. Ok (make f ss)) ≡ ((r >>= λ ss. Ok (derived f ss)) >>= λ x. Ok (make x.0 x.1))
    by_steps f (Ok ss) = refl
    by_steps f (Err e) = refl

    by : (r : Result (Formula × Parts) TextFault) →
        (r >>= λ f. steps_in later f.1 0 >>= λ ss. Ok (make f.0 ss)) ≡ ((r >>= λ f. steps_in later f.1 0 >>= λ ss. Ok (derived f.0 ss)) >>= λ x. Ok (make x.0 x.1))
    by (Ok f) = by_steps f.0 (steps_in later f.1 0)
    by (Err e) = refl

have_same : (later : Bool) (close : ℕ) (ps : Parts) → have_list later close ps ≡ (derivation_read later close ps >>= λ x. Ok (move.Have x.0 x.1))
unfolding have_list
have_same later close ps = made_of later (λ f ss. move.Have f ss) close ps

each_same : (later : Bool) (close : ℕ) (ps : Parts) → each_list later close ps ≡ each_read later close ps
unfolding each_list
each_same later close ps = alike (field small close ps) _ _ (λ c. made_of later (λ f ss. move.Each c.0 f ss) close c.1)

put_same : (later : Bool) (close : ℕ) (ps : Parts) → put_list later close ps ≡ put_read later close ps
unfolding put_list
put_same later close ps = three_made (λ p t f. move.Put p t f) (place_in later) (term_in later) small close ps

use_same : (c : Setting) (close : ℕ) (ps : Parts) → lemma_use c close ps ≡ use_read c close ps
unfolding lemma_use
use_same c close ps = three_made (λ n ts fs. move.Lemma n ts fs) (known_name c.names) (list_of (term_in c.later)) (list_of small) close ps

second_move : (b : Bool) (at : ℕ) (r : Result Move TextFault) (formed : MoveKind → Result Move TextFault) (k : MoveKind) →
    r ≡ formed k → formed (move_kinds.Heap heap_kinds.Other) ≡ form at → in_second b at r ≡ formed (if b then k else move_kinds.Heap heap_kinds.Other)
second_move true at r formed k e o = e
second_move false at r formed k e o = sym o

move_same : (c : Setting) (h : Headed) (k : Head) → move_at c h k ≡ move_formed c (move_kind c.later k) h
unfolding move_at
move_same c h head.Have = have_same c.later h.close h.rest
move_same c h head.Name = one_made (λ p. move.Name p) (place_in c.later) h.close h.rest
move_same c h head.Let = one_made (λ t. move.Let t) (term_in c.later) h.close h.rest
move_same c h head.Put = put_same c.later h.close h.rest
move_same c h head.Each = second_move c.later h.at _ (λ k. move_formed c k h) move_kinds.Each (each_same c.later h.close h.rest) refl
move_same c h head.Use = second_move c.later h.at _ (λ k. move_formed c k h) move_kinds.Use (use_same c h.close h.rest) refl
move_same c h k = ap (λ r. r >>= λ m. Ok (move.Heap m)) (heap_same c.later h k)

pub move_headed_is : (c : Setting) (h : Headed) → move_at c h h.head ≡ move_headed c h
move_headed_is c h = move_same c h h.head

pub move_is : (c : Setting) (p : Part) → move_in c p ≡ move_read c p
unfolding move_in
move_is c p = alike (headed p) _ _ (λ h. move_headed_is c h)

-- What is proved of the outline check: statements alone.
use Rattle.std.specs.Prelude.{Some, ◌≡◌, ℕ, ◌+◌, ℤ, List, [], ◌∷◌, ◌++◌, map, Option, Ok, All, IsTrue, true}
use Rattle.wasm_syntax.specs.declared.module.Module.{Module}
use Rattle.wasm_syntax.specs.declared.module.Marks.{Marks}
use Rattle.wasm_syntax.specs.Trees as tree
use Rattle.wasm_syntax.specs.Trees.{Instruction, Sequence, Empty, Then, IfElse}
use Rattle.wasm_syntax.specs.Places.{size_of}
use Rattle.wasm_values.specs.declared.number.Val.{Val}
use Rattle.wasm_values.specs.declared.number.ValType.{ValType}
use Rattle.notes.specs.declared.uses.Use.{Use}
use Rattle.outline_rules.specs.Instructions.{const}
use Rattle.wasm_store.specs.declared.store.Store.{Store}
use Rattle.wasm_store.specs.Configuration.{Activation, pushed}
use Rattle.term_trees.specs.declared.term.Place.{Place}
use Rattle.term_trees.specs.declared.term.Term.{Term}
use Rattle.term_trees.specs.declared.term.Formula.{Formula}
use Rattle.term_trees.specs.Leaves.{Leaves, replaced, replaced_formula}
use Rattle.bitvector_rules.specs.declared.step.Step.{Step}
use Rattle.bitvector_rules.specs.Truth.{AllHold}
use Rattle.derivation_check.specs.Derivations.{Derives}
use Rattle.notes.specs.declared.chunk.Chunk.{Chunk}
use Rattle.notes.specs.declared.outline.Lemma.{Lemma}
use Rattle.notes.specs.declared.outline.Notes.{Notes}
use Rattle.notes.specs.declared.uses.Take.{Take}
use Rattle.notes.specs.declared.uses.With.{With}
use Rattle.outline_rules.specs.Settings.{Setting, setting, body_of, IsDefined}
use Rattle.outline_rules.specs.States.{State, settled, fact_added}
use Rattle.outline_rules.specs.Chunks.{replaced_chunk}
use Rattle.outline_rules.specs.Leaves.{has_leaves, formula_has_leaves}
use Rattle.outline_rules.specs.Moves.{have}
use Rattle.outline_rules.specs.Tests.{lemma_variables, lemma_formulas}
use Rattle.outline_rules.specs.Entailment.{Wanted, Entailed, assertion_leaves, entailed}
use Rattle.outline_rules.specs.Flows.{Flow, Live}
use Rattle.outline_rules.specs.Entry.{entry_state}
use Rattle.outline_rules.specs.Body.{closes_at, walk_instruction, body_walked}
use Rattle.notes.specs.declared.assertion.Assertion.{Assertion}
use Rattle.outline_rules.specs.Renewal.{Renewing, renewed}
use Rattle.outline_rules.specs.words.Plain.{plain_renewed, plain_resumed, plain_entry}
use Rattle.outline_rules.specs.Branches.{Label, is_zero}
use Rattle.outline_rules.specs.Blocks.{Begun, Changes, changes_of, joined, resumed, block_begun, loop_begun, if_begun, if_else_begun}
use Rattle.outline_rules.specs.Accepted.{Open, OfSide, OfLoop, OfSkip, labels_of, closed, AcceptedFrom, OpensAccepted, TargetsAccepted, opened}
use Rattle.outline_rules.specs.Outlines.{Verified, outline}
use Rattle.outline_rules.specs.Fits.{Fits}
use Rattle.outline_rules.specs.Meets.{numbers_of, Extends, Held, held_by, Meets}

-- ---- moves keep meaning

-- Some list that extends the numbers makes a state meet what is held.
abbrev pub MeetsLater : Setting → State → Held → List ℤ → Type 0
MeetsLater c s h n = (m : List ℤ) × Extends m n × Meets c s h m

-- A lemma has no leaf but `vK` with K below its count, and its steps derive its goal from its hypotheses.
pub record LemmaIsRight (l : Lemma) : Type 0 where
  pub named : All (λ g. IsTrue (formula_has_leaves (lemma_variables l.vars) g)) (lemma_formulas l)
  pub derives : Derives l.hyps l.goal l.steps

-- The lemmas of the notes are so.
abbrev pub LemmasAreRight : Setting → Type 0
LemmasAreRight c = All LemmaIsRight c.notes.lemmas

-- `have` keeps meaning, under the same numbers.
abbrev pub HaveIsSound : Type 0
HaveIsSound =
    (c : Setting) (s t : State) (h : Held) (n : List ℤ) (f : Formula) (steps : List Step)
    → Meets c s h n → have f steps s ≡ Ok t → Meets c t h n

-- ---- an entailment gives the assertion

-- The formulas of an assertion are true and its chunks fit, with these terms for its own variables and the places of the
-- state, and the chunks that are left fit apart from them.
pub record Asserted (s : State) (want : Wanted) (terms : List Term) (left : List Chunk) (bytes : List ℕ) (n : List ℤ) : Type 0 where
  pub formulas : AllHold (numbers_of n) (map (replaced_formula (assertion_leaves s (want.fixed ++ terms) want.args want.result)) want.assertion.formulas)
  pub chunks : Fits (numbers_of n) bytes (map (replaced_chunk (assertion_leaves s (want.fixed ++ terms) want.args want.result)) want.assertion.chunks ++ left)

-- Where the facts of a state are true and its chunks fit a memory, and it entails an assertion, the assertion holds with
-- the named terms.
abbrev pub EntailmentIsSound : Type 0
EntailmentIsSound =
    (s : State) (want : Wanted) (w : With) (e : Entailed) (n : List ℤ) (bytes : List ℕ)
    → AllHold (numbers_of n) s.facts → Fits (numbers_of n) bytes s.chunks → entailed s want w ≡ Ok e → Asserted s want e.terms e.left bytes n

-- ---- instructions keep meaning

-- A constant keeps meaning: the state after it meets what is held with its value on top.
abbrev pub ConstIsSound : Type 0
ConstIsSound =
    (c : Setting) (s t : State) (store : Store) (f : Activation) (n : List ℤ) (v : Val) (u : Use)
    → Meets c s (held_by store f) n → const v u s ≡ Ok t → Meets c t (held_by store (pushed f v)) n

-- ---- the walk, and what is left of it

-- A walk that goes through is accepted from its beginning.
abbrev pub BodyIsAccepted : Type 0
BodyIsAccepted =
    (c : Setting) (f : ℕ) (body : Sequence) (s : State) → body_walked c f body s ≡ Ok tt → AcceptedFrom c f [] 0 body (Live s)

-- After its first instruction the rest of accepted code is accepted.
abbrev pub FirstIsAccepted : Type 0
FirstIsAccepted =
    (c : Setting) (f : ℕ) (os : List Open) (n : ℕ) (i : Instruction) (rest : Sequence) (flow : Flow)
    → AcceptedFrom c f os n (Then i rest) flow
    → (mid : Flow) × (walk_instruction c f (labels_of os) n i flow ≡ Ok mid) × AcceptedFrom c f os (n + size_of i) rest mid

-- At the end of the innermost code of an open block all code after it is accepted.
abbrev pub EndIsAccepted : Type 0
EndIsAccepted =
    (c : Setting) (f : ℕ) (o : Open) (os : List Open) (n : ℕ) (flow : Flow)
    → AcceptedFrom c f (o ∷ os) n Empty flow
    → (next : Flow) × (closed c f o n flow ≡ Ok next) × AcceptedFrom c f os o.number o.rest next

-- Where any branch to an open block goes, the code is accepted.
abbrev pub TargetsAreAccepted : Type 0
TargetsAreAccepted =
    (c : Setting) (f : ℕ) (os : List Open) (n : ℕ) (code : Sequence) (flow : Flow)
    → AcceptedFrom c f os n code flow → OpensAccepted c f os → TargetsAccepted c f os

-- The code that a block opens is accepted, with the block open.
pub record OpensTo (c : Setting) (f : ℕ) (os : List Open) (number : ℕ) (code : Sequence) (start : State) (o : Open) : Type 0 where
  pub accepted : AcceptedFrom c f (o ∷ os) number code (Live start)
  pub opens : OpensAccepted c f (o ∷ os)

-- the open block of a `block`
abbrev pub open_block : Begun → (body rest : Sequence) → (after : ℕ) → (merged : State) → Open
open_block b body rest after merged = opened b (changes_of body) merged OfSide rest after

-- A `block` opens: it begins, its body is accepted from its start, and what follows from the state after it.
abbrev pub BlockIsAccepted : Type 0
BlockIsAccepted =
    (c : Setting) (f : ℕ) (os : List Open) (n : ℕ) (ty : Option ValType) (body rest : Sequence) (s : State)
    → OpensAccepted c f os → AcceptedFrom c f os n (Then (tree.Block ty body) rest) (Live s)
    → (b : Begun) × (merged : State) × (block_begun c f n ty s ≡ Ok b)
    × OpensTo c f os (n + 1) body b.start (open_block b body rest (n + size_of (tree.Block ty body)) merged)

-- the open block of a `loop`, whose body begins at a number
abbrev pub open_loop : Begun → (body rest : Sequence) → (inside after : ℕ) → Open
open_loop b body rest inside after = opened b (changes_of body) b.start (OfLoop body inside) rest after

-- A `loop` opens likewise.
abbrev pub LoopIsAccepted : Type 0
LoopIsAccepted =
    (c : Setting) (f : ℕ) (os : List Open) (n : ℕ) (ty : Option ValType) (body rest : Sequence) (s : State)
    → OpensAccepted c f os → AcceptedFrom c f os n (Then (tree.Loop ty body) rest) (Live s)
    → (b : Begun) × (loop_begun c f n (changes_of body) s ≡ Ok b)
    × OpensTo c f os (n + 1) body b.start (open_loop b body rest (n + 1) (n + size_of (tree.Loop ty body)))

-- the first side of an `if` with `else` as an open block, and the second
abbrev pub open_side : Begun → (first second rest : Sequence) → (after : ℕ) → (merged : State) → Open
open_side b first second rest after merged = opened b (joined (changes_of first) (changes_of second)) merged OfSide rest after

-- An `if` with `else` opens either side: the second from the state at its start.
abbrev pub IfElseIsAccepted : Type 0
IfElseIsAccepted =
    (c : Setting) (f : ℕ) (os : List Open) (n : ℕ) (ty : Option ValType) (first second rest : Sequence) (s : State)
    → OpensAccepted c f os → AcceptedFrom c f os n (Then (IfElse ty first second) rest) (Live s)
    → (b : Begun × Term) × (merged turned : State) × (if_else_begun c f n ty s ≡ Ok b)
    × (fact_added (is_zero b.1) b.0.entry ≡ Ok turned)
    × OpensTo c f os (n + 1) first b.0.start (open_side b.0 first second rest (n + size_of (IfElse ty first second)) merged)
    × OpensTo c f os (closes_at n first + 1) second turned (open_side b.0 first second rest (n + size_of (IfElse ty first second)) merged)

-- the open block of an `if` without `else` that is passed over
abbrev pub open_skip : Begun → Take → (first rest : Sequence) → (after : ℕ) → (merged : State) → Open
open_skip b take first rest after merged = opened b (changes_of first) merged (OfSkip take) rest after

-- An `if` without `else` opens its side; passed over, it ends by the take of its `skip`.
abbrev pub IfIsAccepted : Type 0
IfIsAccepted =
    (c : Setting) (f : ℕ) (os : List Open) (n : ℕ) (ty : Option ValType) (first rest : Sequence) (s : State)
    → OpensAccepted c f os → AcceptedFrom c f os n (Then (tree.If ty first) rest) (Live s)
    → (b : Begun × Term) × (take : Take) × (merged passed : State) × (if_begun c f (labels_of os) n ty s ≡ Ok b)
    × (fact_added (is_zero b.1) b.0.entry ≡ Ok passed)
    × OpensTo c f os (n + 1) first b.0.start (open_block b.0 first rest (n + size_of (tree.If ty first)) merged)
    × OpensTo c f os n Empty passed (open_skip b.0 take first rest (n + size_of (tree.If ty first)) merged)

-- A verified outline has, for each function that the module defines, a state at its entry from which its body is accepted.
abbrev pub FunctionsAreAccepted : Type 0
FunctionsAreAccepted =
    (m : Module) (marks : Marks) (notes : Notes) (f : ℕ)
    → outline m marks notes ≡ Verified → IsDefined (setting m notes) f
    → (s : State) × (entry_state (setting m notes) f ≡ Ok s) × AcceptedFrom (setting m notes) f [] 0 (body_of (setting m notes) f) (Live s)

-- ---- without the limits

-- A state that is within the limits is the one that was to be made.
abbrev pub SettledIsSame : Type 0
SettledIsSame = (made : List ℕ) (s t : State) → settled made s ≡ Ok t → t ≡ s

-- A renewal within the limits gives what it gives without them.
abbrev pub RenewedIsPlain : Type 0
RenewedIsPlain = (r : Renewing) (a : Assertion) (s t : State) → renewed r a s ≡ Ok t → t ≡ plain_renewed r a s

-- So does the state after a block.
abbrev pub ResumedIsPlain : Type 0
ResumedIsPlain = (c : Setting) (changes : Changes) (l : Label) (entry t : State) → resumed c changes l entry ≡ Ok t → t ≡ plain_resumed c changes l entry

-- So does a function's entry.
abbrev pub EntryIsPlain : Type 0
EntryIsPlain = (c : Setting) (f : ℕ) (t : State) → entry_state c f ≡ Ok t → t ≡ plain_entry c f

-- ---- what replaced terms name

-- Each tree that stands for a leaf has only leaves of m.
pub record Names (l m : Leaves) : Type 0 where
  pub variables : (k : ℕ) (t : Term) → l.variable k ≡ Some t → has_leaves m t ≡ true
  pub own : (k : ℕ) (t : Term) → l.own k ≡ Some t → has_leaves m t ≡ true
  pub places : (p : Place) (t : Term) → l.place p ≡ Some t → has_leaves m t ≡ true

-- A term or formula all of whose leaves have trees in their place has only leaves of m once they stand there.
abbrev pub ReplacedIsNamed : Type 0
ReplacedIsNamed =
    (l m : Leaves) → Names l m
    → ((t : Term) → has_leaves l t ≡ true → has_leaves m (replaced l t) ≡ true)
    × ((f : Formula) → formula_has_leaves l f ≡ true → formula_has_leaves m (replaced_formula l f) ≡ true)

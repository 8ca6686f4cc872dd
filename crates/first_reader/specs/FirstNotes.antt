-- The parts of the text of notes of the form FirstNotes. Assertions, moves and notes are this project's own.
use Rattle.std.specs.Prelude.{◌≡◌, ℕ, ◌+◌, ◌^◌, ◌<◌, ◌≤◌, pos, List, [], ◌∷◌, ◌++◌, length, codes, sum_by}
use Rattle.std.specs.List.{flat_map, AllByRecursion}
use Rattle.outline_check.specs.declared.notes.Rule.{Rule}
use Rattle.outline_check.specs.declared.notes.Rule.TheVariants as rule
use Rattle.outline_check.specs.declared.notes.Ref.{Ref}
use Rattle.outline_check.specs.declared.notes.Ref.TheVariants as ref
use Rattle.outline_check.specs.declared.notes.Formula.{Formula}
use Rattle.outline_check.specs.declared.notes.Step.{Step}
use Rattle.outline_check.specs.declared.notes.Assertion.{Assertion}
use Rattle.outline_check.specs.declared.notes.With.{With}
use Rattle.outline_check.specs.declared.notes.Move.{Move}
use Rattle.outline_check.specs.declared.notes.Move.TheVariants as move
use Rattle.outline_check.specs.declared.notes.Use.{Use}
use Rattle.outline_check.specs.declared.notes.Use.TheVariants as use_
use Rattle.outline_check.specs.declared.notes.Note.{Note}
use Rattle.outline_check.specs.declared.notes.FuncNotes.{FuncNotes}
use Rattle.outline_check.specs.declared.notes.Initial.{Initial}
use Rattle.outline_check.specs.declared.notes.Notes.{Notes}
use Rattle.first_reader.specs.Lexemes.{Lexeme, Open, Close, Number, Word, lexemes}

-- A natural number is one part.
abbrev pub natural : ℕ → List Lexeme
natural n = Number (pos n) ∷ []

-- A list that begins with a word.
abbrev pub list_of : List ℕ → List Lexeme → List Lexeme
list_of word parts = Open ∷ Word word ∷ (parts ++ Close ∷ [])

-- A list of things of one kind.
abbrev pub list : {A : Type 0} → (A → List Lexeme) → List A → List Lexeme
list spell xs = Open ∷ (flat_map spell xs ++ Close ∷ [])

-- The list of nothing: `()`
abbrev pub nothing : List Lexeme
nothing = Open ∷ Close ∷ []

-- `(= (global K) NUMBER)`
abbrev pub formula_parts : Formula → List Lexeme
formula_parts f = list_of (codes "=") (list_of (codes "global") (natural f.global) ++ Number f.value ∷ [])

-- `hyp` or `eval`
abbrev pub rule_word : Rule → List ℕ
rule_word rule.Hyp = codes "hyp"
rule_word rule.Eval = codes "eval"

-- `(h K)` or `(s K)`
abbrev pub ref_parts : Ref → List Lexeme
ref_parts (ref.Hyp k) = list_of (codes "h") (natural k)
ref_parts (ref.Earlier k) = list_of (codes "s") (natural k)

-- `(RULE FORMULA (REF*) ())`
abbrev pub step_parts : Step → List Lexeme
step_parts s = list_of (rule_word s.rule) (formula_parts s.formula ++ (list ref_parts s.refs ++ nothing))

-- `(have FORMULA STEP*)`
abbrev pub move_parts : Move → List Lexeme
move_parts (move.Have f steps) = list_of (codes "have") (formula_parts f ++ flat_map step_parts steps)

-- `(with () (K*) ())`
abbrev pub with_parts : With → List Lexeme
with_parts w = list_of (codes "with") (nothing ++ (list natural w.facts ++ nothing))

-- A `with`, or nothing.
abbrev pub use_parts : Use → List Lexeme
use_parts use_.Nothing = []
use_parts (use_.With w) = with_parts w

-- `(at I MOVE*)` or `(at I MOVE* WITH)`
abbrev pub note_parts : Note → List Lexeme
note_parts n = list_of (codes "at") (natural n.at ++ (flat_map move_parts n.moves ++ use_parts n.used))

-- `(func K AT*)`
abbrev pub func_parts : FuncNotes → List Lexeme
func_parts f = list_of (codes "func") (natural f.func ++ flat_map note_parts f.notes)

-- `(assert 0 (FORMULA*) ())`
abbrev pub assertion_parts : Assertion → List Lexeme
assertion_parts a = list_of (codes "assert") (natural 0 ++ (list formula_parts a.formulas ++ nothing))

-- `(initial () (MOVE*) WITH)`
abbrev pub initial_parts : Initial → List Lexeme
initial_parts i = list_of (codes "initial") (nothing ++ (list move_parts i.moves ++ with_parts i.with))

-- `(notes 1 ASSERT INITIAL FUNC*)`
abbrev pub notes_parts : Notes → List Lexeme
notes_parts a = list_of (codes "notes") (natural 1 ++ (assertion_parts a.invariant ++ (initial_parts a.initial ++ flat_map func_parts a.funcs)))

-- A number K or I is from 0 to 4294967295.
abbrev pub IsNatural : ℕ → Type 0
IsNatural n = n < 2 ^ 32

-- The number of a formula's global is in that range.
abbrev pub IsNoteFormula : Formula → Type 0
IsNoteFormula f = IsNatural f.global

-- The number of a reference is in that range.
abbrev pub IsNoteRef : Ref → Type 0
IsNoteRef (ref.Hyp k) = IsNatural k
IsNoteRef (ref.Earlier k) = IsNatural k

-- The numbers of a step's formula and references are.
pub record IsNoteStep (s : Step) : Type 0 where
  pub formula : IsNoteFormula s.formula
  pub refs : AllByRecursion IsNoteRef s.refs

-- A move has one step or more.
abbrev pub IsNoteMove : Move → Type 0
IsNoteMove (move.Have f steps) = IsNoteFormula f × (1 ≤ length steps) × AllByRecursion IsNoteStep steps

-- The numbers of the facts that a `with` names are.
abbrev pub IsNoteWith : With → Type 0
IsNoteWith w = AllByRecursion IsNatural w.facts

-- The numbers of a `with` are, where there is one.
abbrev pub IsNoteUse : Use → Type 0
IsNoteUse use_.Nothing = Unit {0}
IsNoteUse (use_.With w) = IsNoteWith w

-- A note: its place is in that range, and its moves and its `with` are so.
pub record IsNote (n : Note) : Type 0 where
  pub at : IsNatural n.at
  pub moves : AllByRecursion IsNoteMove n.moves
  pub used : IsNoteUse n.used

-- The notes of a function: its number is in that range, and its notes are so.
pub record IsFuncNotes (f : FuncNotes) : Type 0 where
  pub func : IsNatural f.func
  pub notes : AllByRecursion IsNote f.notes

-- How many moves notes have together.
abbrev pub moves_in : List Note → ℕ
moves_in notes = sum_by (λ note. length note.moves) notes

-- How many moves there are in the initial part and in all notes together.
abbrev pub moves_of : Notes → ℕ
moves_of a = length a.initial.moves + sum_by (λ func. moves_in func.notes) a.funcs

-- Notes of the form: numbers in their range, at most 1,000 formulas in the invariant, and at most 1,000 moves.
pub record AreFirstNotes (a : Notes) : Type 0 where
  pub formulas : AllByRecursion IsNoteFormula a.invariant.formulas
  pub moves : AllByRecursion IsNoteMove a.initial.moves
  pub with : IsNoteWith a.initial.with
  pub funcs : AllByRecursion IsFuncNotes a.funcs
  pub few_formulas : length a.invariant.formulas ≤ 1000
  pub few_moves : moves_of a ≤ 1000

-- The text is that of these notes, which are of the form.
pub record IsFirstText (text : List ℕ) (a : Notes) : Type 0 where
  pub spelled : lexemes text ≡ notes_parts a
  pub form : AreFirstNotes a

-- Reading notes of the form FirstNotes from left to right.
use Rattle.std.specs.Prelude.{ℕ, ◌-◌, Bool, true, false, ◌&&◌, List, [], ◌∷◌, length, Option, Some, None, nat_lt, nat_le, ◌==◌, codes, if◌then◌else◌}
use Rattle.std.specs.Str.{bytes_eq}
use Rattle.outline_check.specs.declared.notes.Rule.{Rule}
use Rattle.outline_check.specs.declared.notes.Rule.TheVariants as rule
use Rattle.outline_check.specs.declared.notes.Ref.{Ref}
use Rattle.outline_check.specs.declared.notes.Ref.TheVariants as ref
use Rattle.outline_check.specs.declared.notes.Formula.{Formula}
use Rattle.outline_check.specs.declared.notes.Step.{Step}
use Rattle.outline_check.specs.declared.notes.Assertion.{Assertion}
use Rattle.outline_check.specs.declared.notes.With.{With}
use Rattle.outline_check.specs.declared.notes.Move.{Move}
use Rattle.outline_check.specs.declared.notes.Move.TheVariants as move
use Rattle.outline_check.specs.declared.notes.Use.{Use}
use Rattle.outline_check.specs.declared.notes.Use.TheVariants as use_
use Rattle.outline_check.specs.declared.notes.Note.{Note}
use Rattle.outline_check.specs.declared.notes.FuncNotes.{FuncNotes}
use Rattle.outline_check.specs.declared.notes.Initial.{Initial}
use Rattle.outline_check.specs.declared.notes.Notes.{Notes}
use Rattle.first_reader.specs.Lexemes.{Lexeme, Open, Close, Number, Word, lexemes}
use Rattle.first_reader.specs.Reading.{◌>>=◌}
use Rattle.first_reader.specs.ReadingLexemes.{open_at, close_at, number_at, u32_at, head_at, empty_at, many_at, list_at}

-- what a thing begins with: a parenthesis, a number, or the head of a move
abbrev pub opens : List Lexeme → Bool
opens (Open ∷ rest) = true
opens _ = false

-- whether a parenthesis that closes stands first
abbrev pub closes : List Lexeme → Bool
closes (Close ∷ rest) = true
closes _ = false

-- whether a number stands first
abbrev pub counts : List Lexeme → Bool
counts (Number z ∷ rest) = true
counts _ = false

-- whether the head of a move stands first
abbrev pub moves : List Lexeme → Bool
moves (Open ∷ Word w ∷ rest) = bytes_eq w (codes "have")
moves _ = false

-- a formula: `(= (global K) NUMBER)`
unfoldable pub formula_at : List Lexeme → Option (Formula × List Lexeme)
formula_at parts = do
  inside ← head_at (codes "=") parts
  place ← head_at (codes "global") inside
  global ← u32_at place
  placed ← close_at global.1
  value ← number_at placed
  rest ← close_at value.1
  Some (record { global = global.0; value = value.0 }, rest)

-- the word of a rule: `hyp` or `eval`
abbrev pub rule_at : List Lexeme → Option (Rule × List Lexeme)
rule_at (Word w ∷ rest) = if bytes_eq w (codes "hyp") then Some (rule.Hyp, rest) else if bytes_eq w (codes "eval") then Some (rule.Eval, rest) else None
rule_at _ = None

-- whether a reference is to a hypothesis
abbrev pub ref_word_at : List Lexeme → Option (Bool × List Lexeme)
ref_word_at (Word w ∷ rest) = if bytes_eq w (codes "h") then Some (true, rest) else if bytes_eq w (codes "s") then Some (false, rest) else None
ref_word_at _ = None

-- the reference to a hypothesis, or else to an earlier step
abbrev pub ref_of : Bool → ℕ → Ref
ref_of true k = ref.Hyp k
ref_of false k = ref.Earlier k

-- a reference: `(h K)` or `(s K)`
unfoldable pub ref_at : List Lexeme → Option (Ref × List Lexeme)
ref_at parts = do
  inside ← open_at parts
  word ← ref_word_at inside
  k ← u32_at word.1
  rest ← close_at k.1
  Some (ref_of word.0 k.0, rest)

-- a step: `(RULE FORMULA (REF*) ())`
unfoldable pub step_at : List Lexeme → Option (Step × List Lexeme)
step_at parts = do
  inside ← open_at parts
  rule ← rule_at inside
  formula ← formula_at rule.1
  refs ← list_at opens ref_at formula.1
  numbers ← empty_at refs.1
  rest ← close_at numbers
  Some (record { rule = rule.0; formula = formula.0; refs = refs.0 }, rest)

-- a move, which has one step or more: `(have FORMULA STEP*)`
unfoldable pub move_at : List Lexeme → Option (Move × List Lexeme)
move_at parts = do
  inside ← head_at (codes "have") parts
  formula ← formula_at inside
  steps ← many_at opens step_at formula.1
  rest ← close_at steps.1
  if nat_lt 0 (length steps.0) then Some (move.Have formula.0 steps.0, rest) else None

-- `(with () (K*) ())`
unfoldable pub with_at : List Lexeme → Option (With × List Lexeme)
with_at parts = do
  inside ← head_at (codes "with") parts
  terms ← empty_at inside
  facts ← list_at counts u32_at terms
  chunks ← empty_at facts.1
  rest ← close_at chunks
  Some (record { facts = facts.0 }, rest)

-- a `with`, or nothing where the list ends
unfoldable pub use_at : List Lexeme → Option (Use × List Lexeme)
use_at parts = if closes parts then Some (use_.Nothing, parts) else (with_at parts >>= λ w. Some (use_.With w.0, w.1))

-- a note: `(at I MOVE*)` or `(at I MOVE* WITH)`
unfoldable pub note_at : List Lexeme → Option (Note × List Lexeme)
note_at parts = do
  inside ← head_at (codes "at") parts
  at ← u32_at inside
  moves ← many_at moves move_at at.1
  used ← use_at moves.1
  rest ← close_at used.1
  Some (record { at = at.0; moves = moves.0; used = used.0 }, rest)

-- the notes of a function: `(func K AT*)`
unfoldable pub func_at : List Lexeme → Option (FuncNotes × List Lexeme)
func_at parts = do
  inside ← head_at (codes "func") parts
  func ← u32_at inside
  notes ← many_at opens note_at func.1
  rest ← close_at notes.1
  Some (record { func = func.0; notes = notes.0 }, rest)

-- a number that is this one
abbrev pub only_at : ℕ → List Lexeme → Option (List Lexeme)
only_at n parts = u32_at parts >>= λ k. if k.0 == n then Some k.1 else None

-- the invariant: `(assert 0 (FORMULA*) ())`
unfoldable pub assertion_at : List Lexeme → Option (Assertion × List Lexeme)
assertion_at parts = do
  inside ← head_at (codes "assert") parts
  own ← only_at 0 inside
  formulas ← list_at opens formula_at own
  chunks ← empty_at formulas.1
  rest ← close_at chunks
  Some (record { formulas = formulas.0 }, rest)

-- the initial part: `(initial () (MOVE*) WITH)`
unfoldable pub initial_at : List Lexeme → Option (Initial × List Lexeme)
initial_at parts = do
  inside ← head_at (codes "initial") parts
  chunks ← empty_at inside
  moves ← list_at moves move_at chunks
  with ← with_at moves.1
  rest ← close_at with.1
  Some (record { moves = moves.0; with = with.0 }, rest)

-- what was read, where nothing stands behind it
abbrev pub done : {A : Type 0} → A → List Lexeme → Option A
done x [] = Some x
done x (part ∷ parts) = None

-- all notes, with nothing behind them: `(notes 1 ASSERT INITIAL FUNC*)`
unfoldable pub notes_at : List Lexeme → Option Notes
notes_at parts = do
  inside ← head_at (codes "notes") parts
  version ← only_at 1 inside
  invariant ← assertion_at version
  initial ← initial_at invariant.1
  funcs ← many_at opens func_at initial.1
  rest ← close_at funcs.1
  done (record { invariant = invariant.0; initial = initial.0; funcs = funcs.0 }) rest

-- how many of so many moves are left after those of notes
unfoldable pub left_after : ℕ → List Note → Option ℕ
left_after left [] = Some left
left_after left (note ∷ notes) = if nat_lt left (length note.moves) then None else left_after (left - length note.moves) notes

-- how many of so many moves are left after those of all these functions
unfoldable pub left_after_all : ℕ → List FuncNotes → Option ℕ
left_after_all left [] = Some left
left_after_all left (func ∷ funcs) = left_after left func.notes >>= λ rest. left_after_all rest funcs

-- whether the moves were no more than that
abbrev pub is_left : Option ℕ → Bool
is_left None = false
is_left (Some n) = true

-- whether notes have at most 1,000 moves
abbrev pub has_few_moves : Notes → Bool
has_few_moves a = if nat_lt 1000 (length a.initial.moves) then false else is_left (left_after_all (1000 - length a.initial.moves) a.funcs)

-- the notes of the form FirstNotes that a text spells, if there are such
unfoldable pub first_notes : List ℕ → Option Notes
first_notes text = notes_at (lexemes text) >>= λ a. if nat_le (length a.invariant.formulas) 1000 && has_few_moves a then Some a else None

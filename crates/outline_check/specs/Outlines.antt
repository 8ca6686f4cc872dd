-- When notes are an accepted outline of a module of First, and else the first refusal with its place.
use Rattle.std.specs.Prelude.{ℕ, ◌+◌, Bool, true, false, ◌&&◌, nat_lt, nat_le, nat_eq, List, [], ◌∷◌, length, map, find, slice_get, slice_index, slice_index_or, Option, Some, None, Result, Ok, Err}
use Rattle.std.specs.Option.{option_map_or}
use Rattle.std.specs.List.{list_all}
use Rattle.wasm_syntax.specs.declared.instr.Instr.{Instr}
use Rattle.wasm_syntax.specs.declared.module.Func.{Func}
use Rattle.wasm_syntax.specs.declared.module.Module.{Module}
use Rattle.wasm_syntax.specs.declared.module.Marks.{Marks}
use Rattle.wasm_syntax.specs.FlatForm.{flat_body}
use Rattle.outline_check.specs.declared.answer.Reason.TheVariants as reason
use Rattle.outline_check.specs.declared.notes.Formula.{Formula}
use Rattle.outline_check.specs.declared.notes.Step.{Step}
use Rattle.outline_check.specs.declared.notes.Move.{Move}
use Rattle.outline_check.specs.declared.notes.Move.TheVariants.{Have}
use Rattle.outline_check.specs.declared.notes.Use.{Use}
use Rattle.outline_check.specs.declared.notes.Use.TheVariants.{Nothing, With}
use Rattle.outline_check.specs.declared.notes.Note.{Note}
use Rattle.outline_check.specs.declared.notes.FuncNotes.{FuncNotes}
use Rattle.outline_check.specs.declared.notes.Notes.{Notes}
use Rattle.outline_check.specs.declared.state.State.{State}
use Rattle.outline_check.specs.declared.state.Fact.{Fact}
use Rattle.outline_check.specs.declared.stop.Why.{Why}
use Rattle.outline_check.specs.declared.stop.Why.TheVariants as why
use Rattle.outline_check.specs.declared.stop.Refusal.{Refusal}
use Rattle.outline_check.specs.Refusals.{Outline, and_then, test_for, placed, answered}
use Rattle.outline_check.specs.States.{fact_of, made, with_fact, entered, initial_state, after}
use Rattle.outline_check.specs.Derivations.{is_at, first_bad}

-- Whether a formula speaks of one of so many globals.
abbrev pub in_scope : ℕ → Formula → Bool
in_scope globals formula = nat_lt formula.global globals

-- The move `have`, once its formulas are in scope: the goal is one more fact where the steps derive it.
abbrev pub derived : Fact → State → Option ℕ → Result State Why
derived goal s None = made (with_fact goal s)
derived goal s (Some k) = Err (why.Reason (reason.Derivation k))

-- The move `have`: its formulas are in scope, the steps derive the first of them from the facts, and it is one more fact.
abbrev pub had : Formula → List Step → State → Result State Why
had formula steps s =
    and_then
    (test_for reason.Scope
    (in_scope (length s.globals) formula && list_all (λ step. in_scope (length s.globals) step.formula) steps))
    (λ _. derived (fact_of s.globals formula) s (first_bad s.globals s.facts (fact_of s.globals formula) steps))

-- Moves are made in their order.
abbrev pub moved : List Move → State → Result State Why
moved [] s = Ok s
moved (Have formula steps ∷ moves) s = and_then (had formula steps s) (moved moves)

-- Each number is that of a fact of the state, and the fact is what the formula says, one by one.
abbrev pub are_facts : State → List ℕ → List Formula → Bool
are_facts s (k ∷ numbers) (formula ∷ formulas) = is_at s.facts k (fact_of s.globals formula) && are_facts s numbers formulas
are_facts s [] [] = true
are_facts s _ _ = false

-- The state entails the formulas by the facts of these numbers.
abbrev pub entailed : List Formula → List ℕ → State → Result (Unit {0}) Why
entailed formulas numbers s =
    and_then (test_for reason.Use (nat_eq (length numbers) (length formulas)))
    (λ _. test_for reason.Fact (are_facts s numbers formulas))

-- The moves of a note, if there is one.
abbrev pub moves_of : Option Note → List Move
moves_of None = []
moves_of (Some note) = note.moves

-- The use of a note; without a note there is none.
abbrev pub use_of : Option Note → Use
use_of None = Nothing
use_of (Some note) = note.used

-- The facts of a `with`; a missing use is one of no facts.
abbrev pub facts_of : Use → List ℕ
facts_of Nothing = []
facts_of (With w) = w.facts

-- An instruction of First wants no use.
abbrev pub is_unused : Use → Bool
is_unused Nothing = true
is_unused (With w) = false

-- One instruction: its moves, the form of its use, its effect.
abbrev pub stepped : Option Note → Instr → State → Result State Why
stepped note instr s =
    and_then (moved (moves_of note) s)
    (λ t. and_then (test_for reason.Use (is_unused (use_of note))) (λ _. after instr t))

-- The end of a function: its moves, and the invariant.
abbrev pub ended : List Formula → Option Note → State → Result (Unit {0}) Why
ended invariant note s = and_then (moved (moves_of note) s) (entailed invariant (facts_of (use_of note)))

-- The note of an instruction, by the instruction's number in its body.
abbrev pub note_at : List Note → ℕ → Option Note
note_at notes i = find (λ note. nat_eq note.at i) notes

module _ (invariant : List Formula) (function : ℕ) (notes : List Note) (places : List ℕ) where
  -- The instructions from number i on, and the end of the body.
  abbrev pub run_from : ℕ → List Instr → State → Result (Unit {0}) Refusal
  run_from i [] s = placed (slice_index places i) (Some function) (ended invariant (note_at notes i) s)
  run_from i (instr ∷ instrs) s =
      and_then (placed (slice_index places i) (Some function) (stepped (note_at notes i) instr s)) (run_from (i + 1) instrs)

  -- A function with this body, in a module of so many globals: its entry, and its instructions in file order.
  abbrev pub function_outline : ℕ → List Instr → Result (Unit {0}) Refusal
  function_outline globals body =
      and_then (placed (slice_index places 0) (Some function) (entered globals invariant)) (run_from 0 body)

-- The notes of a function, by its number.
abbrev pub notes_of : List FuncNotes → ℕ → List Note
notes_of notes f = option_map_or (λ func. func.notes) (find (λ func. nat_eq func.func f) notes) []

module _ (globals : ℕ) (notes : Notes) (code : List (List ℕ)) where
  -- The functions from number f on.
  abbrev pub functions_from : ℕ → List Func → Result (Unit {0}) Refusal
  functions_from f [] = Ok tt
  functions_from f (func ∷ funcs) =
      and_then
      (function_outline notes.invariant.formulas f (notes_of notes.funcs f) (slice_index_or code f []) globals func.body)
      (λ _. functions_from (f + 1) funcs)

-- The numbers rise, from `low` on, and stay below `high`.
abbrev pub rise_within : ℕ → ℕ → List ℕ → Bool
rise_within low high [] = true
rise_within low high (n ∷ ns) = nat_le low n && nat_lt n high && rise_within (n + 1) high ns

-- The number of instructions of a function, its last `end` counted.
abbrev pub instructions : List Func → ℕ → ℕ
instructions funcs f = option_map_or (λ func. length (flat_body func.body)) (slice_get funcs f) 0

-- The instruction numbers in the notes of a function rise and exist.
abbrev pub body_fits : List Func → FuncNotes → Bool
body_fits funcs func = rise_within 0 (instructions funcs func.func) (map (λ note. note.at) func.notes)

-- The functions in the notes are defined and rise, and so do the instruction numbers of each.
abbrev pub notes_fit : List Func → List FuncNotes → Bool
notes_fit funcs notes =
    rise_within 0 (length funcs) (map (λ func. func.func) notes) && list_all (body_fits funcs) notes

-- The initial state meets the invariant.
abbrev pub initial_outline : Module → Notes → Result (Unit {0}) Why
initial_outline m notes =
    and_then (initial_state m.globals)
    (λ s. and_then (moved notes.initial.moves s) (entailed notes.invariant.formulas notes.initial.with.facts))

-- The tests of a whole module, in their order.
abbrev pub module_outline : Module → Marks → Notes → Result (Unit {0}) Refusal
module_outline m marks notes =
    and_then (placed 0 None (test_for reason.Notes (notes_fit m.funcs notes.funcs)))
    (λ _. and_then (placed 0 None (test_for reason.Scope (list_all (in_scope (length m.globals)) notes.invariant.formulas)))
    (λ _. and_then (functions_from (length m.globals) notes marks.code 0 m.funcs)
    (λ _. placed marks.len None (initial_outline m notes))))

-- The outline of a module with these marks by these notes: verified, or the first refusal with its place.
unfoldable pub outline : Module → Marks → Notes → Outline
outline m marks notes = answered (module_outline m marks notes)

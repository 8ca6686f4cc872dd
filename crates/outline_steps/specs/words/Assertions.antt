-- What an assertion says of what is held: it is the form in which a state that is left hands over to a state that begins,
-- since the two have variables of their own.
use Rattle.std.specs.Prelude.{◌≡◌, ℕ, ◌/◌, Bool, true, false, ℤ, pos, List, [], ◌++◌, length, map, slice_get, slice_index_or, Option, Some, None, option_map, unwrap_or, is_some, IfSome, IsTrue, All, Ok}
use Rattle.std.specs.Option.{option_map_or}
use Rattle.wasm_values.specs.Operators.{number_of}
use Rattle.term_trees.specs.declared.term.Place.{Place}
use Rattle.term_trees.specs.declared.term.Place.TheVariants as place
use Rattle.term_trees.specs.declared.term.Term.{Term}
use Rattle.term_trees.specs.Leaves.{Leaves}
use Rattle.term_trees.specs.Meaning.{Numbers, value}
use Rattle.bitvector_rules.specs.Truth.{AllHold}
use Rattle.notes.specs.declared.assertion.Assertion.{Assertion}
use Rattle.notes.specs.declared.uses.Use.{Use}
use Rattle.notes.specs.declared.uses.With.{With}
use Rattle.outline_rules.specs.Settings.{Setting, invariant_of, is_memory_private}
use Rattle.outline_rules.specs.States.{State}
use Rattle.outline_rules.specs.Leaves.{has_leaves, formula_has_leaves, chunk_has_leaves, variable_below}
use Rattle.outline_rules.specs.Entailment.{Wanted, Entailed, assertion_place, entailed}
use Rattle.outline_rules.specs.Meets.{numbers_of, variable_leaves, Held}
use Rattle.outline_meaning.specs.Pieces.{Piece, pieces_of, Fit}
use Rattle.outline_meaning.specs.Beside.{MeetsBeside}
use Rattle.outline_steps.specs.words.Known.{TrapIsAllowed}

-- ---- numbers

-- The number of a place in what is held, with these numbers for arguments and result.
abbrev pub held_place : Held → (args : List ℤ) → (result : Option ℤ) → Place → ℤ
held_place h args result (place.Local k) = option_map_or (λ v. pos (number_of v)) (slice_get h.locals k) (pos 0)
held_place h args result (place.Stack k) = option_map_or (λ v. pos (number_of v)) (slice_get h.operands k) (pos 0)
held_place h args result (place.Global k) = option_map_or (λ v. pos (number_of v)) (h.globals k) (pos 0)
held_place h args result place.Pages = option_map_or (λ (bytes : List ℕ). pos (length bytes / 65536)) h.memory (pos 0)
held_place h args result (place.Arg k) = slice_index_or args k (pos 0)
held_place h args result place.Result = unwrap_or result (pos 0)
held_place h args result place.Index = pos 0
held_place h args result place.Item = pos 0

-- The numbers that an assertion is read under: for variables and own variables, and what is held.
abbrev pub numbers_at : (variables own : List ℤ) → Held → (args : List ℤ) → (result : Option ℤ) → Numbers
numbers_at n own h args result = record { variables = n; own = own; places = held_place h args result }

-- ---- what an assertion says

-- Pieces fit the private memory, where there is one; else there are none.
abbrev pub OwnedFit : (private : Bool) → List Piece → (held : Option (List ℕ)) → Type 0
OwnedFit false pieces held = pieces ≡ []
OwnedFit true pieces held = (bytes : List ℕ) × (held ≡ Some bytes) × Fit bytes pieces

-- An assertion holds under these numbers, and its chunks fit the private memory jointly with pieces of others.
pub record HoldsBeside (a : Assertion) (m : Numbers) (private : Bool) (held : Option (List ℕ)) (others : List Piece) : Type 0 where
  pub formulas : AllHold m a.formulas
  pub chunks : OwnedFit private (pieces_of m a.chunks ++ others) held

-- ---- leaves

-- The leaves that an assertion may have in a state: the state's first variables, its own, and places that have a term.
abbrev pub asserted_leaves : (vars : ℕ) → State → (own args : List Term) → (result : Option Term) → Leaves
asserted_leaves vars s own args result =
    record { variable = variable_below vars; own = slice_get own; place = assertion_place s args result }

-- An assertion has no others.
pub record AssertionIsNamed (l : Leaves) (a : Assertion) : Type 0 where
  pub formulas : All (λ f. IsTrue (formula_has_leaves l f)) a.formulas
  pub chunks : All (λ d. IsTrue (chunk_has_leaves l d)) a.chunks

-- Terms name the first variables alone.
abbrev pub AreNamed : (vars : ℕ) → List Term → Type 0
AreNamed vars ts = All (λ t. IsTrue (has_leaves (variable_leaves vars) t)) ts

-- ---- laws

-- What a state entails holds of what is held, beside the pieces that are left and those of others.
abbrev pub EntailedHolds : Type 0
EntailedHolds =
    (c : Setting) (s : State) (h : Held) (want : Wanted) (w : With) (e : Entailed) (n : List ℤ) (others : List Piece)
    → MeetsBeside c s h n others → is_some s.pages ≡ is_memory_private c
    → AreNamed s.vars want.fixed → AreNamed s.vars want.args → IfSome want.result (λ t. IsTrue (has_leaves (variable_leaves s.vars) t))
    → AssertionIsNamed (asserted_leaves s.vars s (want.fixed ++ e.terms) want.args want.result) want.assertion
    → entailed s want w ≡ Ok e
    → HoldsBeside want.assertion
    (numbers_at n (map (value (numbers_of n)) (want.fixed ++ e.terms)) h (map (value (numbers_of n)) want.args) (option_map (value (numbers_of n)) want.result))
    (is_memory_private c) h.memory (pieces_of (numbers_of n) e.left ++ others)

-- Where a trap is allowed, the invariant holds of what is held, for some numbers for its own variables.
abbrev pub TrapKeepsInvariant : Type 0
TrapKeepsInvariant =
    (c : Setting) (u : Use) (s : State) (h : Held) (n : List ℤ) (others : List Piece)
    → MeetsBeside c s h n others → is_some s.pages ≡ is_memory_private c
    → ((own : List Term) → length own ≡ (invariant_of c).own → AssertionIsNamed (asserted_leaves s.vars s own [] None) (invariant_of c))
    → TrapIsAllowed c u s
    → (own : List ℤ) × (left : List Piece) × (length own ≡ (invariant_of c).own)
    × HoldsBeside (invariant_of c) (numbers_at n own h [] None) (is_memory_private c) h.memory (left ++ others)

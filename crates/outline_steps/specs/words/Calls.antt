-- Calls, with the tests of invariant and contracts in place of premises on leaves.
use Rattle.std.specs.Prelude.{◌≡◌, ℕ, true, ℤ, pos, List, [], ◌++◌, length, map, Option, None, option_map, option_to_list, is_some, Ok}
use Rattle.wasm_values.specs.declared.number.Val.{Val}
use Rattle.wasm_values.specs.declared.number.ValType.{ValType}
use Rattle.wasm_values.specs.Operators.{number_of}
use Rattle.wasm_syntax.specs.declared.module.FuncType.{FuncType}
use Rattle.wasm_store.specs.Configuration.{OpenBlock}
use Rattle.wasm_store.specs.Control.{count_of, kept}
use Rattle.term_trees.specs.declared.term.Term.{Term}
use Rattle.term_trees.specs.Meaning.{value}
use Rattle.notes.specs.declared.assertion.Contract.{Contract}
use Rattle.notes.specs.declared.uses.With.{With}
use Rattle.outline_rules.specs.Conditions.{IsStateOf}
use Rattle.outline_rules.specs.Settings.{Setting, private_globals, result_type_of, invariant_of, is_memory_private}
use Rattle.outline_rules.specs.States.{State}
use Rattle.outline_rules.specs.Entailment.{Entailed, entailed}
use Rattle.outline_rules.specs.Tests.{invariant_tested, pre_tested, post_tested}
use Rattle.outline_rules.specs.Calls.{leaving, comes_back}
use Rattle.outline_rules.specs.Meets.{numbers_of, Held}
use Rattle.outline_meaning.specs.Pieces.{Piece, pieces_of}
use Rattle.outline_meaning.specs.Beside.{MeetsBeside, MeetsBesideLater}
use Rattle.outline_steps.specs.words.Known.{Known}
use Rattle.outline_steps.specs.words.Assertions.{numbers_at, HoldsBeside, AreNamed}
use Rattle.outline_steps.specs.words.Renewals.{GlobalsRenewed, PagesRenewed, ResultFits}
use Rattle.outline_steps.specs.words.Labels.{HasPlaces}
use Rattle.outline_steps.specs.words.Tested.{HasStable}

-- ---- states

-- A state of a function has what is stable, and so has a state that has its places.
abbrev pub StateHasStable : Type 0
StateHasStable = (c : Setting) (f : ℕ) (s : State) → IsStateOf c f s → HasStable c s

abbrev pub PlacesHaveStable : Type 0
PlacesHaveStable = (c : Setting) (s t : State) → HasStable c s → HasPlaces s t → HasStable c t

-- ---- leaving calls

-- At a leaving call the invariant holds of what is held, and the frame keeps no pieces.
abbrev pub LeavingCallLeaves : Type 0
LeavingCallLeaves =
    (c : Setting) (ty : FuncType) (w : With) (s t : State) (h : Held) (n : List ℤ) (others : List Piece)
    → MeetsBeside c s h n others → is_some s.pages ≡ is_memory_private c → HasStable c s → invariant_tested c ≡ Ok tt
    → leaving c ty w s ≡ Ok t
    → (own : List ℤ) × (length own ≡ (invariant_of c).own) × HoldsBeside (invariant_of c) (numbers_at n own h [] None) (is_memory_private c) h.memory others

-- Where it comes back and the invariant holds, the state after it meets what is held.
abbrev pub LeavingCallReturns : Type 0
LeavingCallReturns =
    (c : Setting) (ty : FuncType) (w : With) (s t : State) (before after : Held) (n own : List ℤ) (others : List Piece) (v : Option Val)
    → Known c s before n → is_some s.pages ≡ is_memory_private c → HasStable c s → invariant_tested c ≡ Ok tt
    → after.locals ≡ before.locals → after.operands ≡ option_to_list v ++ before.operands → ResultFits (result_type_of ty) v
    → GlobalsRenewed c s (λ k. true) (private_globals c) before.globals after.globals → PagesRenewed (numbers_of n) s.pages true after.memory
    → length own ≡ (invariant_of c).own → HoldsBeside (invariant_of c) (numbers_at n own after [] None) (is_memory_private c) after.memory others
    → leaving c ty w s ≡ Ok t
    → MeetsBesideLater c t after n others

-- ---- inner calls

-- An inner call with a tested contract enters with its precondition; the chunks that it doesn't use stay with the frame.
abbrev pub TestedCallEnters : Type 0
TestedCallEnters =
    (c : Setting) (contract : Contract) (ty : FuncType) (args : List Term) (w : With) (s : State) (h : Held) (e : Entailed) (n : List ℤ) (others : List Piece)
    → MeetsBeside c s h n others → is_some s.pages ≡ is_memory_private c → HasStable c s → pre_tested c ty contract ≡ Ok tt
    → AreNamed s.vars args → length args ≡ length ty.params
    → entailed s (record { assertion = contract.pre; args = args; result = None; fixed = [] }) w ≡ Ok e
    → HoldsBeside contract.pre (numbers_at n (map (value (numbers_of n)) e.terms) h (map (value (numbers_of n)) args) None) (is_memory_private c) h.memory
    (pieces_of (numbers_of n) e.left ++ others)

-- Where it comes back with its postcondition, the state after it meets what is held, beside the same pieces of others.
abbrev pub TestedCallReturns : Type 0
TestedCallReturns =
    (c : Setting) (contract : Contract) (ty : FuncType) (args : List Term) (w : With) (s t : State) (before after : Held) (e : Entailed) (n own : List ℤ) (others : List Piece) (v : Option Val)
    → Known c s before n → is_some s.pages ≡ is_memory_private c → HasStable c s → post_tested c ty contract ≡ Ok tt
    → AreNamed s.vars args → length args ≡ length ty.params
    → entailed s (record { assertion = contract.pre; args = args; result = None; fixed = [] }) w ≡ Ok e
    → after.locals ≡ before.locals → after.operands ≡ option_to_list v ++ before.operands → ResultFits (result_type_of ty) v
    → GlobalsRenewed c s (λ k. true) (private_globals c) before.globals after.globals → PagesRenewed (numbers_of n) s.pages true after.memory
    → length own ≡ contract.post.own
    → HoldsBeside contract.post
    (numbers_at n (map (value (numbers_of n)) e.terms ++ own) after (map (value (numbers_of n)) args) (option_map (λ x. pos (number_of x)) v))
    (is_memory_private c) after.memory (pieces_of (numbers_of n) e.left ++ others)
    → comes_back c contract ty args s e ≡ Ok t
    → MeetsBesideLater c t after n others

-- ---- operands at a branch

-- A branch to a label keeps the result that is passed on and the operands of the entry.
abbrev pub KeptAre : Type 0
KeptAre =
    (l : OpenBlock) (ty : Option ValType) (v : Option Val) (between base : List Val)
    → l.arity ≡ count_of ty → l.height ≡ length base → is_some ty ≡ is_some v
    → kept l (option_to_list v ++ (between ++ base)) ≡ option_to_list v ++ base

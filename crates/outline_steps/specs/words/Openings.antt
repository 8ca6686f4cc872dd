-- Conditions, blocks that open, branches that reach a label, functions that are left, and calls that come back.
use Rattle.std.specs.Prelude.{◌≡◌, ℕ, ◌≤◌, Bool, true, ℤ, pos, List, [], ◌∷◌, ◌++◌, length, map, slice_get, Option, Some, None, option_map, option_to_list, is_some, Ok}
use Rattle.wasm_values.specs.declared.number.Val.{Val}
use Rattle.wasm_values.specs.declared.number.Val.TheVariants.{I32}
use Rattle.wasm_values.specs.declared.number.ValType.{ValType}
use Rattle.wasm_values.specs.Operators.{number_of}
use Rattle.wasm_syntax.specs.declared.module.FuncType.{FuncType}
use Rattle.wasm_syntax.specs.Trees as tree
use Rattle.wasm_syntax.specs.Trees.{Sequence}
use Rattle.wasm_store.specs.declared.store.Store.{Store}
use Rattle.wasm_store.specs.Configuration.{Activation, Layer, Configuration, going}
use Rattle.wasm_store.specs.Step.{InstructionStep}
use Rattle.term_trees.specs.declared.term.Term.{Term}
use Rattle.term_trees.specs.declared.term.Formula.TheVariants as formula
use Rattle.term_trees.specs.Meaning.{value}
use Rattle.notes.specs.declared.assertion.Contract.{Contract}
use Rattle.notes.specs.declared.uses.With.{With}
use Rattle.outline_rules.specs.Settings.{Setting, private_globals, func_type, result_type_of, contract_of, is_memory_private}
use Rattle.outline_rules.specs.States.{State, number, fact_added, operand, popped, with_chunks}
use Rattle.outline_rules.specs.Entailment.{Wanted, Entailed, entailed}
use Rattle.outline_rules.specs.Branches.{Label, is_zero, is_not_zero, wanted_at, wanted_at_return, reaches, leaves_function}
use Rattle.outline_rules.specs.Blocks.{Begun, block_entered}
use Rattle.outline_rules.specs.Calls.{returning, comes_back}
use Rattle.outline_rules.specs.Meets.{numbers_of, Held, held_by}
use Rattle.outline_meaning.specs.Pieces.{Piece, pieces_of}
use Rattle.outline_meaning.specs.Beside.{MeetsBeside, MeetsBesideLater}
use Rattle.outline_steps.specs.words.Known.{with_operands, Known}
use Rattle.outline_steps.specs.words.Assertions.{numbers_at, HoldsBeside, asserted_leaves, AssertionIsNamed, AreNamed}
use Rattle.outline_steps.specs.words.Renewals.{GlobalsRenewed, PagesRenewed, ResultFits, before_assertion, own_terms}

-- ---- conditions

-- Where the condition is 0, the state without it, with that fact, meets what is held.
abbrev pub ZeroKeeps : Type 0
ZeroKeeps =
    (c : Setting) (s t : State) (h : Held) (n : List ℤ) (others : List Piece) (k : ℕ) (vs : List Val)
    → MeetsBeside c s h n others → h.operands ≡ I32 k ∷ vs → k ≡ 0 → fact_added (is_zero (operand s 0)) (popped 1 s) ≡ Ok t
    → MeetsBeside c t (with_operands h vs) n others

-- Likewise where it isn't.
abbrev pub NotZeroKeeps : Type 0
NotZeroKeeps =
    (c : Setting) (s t : State) (h : Held) (n : List ℤ) (others : List Piece) (k : ℕ) (vs : List Val)
    → MeetsBeside c s h n others → h.operands ≡ I32 k ∷ vs → (k ≡ 0 → ⊥) → fact_added (is_not_zero (operand s 0)) (popped 1 s) ≡ Ok t
    → MeetsBeside c t (with_operands h vs) n others

-- Likewise where it is the number of a label of a `br_table`, and where it is at least a number.
abbrev pub EqualKeeps : Type 0
EqualKeeps =
    (c : Setting) (s t : State) (h : Held) (n : List ℤ) (others : List Piece) (k : ℕ) (vs : List Val)
    → MeetsBeside c s h n others → h.operands ≡ I32 k ∷ vs → fact_added (formula.Eq (operand s 0) (number k)) (popped 1 s) ≡ Ok t
    → MeetsBeside c t (with_operands h vs) n others

abbrev pub AtLeastKeeps : Type 0
AtLeastKeeps =
    (c : Setting) (s t : State) (h : Held) (n : List ℤ) (others : List Piece) (i k : ℕ) (vs : List Val)
    → MeetsBeside c s h n others → h.operands ≡ I32 k ∷ vs → i ≤ k → fact_added (formula.Le (number i) (operand s 0)) (popped 1 s) ≡ Ok t
    → MeetsBeside c t (with_operands h vs) n others

-- ---- a block opens

-- A step at a `block` opens it, and what is held is as before; so is the state.
abbrev pub BlockOpens : Type 0
BlockOpens =
    (c : Setting) (func number : ℕ) (ty : Option ValType) (body : Sequence) (s : State) (b : Begun)
    (grows : Bool) (store : Store) (f : Activation) (below : List Layer) (d : Configuration) (n : List ℤ) (others : List Piece)
    → MeetsBeside c s (held_by store f) n others → block_entered c func number ty s ≡ Ok b → InstructionStep grows store f below d (tree.Block ty body)
    → (g : Activation) × (d ≡ going store g below) × (g.rest ≡ body) × (b.entry ≡ s) × MeetsBeside c b.start (held_by store g) n others

-- ---- a label is reached

-- The value of the result that is passed on, where there is one.
abbrev pub IsPassed : Option ValType → (operands : List Val) → Option Val → Type 0
IsPassed None operands None = Unit {0}
IsPassed (Some ty) operands (Some v) = slice_get operands 0 ≡ Some v
IsPassed _ operands _ = ⊥

-- Where control goes to a label, its assertion holds of what is held.
abbrev pub ReachedHolds : Type 0
ReachedHolds =
    (c : Setting) (l : Label) (w : With) (s : State) (h : Held) (n : List ℤ) (others : List Piece) (v : Option Val)
    → MeetsBeside c s h n others → is_some s.pages ≡ is_memory_private c → IsPassed l.takes h.operands v
    → ((own : List Term) → length own ≡ l.assertion.own → AssertionIsNamed (asserted_leaves s.vars s own [] (wanted_at l s).result) l.assertion)
    → reaches l w s ≡ Ok tt
    → (own : List ℤ) × (left : List Piece) × (length own ≡ l.assertion.own)
    × HoldsBeside l.assertion (numbers_at n own h [] (option_map (λ x. pos (number_of x)) v)) (is_memory_private c) h.memory (left ++ others)

-- Where the function is left, its postcondition holds of what is held, for the numbers of its arguments and of the
-- precondition's own variables; or the invariant does.
abbrev pub LeftHolds : Type 0
LeftHolds =
    (c : Setting) (func : ℕ) (w : With) (s : State) (h : Held) (n : List ℤ) (others : List Piece) (v : Option Val)
    → MeetsBeside c s h n others → is_some s.pages ≡ is_memory_private c → IsPassed (result_type_of (func_type c func)) h.operands v
    → (let want : Wanted = wanted_at_return c func (contract_of c func) s in
    ((own : List Term) → length own ≡ want.assertion.own → AssertionIsNamed (asserted_leaves s.vars s (want.fixed ++ own) want.args want.result) want.assertion)
    → leaves_function c func w s ≡ Ok tt
    → (own : List ℤ) × (left : List Piece) × (length own ≡ want.assertion.own)
    × HoldsBeside want.assertion
    (numbers_at n (map (value (numbers_of n)) want.fixed ++ own) h (map (value (numbers_of n)) want.args) (option_map (λ x. pos (number_of x)) v))
    (is_memory_private c) h.memory (left ++ others))

-- ---- an inner call

-- Where an inner call's precondition is entailed, it holds of what is held, for the arguments; the chunks that it doesn't
-- use are those of the waiting frame.
abbrev pub InnerCallEnters : Type 0
InnerCallEnters =
    (c : Setting) (contract : Contract) (args : List Term) (w : With) (s : State) (h : Held) (e : Entailed) (n : List ℤ) (others : List Piece)
    → MeetsBeside c s h n others → is_some s.pages ≡ is_memory_private c → AreNamed s.vars args
    → AssertionIsNamed (asserted_leaves s.vars s e.terms args None) contract.pre
    → entailed s (record { assertion = contract.pre; args = args; result = None; fixed = [] }) w ≡ Ok e
    → HoldsBeside contract.pre (numbers_at n (map (value (numbers_of n)) e.terms) h (map (value (numbers_of n)) args) None) (is_memory_private c) h.memory
    (pieces_of (numbers_of n) e.left ++ others)

-- Where it comes back with the postcondition, for the same numbers in place of the precondition's own variables, the state
-- after the call meets what is held.
abbrev pub InnerCallReturns : Type 0
InnerCallReturns =
    (c : Setting) (contract : Contract) (ty : FuncType) (args : List Term) (w : With) (s t : State) (before after : Held) (e : Entailed) (n own : List ℤ) (others : List Piece) (v : Option Val)
    → Known c s before n → is_some s.pages ≡ is_memory_private c → AreNamed s.vars args
    → entailed s (record { assertion = contract.pre; args = args; result = None; fixed = [] }) w ≡ Ok e
    → after.locals ≡ before.locals → after.operands ≡ option_to_list v ++ before.operands → ResultFits (result_type_of ty) v
    → GlobalsRenewed c s (λ k. true) (private_globals c) before.globals after.globals → PagesRenewed (numbers_of n) s.pages true after.memory
    → length own ≡ contract.post.own
    → AssertionIsNamed
    (asserted_leaves s.vars (before_assertion (returning c ty e.terms args) (with_chunks e.left s)).1 (own_terms (returning c ty e.terms args) contract.post (with_chunks e.left s)) args
    (before_assertion (returning c ty e.terms args) (with_chunks e.left s)).0) contract.post
    → HoldsBeside contract.post
    (numbers_at n (map (value (numbers_of n)) e.terms ++ own) after (map (value (numbers_of n)) args) (option_map (λ x. pos (number_of x)) v))
    (is_memory_private c) after.memory (pieces_of (numbers_of n) e.left ++ others)
    → comes_back c contract ty args s e ≡ Ok t
    → MeetsBesideLater c t after n others

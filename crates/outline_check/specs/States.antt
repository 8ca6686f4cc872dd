-- The symbolic state before an instruction, and what instructions of First do to it.
use Rattle.std.specs.Prelude.{ℕ, zero, suc, ◌+◌, ◌*◌, if◌then◌else◌, nat_lt, pos, List, [], ◌∷◌, ◌++◌, length, map, drop, slice_index_or, slice_set, Result, Ok, Err}
use Rattle.wasm_values.specs.declared.number.Val.TheVariants as value
use Rattle.wasm_syntax.specs.declared.instr.Instr.{Instr, Plain, Const, GlobalGet, GlobalSet}
use Rattle.wasm_syntax.specs.declared.instr.Plain.TheVariants.{Drop}
use Rattle.wasm_syntax.specs.declared.module.Global.{Global}
use Rattle.wasm_values.specs.declared.limit.LimitWord.TheVariants as word
use Rattle.outline_check.specs.declared.notes.Formula.{Formula}
use Rattle.outline_check.specs.declared.state.Term.{Term}
use Rattle.outline_check.specs.declared.state.Term.TheVariants.{Number, Variable}
use Rattle.outline_check.specs.declared.state.Fact.{Fact}
use Rattle.outline_check.specs.declared.state.Fact.TheVariants.{Equal, AtMost}
use Rattle.outline_check.specs.declared.state.State.{State}
use Rattle.outline_check.specs.declared.stop.Why.{Why}
use Rattle.outline_check.specs.declared.stop.Why.TheVariants as why
use Rattle.outline_check.specs.Refusals.{and_then}

-- The term of a global. There is one wherever it is asked for.
unfoldable pub term_at : List Term → ℕ → Term
term_at globals k = slice_index_or globals k (Number (pos 0))

-- What a formula says of a state: its leaf is replaced by the global's term.
abbrev pub fact_of : List Term → Formula → Fact
fact_of globals formula = Equal (term_at globals formula.global) (Number formula.value)

-- The nodes of all facts and of the terms of all slots, counted as trees: a fact has three, a slot's term one.
abbrev pub nodes : State → ℕ
nodes s = 3 * length s.facts + (length s.globals + length s.operands)

-- A state that is made is within the limits, or the first limit that it passes is the refusal.
unfoldable pub made : State → Result State Why
made s =
    if nat_lt 1000000 s.variables then Err (why.Limit word.Variables)
    else if nat_lt 4096 (length s.facts) then Err (why.Limit word.Facts)
    else if nat_lt 1000000 (nodes s) then Err (why.Limit word.State)
    else Ok s

-- One more fact, which has the next number.
abbrev pub with_fact : Fact → State → State
with_fact fact s = record s { facts = s.facts ++ fact ∷ [] }

-- One more global, whose term is a fresh variable, with the facts of an i32: `(<= 0 v)` and `(<= v 4294967295)`.
abbrev pub with_global : State → State
with_global s = record {
  variables = s.variables + 1;
  facts = s.facts ++ AtMost (Number (pos 0)) (Variable s.variables) ∷ AtMost (Variable s.variables) (Number (pos 4294967295)) ∷ [];
  globals = s.globals ++ Variable s.variables ∷ [];
  operands = s.operands;
}

-- Nothing is known, and there are no globals yet.
abbrev pub nothing : State
nothing = record { variables = 0; facts = []; globals = []; operands = [] }

-- So many globals, each a typed variable, in index order.
abbrev pub with_globals : ℕ → Result State Why
with_globals zero = Ok nothing
with_globals (suc n) = and_then (with_globals n) (λ s. made (with_global s))

-- Formulas are added as facts, in their order.
abbrev pub assumed : List Formula → State → Result State Why
assumed [] s = Ok s
assumed (formula ∷ formulas) s = and_then (made (with_fact (fact_of s.globals formula) s)) (assumed formulas)

-- The state at a function's entry: a typed variable for each global, and then the invariant.
abbrev pub entered : ℕ → List Formula → Result State Why
entered globals invariant = and_then (with_globals globals) (assumed invariant)

-- The number that a global begins with.
abbrev pub initial_term : List Instr → Term
initial_term (Const (value.I32 n) ∷ []) = Number (pos n)
initial_term _ = Number (pos 0)

-- The initial state: each global is its number.
abbrev pub initial_state : List Global → Result State Why
initial_state globals =
    made (record { variables = 0; facts = []; globals = map (λ global. initial_term global.init) globals; operands = [] })

-- The top operand becomes the term of a global.
abbrev pub with_set : ℕ → List Term → State → State
with_set k [] s = s
with_set k (top ∷ rest) s = record s { globals = slice_set s.globals k top; operands = rest }

-- What an instruction does (Core 4.4.1 to 4.4.3): `nop` nothing, `drop` takes the top operand away, a constant is its unsigned
-- number, `global.get` puts the global's term on top and `global.set` takes the top operand for it. Other instructions
-- stand in no module of First.
abbrev pub after : Instr → State → Result State Why
after (Plain Drop) s = Ok (record s { operands = drop 1 s.operands })
after (Const (value.I32 n)) s = made (record s { operands = Number (pos n) ∷ s.operands })
after (GlobalGet k) s = made (record s { operands = term_at s.globals k ∷ s.operands })
after (GlobalSet k) s = Ok (with_set k s.operands s)
after _ s = Ok s

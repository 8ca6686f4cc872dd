-- Parts of what calls and traps do.
use Rattle.std.specs.Prelude.{ℕ, ◌==◌, List, [], length}
use Rattle.wasm_values.specs.declared.number.NumOp.{NumOp}
use Rattle.wasm_values.specs.declared.number.ValType.{ValType}
use Rattle.wasm_values.specs.Operators.{result_type}
use Rattle.wasm_syntax.specs.declared.module.FuncType.{FuncType}
use Rattle.term_trees.specs.declared.term.Term.{Term}
use Rattle.term_trees.specs.declared.term.Term.TheVariants as term
use Rattle.term_trees.specs.declared.term.Formula.{Formula}
use Rattle.notes.specs.declared.reason.Reason.TheVariants as reason
use Rattle.notes.specs.declared.assertion.Contract.{Contract}
use Rattle.notes.specs.declared.uses.With.{With}
use Rattle.notes.specs.declared.uses.Use.{Use}
use Rattle.outline_rules.specs.Refusals.{Ruling, wanted, ◌>>=◌, ◌>>◌}
use Rattle.outline_rules.specs.Settings.{Setting, invariant_of}
use Rattle.outline_rules.specs.States.{State, with_chunks, typed_pushed}
use Rattle.outline_rules.specs.Entailment.{Entailed, chunks_besides}
use Rattle.outline_rules.specs.Renewal.{renewed}
use Rattle.outline_rules.specs.Moves.{are_facts}
use Rattle.outline_rules.specs.Uses.{trap_of}
use Rattle.outline_rules.specs.Calls.{trapping, returning, inner, arguments, without_arguments}
use Rattle.outline_rules.specs.Memory.{made_pushed}
use Rattle.outline_rules.specs.Instructions.{defined_facts, safe}

-- a `trap` on this state
abbrev pub trapped : Setting → Use → State → Ruling (Unit {0})
trapped c u s = trap_of u >>= λ w. trapping c w s

-- a typed variable is pushed, where a trap is allowed
abbrev pub trap_or_typed : Setting → ValType → With → State → Ruling State
trap_or_typed c ty w s = trapping c w s >> typed_pushed ty s

-- what an entailment with these terms leaves of a state, which uses these chunks
abbrev pub left_by : (terms : List Term) → (chunks : List ℕ) → State → Entailed
left_by terms chunks s = record { terms = terms; left = chunks_besides chunks 0 s.chunks }

-- what comes back from a leaving call: no chunks, and the invariant
abbrev pub back_from_outside : Setting → FuncType → State → Ruling State
back_from_outside c ty s = renewed (returning c ty [] []) (invariant_of c) (with_chunks [] s)

-- an inner call that may trap, on the state without its arguments
abbrev pub trap_or_enter : Setting → Contract → FuncType → List Term → (outside inside : With) → State → Ruling State
trap_or_enter c contract ty args w x s = trapping c w s >> inner c contract ty args x s

-- an inner call that may trap, on the state with its arguments
abbrev pub inner_or_trap : Setting → Contract → FuncType → (outside inside : With) → State → Ruling State
inner_or_trap c contract ty w x s = trap_or_enter c contract ty (arguments ty s) w x (without_arguments ty s)

-- the facts with these numbers have to be these formulas
abbrev pub facts_wanted : List ℕ → List Formula → State → Ruling (Unit {0})
facts_wanted ks fs s = wanted reason.Use (length ks == length fs) >> wanted reason.Fact (are_facts s ks fs)

-- an operator of these operands, on the state without them
abbrev pub operated : Setting → NumOp → (a b : Term) → Use → State → Ruling State
operated c op a b u s = safe c (defined_facts op a b) u s >> made_pushed (result_type op) (term.Two op a b) s

-- What renewals and entries give, without the limits: where such an effect is within them, it gives this.
use Rattle.std.specs.Prelude.{ℕ, suc, ◌+◌, Bool, true, nat_lt, if◌then◌else◌, List, [], ◌∷◌, ◌++◌, length, map, Option, Some, None}
use Rattle.wasm_values.specs.declared.number.ValType.{ValType}
use Rattle.wasm_syntax.specs.declared.module.GlobalType.{GlobalType}
use Rattle.wasm_typing.specs.Valid.{globals_of, imported_globals_of}
use Rattle.term_trees.specs.declared.term.Term.{Term}
use Rattle.term_trees.specs.Leaves.{Leaves, replaced_formula}
use Rattle.escape_analysis.specs.declared.stability.Stability.{Stability}
use Rattle.escape_analysis.specs.declared.stability.Stability.TheVariants.{Unstable, Immutable, Private}
use Rattle.notes.specs.declared.assertion.Assertion.{Assertion}
use Rattle.notes.specs.declared.assertion.Contract.{Contract}
use Rattle.outline_rules.specs.Chunks.{replaced_chunk}
use Rattle.escape_analysis.specs.Exposure.{stability}
use Rattle.outline_rules.specs.Settings.{Setting, func_type, contract_of, precondition_by, is_memory_private, least_pages}
use Rattle.outline_rules.specs.States.{State, blank, number, fresh, page_facts, with_facts, with_typed, with_global, with_local, with_top, with_chunks, with_more_chunks}
use Rattle.outline_rules.specs.Entailment.{assertion_leaves}
use Rattle.outline_rules.specs.Renewal.{Renewing, variables_from}
use Rattle.outline_rules.specs.Branches.{Label}
use Rattle.outline_rules.specs.Blocks.{Changes, block_renewing}
use Rattle.outline_rules.specs.Entry.{with_new_local, with_args, with_new_global, value_term, init_of, with_given, declared_locals}

-- ---- renewal

-- The page count is added, to a count before.
abbrev pub plain_pages : (before : Term) → State → State
plain_pages p s = record s { vars = s.vars + 1; facts = s.facts ++ page_facts p (fresh s); pages = Some (fresh s) }

-- The page count is added, where there is one.
abbrev pub plain_pages_to : Option Term → State → State
plain_pages_to None s = s
plain_pages_to (Some p) s = plain_pages p s

-- These globals are typed variables again, where they take part.
abbrev pub plain_globals : (takes_part : ℕ → Bool) → List (ℕ × ValType) → State → State
plain_globals part [] s = s
plain_globals part (g ∷ gs) s =
    plain_globals part gs (if part g.0 then with_global g.0 (fresh s) (with_typed g.1 s) else s)

-- The term of the result, where there is one, beside the state.
abbrev pub plain_result : Option ValType → State → Option Term × State
plain_result None s = (None, s)
plain_result (Some ty) s = (Some (fresh s), with_top ty (fresh s) (with_typed ty s))

-- The formulas and chunks of an assertion are known, with their leaves replaced.
abbrev pub plain_parts : Leaves → Assertion → State → State
plain_parts l a s = with_more_chunks (map (replaced_chunk l) a.chunks) (with_facts (map (replaced_formula l) a.formulas) s)

-- the state with a fresh variable for each own variable of the assertion past the fixed ones
abbrev pub with_own : Assertion → State → State
with_own a s = record s { vars = s.vars + a.own }

-- The assertion is known of fresh own variables past the fixed ones.
abbrev pub plain_assumed : Assertion → (fixed args : List Term) → (result : Option Term) → State → State
plain_assumed a fixed args result s =
    plain_parts (assertion_leaves (with_own a s) (fixed ++ variables_from s.vars a.own) args result) a (with_own a s)

-- the assertion is known of a state with this result
abbrev pub plain_known : Renewing → Assertion → Option Term × State → State
plain_known r a v = plain_assumed a r.fixed r.args v.0 v.1

-- Renewal by an assertion.
abbrev pub plain_renewed : Renewing → Assertion → State → State
plain_renewed r a s =
    let t : State = plain_globals r.changes r.globals s in
    plain_known r a (plain_result r.result (if r.pages then plain_pages_to t.pages t else t))

-- ---- after a block

-- These locals, which have the numbers from k on, are typed variables again where they take part.
abbrev pub plain_locals : (takes_part : ℕ → Bool) → (k : ℕ) → List (ValType × Term) → State → State
plain_locals part k [] s = s
plain_locals part k (e ∷ es) s =
    plain_locals part (suc k) es (if part k then with_local k (fresh s) (with_typed e.0 s) else s)

-- The state after a block or `if`, and at the start of a loop's body.
abbrev pub plain_resumed : Setting → Changes → Label → (entry : State) → State
plain_resumed c changes l entry =
    plain_renewed (block_renewing c changes l.takes) l.assertion (with_chunks [] (plain_locals changes.locals 0 entry.locals entry))

-- ---- function entry

-- Each parameter is a typed variable.
abbrev pub plain_params : List ValType → State → State
plain_params [] s = s
plain_params (ty ∷ tys) s = plain_params tys (with_new_local ty (fresh s) (with_typed ty s))

-- Other locals are 0.
abbrev pub plain_new_locals : List ValType → State → State
plain_new_locals [] s = s
plain_new_locals (ty ∷ tys) s = plain_new_locals tys (with_new_local ty (number 0) s)

-- A global that is a typed variable.
abbrev pub plain_unknown : ValType → State → State
plain_unknown ty s = with_new_global (Some (fresh s)) (with_typed ty s)

-- A global that has its value.
abbrev pub plain_value : Setting → ℕ → State → State
plain_value c k s = with_new_global (Some (value_term s (init_of c k))) s

-- A global by its stability.
abbrev pub plain_global : Setting → (at_entry : Bool) → ℕ → ValType → Stability → State → State
plain_global c at_entry k ty Unstable s = with_new_global None s
plain_global c at_entry k ty Immutable s =
    if nat_lt k (length (imported_globals_of c.code)) then plain_unknown ty s else plain_value c k s
plain_global c at_entry k ty Private s = if at_entry then plain_unknown ty s else plain_value c k s

-- The globals with the numbers from k on, in index order.
abbrev pub plain_new_globals : Setting → (at_entry : Bool) → (k : ℕ) → List GlobalType → State → State
plain_new_globals c at_entry k [] s = s
plain_new_globals c at_entry k (g ∷ gs) s =
    plain_new_globals c at_entry (suc k) gs (plain_global c at_entry k g.value (stability c.code k g) s)

-- the page count of a private memory is added, to the memory's minimum
abbrev pub plain_pages_entered : Setting → State → State
plain_pages_entered c s = if is_memory_private c then plain_pages (number (least_pages c)) s else s

-- The precondition is known.
abbrev pub plain_precondition : Setting → Option Contract → State → State
plain_precondition c contract s = with_given s.vars contract (plain_assumed (precondition_by c contract) [] s.args None s)

-- Function entry.
abbrev pub plain_entry : Setting → (func : ℕ) → State
plain_entry c f =
    plain_precondition c (contract_of c f)
    (plain_pages_entered c
    (plain_new_globals c true 0 (globals_of c.code)
    (plain_new_locals (declared_locals c f) (with_args (plain_params (func_type c f).params blank)))))

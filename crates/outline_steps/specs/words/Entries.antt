-- The beginning of a function: its entry state meets what is held there.
use Rattle.std.specs.Prelude.{◌≡◌, ℕ, suc, ◌*◌, ◌≤◌, Bool, true, false, nat_lt, MatchBool, ℤ, pos, List, [], ◌∷◌, ◌++◌, length, map, slice_get, Option, Some, None, Ok}
use Rattle.wasm_values.specs.declared.number.Val.{Val}
use Rattle.wasm_values.specs.declared.number.ValType.{ValType}
use Rattle.wasm_values.specs.Operators.{type_of, number_of, value_of}
use Rattle.wasm_syntax.specs.declared.instr.Instr.{Instr, Const, GlobalGet}
use Rattle.wasm_syntax.specs.declared.module.GlobalType.{GlobalType}
use Rattle.wasm_typing.specs.Valid.{ValInRange, globals_of, imported_globals_of}
use Rattle.term_trees.specs.declared.term.Term.{Term}
use Rattle.term_trees.specs.Meaning.{value}
use Rattle.escape_analysis.specs.declared.stability.Stability.{Stability}
use Rattle.escape_analysis.specs.declared.stability.Stability.TheVariants.{Unstable, Immutable, Private}
use Rattle.outline_rules.specs.Conditions.{IsStateOf}
use Rattle.escape_analysis.specs.Exposure.{stability}
use Rattle.outline_rules.specs.Settings.{Setting, global_type, func_type, contract_of, precondition_of, is_memory_private, least_pages}
use Rattle.outline_rules.specs.States.{State, blank}
use Rattle.outline_rules.specs.Renewal.{variables_from}
use Rattle.outline_rules.specs.Entry.{with_args, init_of, given_count, declared_locals, entry_state}
use Rattle.outline_rules.specs.words.Plain.{plain_params, plain_new_locals, plain_global, plain_new_globals, plain_pages_entered}
use Rattle.outline_rules.specs.Tests.{invariant_tested, contract_tested}
use Rattle.outline_rules.specs.Meets.{numbers_of, Held}
use Rattle.outline_meaning.specs.Pieces.{Piece}
use Rattle.outline_meaning.specs.Beside.{MeetsBeside}
use Rattle.outline_steps.specs.words.Assertions.{numbers_at, HoldsBeside, asserted_leaves, AssertionIsNamed}

-- Values have these types, one by one, and lie in their ranges.
abbrev pub ValuesFit : List ValType → List Val → Type 0
ValuesFit [] [] = Unit {0}
ValuesFit (ty ∷ tys) (v ∷ vs) = ((type_of v ≡ ty) × ValInRange v) × ValuesFit tys vs
ValuesFit _ _ = ⊥

-- A global is held with a value of its type.
abbrev pub IsHeld : Setting → Held → ℕ → ValType → Type 0
IsHeld c h k ty = (v : Val) × (h.globals k ≡ Some v) × (type_of v ≡ ty) × (global_type c k ≡ ty) × ValInRange v

-- A global that the module defines has the value of its constant expression.
abbrev pub InitFits : Setting → Held → State → ℕ → List Instr → Type 0
InitFits c h s k (Const w ∷ []) = (h.globals k ≡ Some w) × (type_of w ≡ global_type c k)
InitFits c h s k (GlobalGet x ∷ []) =
    (t : Term) × (v : Val) × (slice_get s.globals x ≡ Some (Some t)) × (h.globals x ≡ Some v) × (h.globals k ≡ Some v) × (type_of v ≡ global_type c k)
InitFits c h s k _ = ⊥

-- A global by its stability.
abbrev pub GlobalFits : Setting → Held → State → ℕ → ValType → Stability → Type 0
GlobalFits c h s k ty Unstable = Unit {0}
GlobalFits c h s k ty Immutable =
    MatchBool (nat_lt k (length (imported_globals_of c.code))) (IsHeld c h k ty) (InitFits c h s k (init_of c k))
GlobalFits c h s k ty Private = IsHeld c h k ty

-- The globals with the numbers from k on.
abbrev pub GlobalsFit : Setting → Held → (k : ℕ) → List GlobalType → State → Type 0
GlobalsFit c h k [] s = Unit {0}
GlobalsFit c h k (g ∷ gs) s =
    GlobalFits c h s k g.value (stability c.code k g)
    × GlobalsFit c h (suc k) gs (plain_global c true k g.value (stability c.code k g) s)

-- The private memory, where there is one, has at least its least number of pages.
abbrev pub MemoryFitsLeast : Setting → (private : Bool) → Option (List ℕ) → Type 0
MemoryFitsLeast c false held = Unit {0}
MemoryFitsLeast c true held =
    (bytes : List ℕ) × (count : ℕ) × (held ≡ Some bytes) × (length bytes ≡ 65536 * count) × (least_pages c ≤ count) × (count ≤ 65536)

-- the state before the globals, and before the precondition
abbrev pub entered_locals : Setting → (func : ℕ) → State
entered_locals c f = plain_new_locals (declared_locals c f) (with_args (plain_params (func_type c f).params blank))

abbrev pub entered : Setting → (func : ℕ) → State
entered c f = plain_pages_entered c (plain_new_globals c true 0 (globals_of c.code) (entered_locals c f))

-- What a function's frame holds at its entry: the arguments and zeros, and no operands.
pub record IsEntry (c : Setting) (f : ℕ) (args : List Val) (h : Held) : Type 0 where
  pub fit : ValuesFit (func_type c f).params args
  pub locals : h.locals ≡ args ++ map (λ t. value_of t 0) (declared_locals c f)
  pub operands : h.operands ≡ []
  pub globals : GlobalsFit c h 0 (globals_of c.code) (entered_locals c f)
  pub memory : MemoryFitsLeast c (is_memory_private c) h.memory

-- The entry state of a function meets what is held there, where the precondition holds for the arguments; its `args` and
-- `given` have the numbers that the precondition was read under.
abbrev pub EntryKeeps : Type 0
EntryKeeps =
    (c : Setting) (f : ℕ) (args : List Val) (h : Held) (own : List ℤ) (others : List Piece) (t : State)
    → IsEntry c f args h → length own ≡ (precondition_of c f).own
    → AssertionIsNamed (asserted_leaves 0 (entered c f) (variables_from (entered c f).vars (precondition_of c f).own) (entered c f).args None) (precondition_of c f)
    → HoldsBeside (precondition_of c f) (numbers_at [] own h (map (λ v. pos (number_of v)) args) None) (is_memory_private c) h.memory others
    → entry_state c f ≡ Ok t
    → (n : List ℤ) × MeetsBeside c t h n others × (map (value (numbers_of n)) t.args ≡ map (λ v. pos (number_of v)) args)
    × (t.given ≡ variables_from (entered c f).vars (given_count (contract_of c f)))
    × (map (value (numbers_of n)) (variables_from (entered c f).vars (precondition_of c f).own) ≡ own)

-- The same where the invariant and the function's contract are tested, in place of the premise on leaves.
abbrev pub TestedEntryKeeps : Type 0
TestedEntryKeeps =
    (c : Setting) (f : ℕ) (args : List Val) (h : Held) (own : List ℤ) (others : List Piece) (t : State)
    → IsEntry c f args h → invariant_tested c ≡ Ok tt → contract_tested c f ≡ Ok tt → length own ≡ (precondition_of c f).own
    → HoldsBeside (precondition_of c f) (numbers_at [] own h (map (λ v. pos (number_of v)) args) None) (is_memory_private c) h.memory others
    → entry_state c f ≡ Ok t
    → (n : List ℤ) × MeetsBeside c t h n others × IsStateOf c f t × (map (value (numbers_of n)) t.args ≡ map (λ v. pos (number_of v)) args)
    × (t.given ≡ variables_from (entered c f).vars (given_count (contract_of c f)))
    × (map (value (numbers_of n)) (variables_from (entered c f).vars (precondition_of c f).own) ≡ own)

-- Renewal: what a state says after control was elsewhere is met by what is held then, where what could not change is as
-- before and the assertion holds.
use Rattle.std.specs.Prelude.{◌≡◌, ℕ, ◌*◌, ◌≤◌, Bool, false, if◌then◌else◌, ℤ, pos, List, [], ◌∷◌, ◌++◌, length, map, slice_get, Option, Some, None, option_map, option_to_list, is_some, IsTrue, All, ◌⊎◌}
use Rattle.wasm_values.specs.declared.number.Val.{Val}
use Rattle.wasm_values.specs.declared.number.ValType.{ValType}
use Rattle.wasm_values.specs.Operators.{type_of, number_of}
use Rattle.wasm_typing.specs.Valid.{ValInRange}
use Rattle.term_trees.specs.declared.term.Term.{Term}
use Rattle.term_trees.specs.Meaning.{Numbers, value}
use Rattle.notes.specs.declared.assertion.Assertion.{Assertion}
use Rattle.outline_rules.specs.Settings.{Setting, global_type, is_memory_private}
use Rattle.outline_rules.specs.States.{State}
use Rattle.outline_rules.specs.Renewal.{Renewing, variables_from}
use Rattle.outline_rules.specs.words.Plain.{plain_globals, plain_pages_to, plain_result, plain_renewed}
use Rattle.outline_rules.specs.Meets.{numbers_of, Held}
use Rattle.outline_meaning.specs.Pieces.{Piece, pieces_of}
use Rattle.outline_meaning.specs.Beside.{MeetsBesideLater}
use Rattle.outline_steps.specs.words.Known.{Known}
use Rattle.outline_steps.specs.words.Assertions.{numbers_at, HoldsBeside, asserted_leaves, AssertionIsNamed, AreNamed}

-- A number is that of a global that takes part.
abbrev pub Pending : (takes_part : ℕ → Bool) → List (ℕ × ValType) → ℕ → Type 0
Pending part [] k = ⊥
Pending part (g ∷ gs) k = ((k ≡ g.0) × IsTrue (part g.0)) ⊎ Pending part gs k

-- Each global that takes part has a value of its type, and each other of which the state says something has its value of
-- before.
pub record GlobalsRenewed (c : Setting) (s : State) (part : ℕ → Bool) (gs : List (ℕ × ValType)) (before after : ℕ → Option Val) : Type 0 where
  pub typed : All (λ g. g.1 ≡ global_type c g.0) gs
  pub values : (k : ℕ) → Pending part gs k → (v : Val) × (after k ≡ Some v) × (type_of v ≡ global_type c k) × ValInRange v
  pub same : (k : ℕ) (t : Term) → slice_get s.globals k ≡ Some (Some t) → (before k ≡ after k) ⊎ Pending part gs k

-- The memory is a whole number of pages, at least as many as the page count says, and as many where it does not take part.
pub record PagesAre (n : Numbers) (p : Term) (changes : Bool) (held : Option (List ℕ)) : Type 0 where
  pub before : ℕ
  pub count : ℕ
  pub bytes : List ℕ
  pub known : value n p ≡ pos before
  pub there : held ≡ Some bytes
  pub whole : length bytes ≡ 65536 * count
  pub few : count ≤ 65536
  pub more : before ≤ count
  pub same : changes ≡ false → before ≡ count

abbrev pub PagesRenewed : Numbers → Option Term → (changes : Bool) → (held : Option (List ℕ)) → Type 0
PagesRenewed n None changes held = Unit {0}
PagesRenewed n (Some p) changes held = PagesAre n p changes held

-- The result has its type, where there is one.
abbrev pub ResultFits : Option ValType → Option Val → Type 0
ResultFits None None = Unit {0}
ResultFits (Some ty) (Some v) = (type_of v ≡ ty) × ValInRange v
ResultFits _ _ = ⊥

-- the state before its assertion, beside the term of the result
abbrev pub before_assertion : Renewing → State → Option Term × State
before_assertion r s =
    let t : State = plain_globals r.changes r.globals s in
    plain_result r.result (if r.pages then plain_pages_to t.pages t else t)

-- the terms of an assertion's own variables in a renewal
abbrev pub own_terms : Renewing → Assertion → State → List Term
own_terms r a s = r.fixed ++ variables_from (before_assertion r s).1.vars a.own

-- A renewed state meets what is held later.
abbrev pub RenewalKeeps : Type 0
RenewalKeeps =
    (c : Setting) (r : Renewing) (a : Assertion) (s : State) (before after : Held) (n own : List ℤ) (others : List Piece) (v : Option Val)
    → Known c s before n → is_some s.pages ≡ is_memory_private c
    → after.locals ≡ before.locals → after.operands ≡ option_to_list v ++ before.operands → ResultFits r.result v
    → GlobalsRenewed c s r.changes r.globals before.globals after.globals → PagesRenewed (numbers_of n) s.pages r.pages after.memory
    → AreNamed s.vars r.fixed → AreNamed s.vars r.args → length own ≡ a.own
    → AssertionIsNamed (asserted_leaves s.vars (before_assertion r s).1 (own_terms r a s) r.args (before_assertion r s).0) a
    → HoldsBeside a
    (numbers_at n (map (value (numbers_of n)) r.fixed ++ own) after (map (value (numbers_of n)) r.args) (option_map (λ x. pos (number_of x)) v))
    (is_memory_private c) after.memory (pieces_of (numbers_of n) s.chunks ++ others)
    → MeetsBesideLater c (plain_renewed r a s) after n others

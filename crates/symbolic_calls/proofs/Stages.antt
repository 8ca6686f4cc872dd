-- What stages of calls and accesses come to, from what their parts come to.
use Rattle.std.proofs.Common.{◌≡◌, ℕ, ◌<◌, List, [], length, map, All, Option, Some, None, IfSome, IfOk, OnOk, sym, ap, subst, ◌∙◌}
use Rattle.std.specs.Prelude.{true, Result, Ok, Err}
use Rattle.wasm_values.specs.Answers.{Gives}
use Rattle.wasm_values.specs.declared.number.ValType.{ValType}
use Rattle.wasm_syntax.specs.declared.instr.LoadOp.{LoadOp}
use Rattle.wasm_syntax.specs.declared.module.FuncType.{FuncType}
use Rattle.wasm_syntax.specs.Accesses.{loaded_type}
use Rattle.wasm_typing.specs.Valid.{type_at}
use Rattle.term_trees.specs.declared.term.Term.{Term}
use Rattle.term_logic.specs.Table.{tree_at}
use Rattle.notes.specs.declared.assertion.Contract.{Contract}
use Rattle.notes.specs.declared.uses.With.{With}
use Rattle.notes.specs.declared.uses.Use.{Use}
use Rattle.outline_rules.specs.Refusals.{Ruling, Refusal, ◌>>=◌, ◌>>◌}
use Rattle.outline_rules.specs.Settings.{Setting, private_globals, result_type_of}
use Rattle.outline_rules.specs.States.{State, popped, with_chunks}
use Rattle.outline_rules.specs.Uses.{trap_of}
use Rattle.outline_rules.specs.Entailment.{chunks_besides, entailed}
use Rattle.outline_rules.specs.Renewal.{renewed}
use Rattle.outline_rules.specs.Calls.{trapping, leaving, comes_back, inner, arguments, without_arguments, called, judged, called_by, call_indirect}
use Rattle.outline_rules.specs.Memory.{load_other, store_other}
use Rattle.symbolic_state.specs.declared.refused.Refused.{Refused}
use Rattle.symbolic_state.specs.Refused.{refusal_of}
use Rattle.symbolic_state.specs.States.{Tracked}
use Rattle.symbolic_state.specs.Growth.{Grown}
use Rattle.symbolic_calls.specs.words.Parts.{trap_or_typed, left_by, trap_or_enter}

-- what gives one thing gives an equal one
pub along : (t : Tracked) (r : Result (Unit {0}) Refused) (x y : Ruling State) → x ≡ y → Gives refusal_of (λ _. t.state) r x → Gives refusal_of (λ _. t.state) r y
along t r x y e h = let P : Ruling State → Type 0 = λ z. Gives refusal_of (λ _. t.state) r z in subst P e h

-- a fact that holds of a success leads to another
pub on-ok : {E P Q : Type 0} (r : Result (Unit {0}) E) → (P → Q) → OnOk r P → OnOk r Q
on-ok (Ok u) f h = f h
on-ok (Err e) f h = h

-- ---- accesses

-- a test that leaves the state as it was
module _ (x : Ruling (Unit {0})) (new old : State) where
  refused-then : (o : Option Refusal) → IfSome o (λ e. x ≡ Err e) → IfSome o (λ e. (x >> Ok old) ≡ Err e)
  refused-then None h = tt
  refused-then (Some e) h = ap (λ r. r >> Ok old) h

  pub tested : (r : Result (Unit {0}) Refused) → Gives refusal_of (λ _. tt) r x → IfOk r (λ _. new ≡ old) → Gives refusal_of (λ _. new) r (x >> Ok old)
  tested (Ok u) gives same = ap (λ y. y >> Ok old) gives ∙ ap Ok (sym same)
  tested (Err e) gives same = refused-then (refusal_of e) gives

module _ (c : Setting) (u : Use) (w : With) (s t : Tracked) where
  pub load-other-is : (op : LoadOp) (ty : ValType) → trap_of u ≡ Ok w → t ≡ record s { state = popped 1 s.state } → ty ≡ loaded_type op → trap_or_typed c ty w t.state ≡ load_other c op u s.state
  load-other-is op ty taken rest is =
      (λ j. trap_or_typed c (is j) w (rest j).state)
      ∙ ap (λ r. r >>= λ x. trap_or_typed c (loaded_type op) x (popped 1 s.state)) (sym taken)

  pub store-other-is : trap_of u ≡ Ok w → t ≡ record s { state = popped 2 s.state } → (trapping c w t.state >> Ok t.state) ≡ store_other c u s.state
  store-other-is taken rest =
      (λ j. trapping c w (rest j).state >> Ok (rest j).state)
      ∙ ap (λ r. r >>= λ x. trapping c x (popped 2 s.state) >> Ok (popped 2 s.state)) (sym taken)

-- ---- calls

module _ (c : Setting) (ty : FuncType) where
  pub come-back-is : (contract : Contract) (args terms chunks : List ℕ) (old kept : Tracked) (gs : List (ℕ × ValType)) (result_type : Option ValType)
      → kept ≡ record old { state = with_chunks (chunks_besides chunks 0 old.state.chunks) old.state } → gs ≡ private_globals c → result_type ≡ result_type_of ty
      → renewed (record { globals = gs; changes = λ k. true; pages = true; result = result_type; fixed = map (tree_at kept.terms) terms; args = map (tree_at kept.terms) args }) contract.post kept.state
      ≡ comes_back c contract ty (map (tree_at old.terms) args) old.state (left_by (map (tree_at old.terms) terms) chunks old.state)
  come-back-is contract args terms chunks old kept gs result_type left globals results =
      λ j. renewed (record { globals = globals j; changes = λ k. true; pages = true; result = results j; fixed = map (tree_at (left j).terms) terms; args = map (tree_at (left j).terms) args }) contract.post (left j).state

  module _ (contract : Contract) (args : List ℕ) (x : With) (old new : Tracked) (same : new.state ≡ old.state) (more : Grown old new) (within : All (λ id. id < length old.terms) args) where
    trees : map (tree_at new.terms) args ≡ map (tree_at old.terms) args
    trees = more.terms.trees args within

    pub enter-is : (ids given chunks : List ℕ)
        → entailed old.state (record { assertion = contract.pre; args = map (tree_at old.terms) args; result = None; fixed = [] }) x ≡ Ok (left_by (map (tree_at new.terms) ids) x.chunks old.state)
        → given ≡ ids → chunks ≡ x.chunks
        → comes_back c contract ty (map (tree_at new.terms) args) new.state (left_by (map (tree_at new.terms) given) chunks new.state) ≡ inner c contract ty (map (tree_at old.terms) args) x old.state
    enter-is ids given chunks is terms used =
        (λ j. comes_back c contract ty (trees j) (same j) (left_by (map (tree_at new.terms) (terms j)) (used j) (same j)))
        ∙ ap (λ r. r >>= comes_back c contract ty (map (tree_at old.terms) args) old.state) (sym is)

    pub trap-or-enter-is : (w : With) → trapping c w old.state ≡ Ok tt → inner c contract ty (map (tree_at new.terms) args) x new.state ≡ trap_or_enter c contract ty (map (tree_at old.terms) args) w x old.state
    trap-or-enter-is w is =
        (λ j. inner c contract ty (trees j) x (same j))
        ∙ ap (λ r. r >> inner c contract ty (map (tree_at old.terms) args) x old.state) (sym is)

  module _ (s t : Tracked) (n : ℕ) (rest : t ≡ record s { state = popped n s.state }) (count : n ≡ length ty.params) where
    pub outside-is : (w : With) → leaving c ty w t.state ≡ called c ty None w s.state
    outside-is w = (λ j. leaving c ty w (rest j).state) ∙ (λ j. leaving c ty w (popped (count j) s.state))

    pub on-arguments : (next : List Term → State → Ruling State) (ids given : List ℕ) → given ≡ ids → map (tree_at s.terms) ids ≡ arguments ty s.state → next (map (tree_at t.terms) given) t.state ≡ next (arguments ty s.state) (without_arguments ty s.state)
    on-arguments next ids given is terms =
        (λ j. next (map (tree_at (rest j).terms) (is j)) (rest j).state) ∙ (λ j. next (terms j) (popped (count j) s.state))

-- ---- indirect calls

pub indirect-is : (c : Setting) (x : ℕ) (u : Use) (s t : Tracked) (types : List FuncType) (ty : FuncType) (o : Option Contract)
    → types ≡ c.code.types → ty ≡ type_at types x → judged c ty ≡ Ok o → t ≡ record s { state = popped 1 s.state } → called_by c ty o u t.state ≡ call_indirect c x u s.state
indirect-is c x u s t types ty o all is given rest =
    let at : ty ≡ type_at c.code.types x = is ∙ ap (λ ts. type_at ts x) all in
    (λ j. called_by c ty o u (rest j).state)
    ∙ ap (λ r. r >>= λ k. called_by c ty k u (popped 1 s.state)) (sym given)
    ∙ (λ j. judged c (at j) >>= λ k. called_by c (at j) k u (popped 1 s.state))

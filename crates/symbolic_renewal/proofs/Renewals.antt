-- Globals that are renewed one by one, and the parts of a renewal joined.
use Rattle.std.proofs.Common.{◌≡◌, ℕ, ◌+◌, ◌<◌, ◌≤◌, true, List, [], ◌∷◌, length, map, drop, get_or, Option, Some, None, IfSome, refl, sym, ap, ◌∙◌}
use Rattle.std.specs.Prelude.{option_map, Ok, Err}
use Rattle.wasm_values.specs.declared.number.ValType.{ValType}
use Rattle.term_logic.specs.Table.{tree_at}
use Rattle.notes.specs.declared.assertion.Assertion.{Assertion}
use Rattle.outline_rules.specs.Refusals.{Ruling, Refusal, ◌>>=◌}
use Rattle.outline_rules.specs.States.{State}
use Rattle.outline_rules.specs.Renewal.{Renewing, global_renewed, globals_renewed, pages_renewed, result_renewed, assumed, renewed}
use Rattle.symbolic_state.specs.States.{Tracked}
use Rattle.symbolic_state.specs.Growth.{Grown}
use Rattle.symbolic_state.proofs.Grows.{grown-same, grown-then}
use Rattle.symbolic_renewal.specs.declared.renewing.Renewing as code
use Rattle.symbolic_renewal.specs.Renewings.{renewing_of, RenewingWithin}
use Rattle.symbolic_renewal.specs.words.Parts.{slots_renewed}
use Rattle.symbolic_renewal.proofs.Going.{all_gone, going-next, going-stop, going-end}

-- ---- globals

abbrev GlobalStep : ℕ × ValType → State → Ruling State
GlobalStep g = global_renewed g.0 g.1

globals-are : (gs : List (ℕ × ValType)) (s : State) → globals_renewed (λ k. true) gs s ≡ all_gone GlobalStep gs s
globals-are [] s = refl
globals-are (g ∷ gs) s = λ j. global_renewed g.0 g.1 s >>= λ t. globals-are gs t j

-- the first globals are renewed
pub record Globals (old new : Tracked) (gs : List (ℕ × ValType)) (i : ℕ) : Type 0 where
  pub whole : globals_renewed (λ k. true) gs old.state ≡ all_gone (λ g. global_renewed g.0 g.1) (drop i gs) new.state
  pub grown : Grown old new

pub globals-start : (old : Tracked) (gs : List (ℕ × ValType)) → Globals old old gs 0
globals-start old gs = record { whole = globals-are gs old.state; grown = grown-same old }

module _ (old mid : Tracked) (gs : List (ℕ × ValType)) (i : ℕ) (so_far : Globals old mid gs i) where
  pub globals-end : length gs ≤ i → globals_renewed (λ k. true) gs old.state ≡ Ok mid.state
  globals-end high = going-end GlobalStep _ mid.state gs i so_far.whole high

  module _ (g : ℕ × ValType) (low : i < length gs) (at : g ≡ get_or gs i g) where
    pub globals-next : (new : Tracked) → global_renewed g.0 g.1 mid.state ≡ Ok new.state → Grown mid new → Globals old new gs (i + 1)
    globals-next new gives more = record {
      whole = going-next GlobalStep _ mid.state gs i so_far.whole g low at new.state gives;
      grown = grown-then old mid new so_far.grown more;
    }

    pub globals-stop : (o : Option Refusal) → IfSome o (λ e. global_renewed g.0 g.1 mid.state ≡ Err e) → IfSome o (λ e. globals_renewed (λ k. true) gs old.state ≡ Err e)
    globals-stop None fails = tt
    globals-stop (Some e) fails = going-stop GlobalStep _ mid.state gs i so_far.whole g low at e fails

pub ruleset globals = (globals-start, globals-end)

-- ---- joining

joined : {A B C : Type 0} (r : Ruling A) (f : A → Ruling B) (g : B → Ruling C) → (r >>= λ a. f a >>= g) ≡ ((r >>= f) >>= g)
joined (Ok a) f g = refl
joined (Err e) f g = refl

renewed-is : (r : Renewing) (a : Assertion) (s : State) → r.changes ≡ (λ k. true) → renewed r a s ≡ (slots_renewed r.globals r.pages r.result s >>= λ v. assumed a r.fixed r.args v.0 v.1)
renewed-is r a s all =
    ap (λ part. globals_renewed part r.globals s >>= λ t. pages_renewed r.pages t >>= λ u. result_renewed r.result u >>= λ v. assumed a r.fixed r.args v.0 v.1) all
    ∙ joined (globals_renewed (λ k. true) r.globals s) (pages_renewed r.pages) (λ u. result_renewed r.result u >>= λ v. assumed a r.fixed r.args v.0 v.1)
    ∙ joined (globals_renewed (λ k. true) r.globals s >>= pages_renewed r.pages) (result_renewed r.result) (λ v. assumed a r.fixed r.args v.0 v.1)

pub ruleset same = (grown-same)

pub renewed-then : (old mid : Tracked) (r : code.Renewing) (a : Assertion) (answer : Option ℕ) → RenewingWithin (length old.terms) r → Grown old mid
    → slots_renewed r.globals.now r.pages r.result old.state ≡ Ok (option_map (tree_at mid.terms) answer, mid.state)
    → assumed a (map (tree_at mid.terms) r.fixed.now) (map (tree_at mid.terms) r.args.now) (option_map (tree_at mid.terms) answer) mid.state ≡ renewed (renewing_of old.terms r) a old.state
renewed-then old mid r a answer low more gives =
    (λ j. assumed a (more.terms.trees r.fixed.now low.fixed j) (more.terms.trees r.args.now low.args j) (option_map (tree_at mid.terms) answer) mid.state)
    ∙ ap (λ x. x >>= λ v. assumed a (map (tree_at old.terms) r.fixed.now) (map (tree_at old.terms) r.args.now) v.0 v.1) (sym gives)
    ∙ sym (renewed-is (renewing_of old.terms r) a old.state refl)

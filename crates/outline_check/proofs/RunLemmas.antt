-- States that globals and operands meet, and what keeps them met.
use Rattle.std.proofs.Common.{◌≡◌, ℕ, zero, suc, ◌+◌, ◌^◌, ◌<◌, ◌≤◌, Bool, true, false, ◌&&◌, nat_eq, List, [], ◌∷◌, ◌++◌, length, map, take, drop, Option, Some, None, Result, Ok, Err, refl, ap, ◌∙◌, append_assoc, add-zero, add-one, arith}
use Rattle.std.specs.Prelude.{ℤ, int_le, pos, slice_get, slice_index, slice_index_or, slice_set, All, MatchOption}
use Rattle.std.specs.List.{list_all}
use Rattle.std.specs.Ordering.{int_eq}
use Rattle.std.proofs.lemmas.Grind.{common_steps}
use Rattle.std.proofs.lemmas.Int.{ints}
use Rattle.std.proofs.Math.Seq.{take-suc}
use Rattle.std.proofs.lemmas.List.{map-append, take_all}
use Rattle.std.proofs.lemmas.Bool.{and_parts, and_from}
use Rattle.wasm_values.specs.declared.number.Val.TheVariants as value
use Rattle.wasm_syntax.specs.declared.instr.Instr.{Instr, Plain, Const, GlobalGet, GlobalSet}
use Rattle.wasm_syntax.specs.declared.instr.Plain.TheVariants as plain
use Rattle.wasm_syntax.specs.declared.module.Global.{Global}
use Rattle.outline_check.specs.declared.answer.Reason.{Reason}
use Rattle.outline_check.specs.declared.answer.Reason.TheVariants as reason
use Rattle.outline_check.specs.declared.notes.Formula.{Formula}
use Rattle.outline_check.specs.declared.notes.Step.{Step}
use Rattle.outline_check.specs.declared.notes.Move.{Move}
use Rattle.outline_check.specs.declared.notes.Move.TheVariants.{Have}
use Rattle.outline_check.specs.declared.notes.Note.{Note}
use Rattle.outline_check.specs.declared.state.Term.{Term}
use Rattle.outline_check.specs.declared.state.Term.TheVariants.{Number, Variable}
use Rattle.outline_check.specs.declared.state.Fact.{Fact}
use Rattle.outline_check.specs.declared.state.Fact.TheVariants.{AtMost}
use Rattle.outline_check.specs.declared.state.State.{State}
use Rattle.outline_check.specs.declared.stop.Why.{Why}
use Rattle.outline_check.specs.declared.stop.Why.TheVariants as why
use Rattle.outline_check.specs.declared.stop.Refusal.{Refusal}
use Rattle.outline_check.specs.declared.notes.Notes.{Notes}
use Rattle.wasm_syntax.specs.declared.module.Func.{Func}
use Rattle.wasm_syntax.specs.declared.module.Module.{Module}
use Rattle.outline_check.specs.Refusals.{Verified, and_then, test_for, placed, failed_by, answered}
use Rattle.outline_check.specs.States.{term_at, fact_of, made, with_fact, with_global, with_globals, assumed, entered, initial_term, initial_state, nothing, with_set, after}
use Rattle.outline_check.specs.Derivations.{Derives, IsFirstBad, is_at, first_bad, value_of, is_true}
use Rattle.outline_check.specs.Outlines.{in_scope, derived, had, moved, are_facts, entailed, moves_of, use_of, facts_of, is_unused, stepped, ended, note_at, run_from, function_outline, notes_of, functions_from, notes_fit, initial_outline, module_outline, outline}
use Rattle.outline_check.specs.Runs.{ran, initial_value, AreMet, OutlinesKeepTheInvariant}
use Rattle.outline_check.proofs.DerivationLaws.{exact, sound, at-true, all-append}

-- a state that was made is the one that was to be made
pub made-same : (s t : State) → made s ≡ Ok t → t ≡ s
unfolding made
made-same s t e = grind (arith, common_steps)

-- a success has a success before it
pub ok_first : {A B E : Type 0} (r : Result A E) (next : A → Result B E) (b : B) → and_then r next ≡ Ok b → (a : A) × (r ≡ Ok a) × (next a ≡ Ok b)
ok_first (Ok a) next b e = (a, refl, e)
ok_first (Err why) next b e = cc

module _ (numbers : ℕ → ℤ) where
  -- under these numbers the facts are true, and the terms have the values of the globals and operands
  pub record Meets (s : State) (globals operands : List ℕ) : Type 0 where
    pub facts : list_all (is_true numbers) s.facts ≡ true
    pub globals_are : map (value_of numbers) s.globals ≡ map pos globals
    pub operands_are : map (value_of numbers) s.operands ≡ map pos operands

  value-at : (terms : List Term) (globals : List ℕ) (k : ℕ) → map (value_of numbers) terms ≡ map pos globals →
      value_of numbers (slice_index_or terms k (Number (pos 0))) ≡ pos (slice_index_or globals k 0)
  value-at [] [] k e = refl
  value-at [] (g ∷ globals) k e = cc
  value-at (t ∷ terms) [] k e = cc
  value-at (t ∷ terms) (g ∷ globals) zero e = cc
  value-at (t ∷ terms) (g ∷ globals) (suc k) e =
      let rest : map (value_of numbers) terms ≡ map pos globals = cc in
      value-at terms globals k rest

  pub value-term_at : (terms : List Term) (globals : List ℕ) (k : ℕ) → map (value_of numbers) terms ≡ map pos globals →
      value_of numbers (term_at terms k) ≡ pos (slice_index globals k)
  unfolding term_at
  value-term_at terms globals k e = value-at terms globals k e

  pub met-fact : (s : State) (globals operands : List ℕ) (fact : Fact) → Meets s globals operands → is_true numbers fact ≡ true →
      Meets (with_fact fact s) globals operands
  met-fact s globals operands fact m h = record {
    facts = all-append numbers s.facts fact m.facts h;
    globals_are = m.globals_are;
    operands_are = m.operands_are;
  }

  derives_of : (P : Type 0) (Q : ℕ → Type 0) (o : Option ℕ) → MatchOption o P Q → o ≡ None → P
  derives_of P Q None m e = m
  derives_of P Q (Some k) m e = cc

  derived-met : (goal : Fact) (steps : List Step) (o : Option ℕ) (s t : State) (globals operands : List ℕ) → Meets s globals operands →
      first_bad s.globals s.facts goal steps ≡ o → derived goal s o ≡ Ok t → Meets t globals operands
  derived-met goal steps None s t globals operands m bad e =
      let derives = derives_of (Derives s.globals s.facts goal steps) (IsFirstBad s.globals s.facts goal steps) (first_bad s.globals s.facts goal steps) (exact s.globals s.facts goal steps) bad in
      let true_goal = sound s.globals s.facts goal steps numbers derives m.facts in
      rw (made-same (with_fact goal s) t e) (met-fact s globals operands goal m true_goal)
  derived-met goal steps (Some k) s t globals operands m bad e = cc

  pub had-met : (formula : Formula) (steps : List Step) (s t : State) (globals operands : List ℕ) → Meets s globals operands →
      had formula steps s ≡ Ok t → Meets t globals operands
  had-met formula steps s t globals operands m e =
      let p = ok_first
      (test_for reason.Scope (in_scope (length s.globals) formula && list_all (λ step. in_scope (length s.globals) step.formula) steps))
      (λ _. derived (fact_of s.globals formula) s (first_bad s.globals s.facts (fact_of s.globals formula) steps)) t e in
      derived-met (fact_of s.globals formula) steps (first_bad s.globals s.facts (fact_of s.globals formula) steps) s t globals operands m refl p.2

  pub moved-met : (moves : List Move) (s t : State) (globals operands : List ℕ) → Meets s globals operands →
      moved moves s ≡ Ok t → Meets t globals operands
  moved-met [] s t globals operands m e = let same : s ≡ t = cc in rw (← same) m
  moved-met (Have formula steps ∷ moves) s t globals operands m e =
      let p = ok_first (had formula steps s) (moved moves) t e in
      moved-met moves p.0 t globals operands (had-met formula steps s p.0 globals operands m p.1) p.2

  set-map : (terms : List Term) (globals : List ℕ) (k : ℕ) (top : Term) (v : ℕ) → map (value_of numbers) terms ≡ map pos globals →
      value_of numbers top ≡ pos v → map (value_of numbers) (slice_set terms k top) ≡ map pos (slice_set globals k v)
  set-map [] [] k top v e h = refl
  set-map [] (g ∷ globals) k top v e h = cc
  set-map (t ∷ terms) [] k top v e h = cc
  set-map (t ∷ terms) (g ∷ globals) zero top v e h = cc
  set-map (t ∷ terms) (g ∷ globals) (suc k) top v e h =
      let rest : map (value_of numbers) terms ≡ map pos globals = cc in
      let here : value_of numbers t ≡ pos g = cc in
      rw (set-map terms globals k top v rest h, here) refl

  -- what an instruction leaves, and that the run goes on from there
  pub record GoesOn (t : State) (globals operands : List ℕ) (instr : Instr) (rest : List Instr) : Type 0 where
    pub globals_then : List ℕ
    pub operands_then : List ℕ
    pub met : Meets t globals_then operands_then
    pub run : ran globals operands (instr ∷ rest) ≡ ran globals_then operands_then rest

  stays : (s t : State) (globals operands : List ℕ) (instr : Instr) (rest : List Instr) → Meets s globals operands →
      ◌≡◌ {A = Result State Why} (Ok s) (Ok t) → ran globals operands (instr ∷ rest) ≡ ran globals operands rest → GoesOn t globals operands instr rest
  stays s t globals operands instr rest m e r =
      let same : s ≡ t = cc in
      record { globals_then = globals; operands_then = operands; met = rw (← same) m; run = r }

  pushed-met : (s t : State) (term : Term) (v : ℕ) (globals operands : List ℕ) (instr : Instr) (rest : List Instr) → Meets s globals operands →
      value_of numbers term ≡ pos v → made (record s { operands = term ∷ s.operands }) ≡ Ok t →
      ran globals operands (instr ∷ rest) ≡ ran globals (v ∷ operands) rest → GoesOn t globals operands instr rest
  pushed-met s t term v globals operands instr rest m h e r = record {
    globals_then = globals;
    operands_then = v ∷ operands;
    met =
        rw (made-same (record s { operands = term ∷ s.operands }) t e)
        (record { facts = m.facts; globals_are = m.globals_are; operands_are = rw (h, m.operands_are) refl });
    run = r;
  }

  drop-map : (terms : List Term) (operands : List ℕ) → map (value_of numbers) terms ≡ map pos operands →
      map (value_of numbers) (drop 1 terms) ≡ map pos (drop 1 operands)
  drop-map [] [] e = refl
  drop-map [] (v ∷ operands) e = cc
  drop-map (t ∷ terms) [] e = cc
  drop-map (t ∷ terms) (v ∷ operands) e = cc

  dropped-met : (s t : State) (globals operands : List ℕ) (rest : List Instr) → Meets s globals operands →
      ◌≡◌ {A = Result State Why} (Ok (record s { operands = drop 1 s.operands })) (Ok t) → GoesOn t globals operands (Plain plain.Drop) rest
  dropped-met s t globals operands rest m e =
      let same : record s { operands = drop 1 s.operands } ≡ t = cc in
      record {
        globals_then = globals;
        operands_then = drop 1 operands;
        met = rw (← same) (record { facts = m.facts; globals_are = m.globals_are; operands_are = drop-map s.operands operands m.operands_are });
        run = refl;
      }

  set-met : (k : ℕ) (tops : List Term) (s t : State) (globals operands : List ℕ) (rest : List Instr) → s.operands ≡ tops → Meets s globals operands →
      ◌≡◌ {A = Result State Why} (Ok (with_set k tops s)) (Ok t) → GoesOn t globals operands (GlobalSet k) rest
  set-met k [] s t globals [] rest et m e = stays s t globals [] (GlobalSet k) rest m e refl
  set-met k [] s t globals (v ∷ operands) rest et m e =
      let none : [] ≡ map pos (v ∷ operands) = rw et at m.operands_are in cc none
  set-met k (top ∷ tops) s t globals [] rest et m e =
      let none : map (value_of numbers) (top ∷ tops) ≡ [] = rw et at m.operands_are in cc none
  set-met k (top ∷ tops) s t globals (v ∷ operands) rest et m e =
      let both : map (value_of numbers) (top ∷ tops) ≡ map pos (v ∷ operands) = rw et at m.operands_are in
      let first : value_of numbers top ≡ pos v = cc both in
      let others : map (value_of numbers) tops ≡ map pos operands = cc both in
      let same : record s { globals = slice_set s.globals k top; operands = tops } ≡ t = cc e in
      record {
        globals_then = slice_set globals k v;
        operands_then = operands;
        met = rw (← same) (record { facts = m.facts; globals_are = set-map s.globals globals k top v m.globals_are first; operands_are = others });
        run = refl;
      }

  pub after-met : (instr : Instr) (rest : List Instr) (s t : State) (globals operands : List ℕ) → Meets s globals operands → after instr s ≡ Ok t →
      GoesOn t globals operands instr rest
  after-met (Plain plain.Drop) rest s t globals operands m e = dropped-met s t globals operands rest m e
  after-met (Const (value.I32 n)) rest s t globals operands m e =
      pushed-met s t (Number (pos n)) n globals operands (Const (value.I32 n)) rest m refl e refl
  after-met (GlobalGet k) rest s t globals operands m e =
      pushed-met s t (term_at s.globals k) (slice_index globals k) globals operands (GlobalGet k) rest m
      (value-term_at s.globals globals k m.globals_are) e refl
  after-met (GlobalSet k) rest s t globals operands m e = set-met k s.operands s t globals operands rest refl m e
  after-met instr rest s t globals operands m e = stays s t globals operands instr rest m e refl

  pub stepped-met : (note : Option Note) (instr : Instr) (rest : List Instr) (s t : State) (globals operands : List ℕ) → Meets s globals operands →
      stepped note instr s ≡ Ok t → GoesOn t globals operands instr rest
  stepped-met given instr rest s t globals operands m e =
      let p = ok_first (moved (moves_of given) s) (λ u. and_then (test_for reason.Use (is_unused (use_of given))) (λ _. after instr u)) t e in
      let q = ok_first (test_for reason.Use (is_unused (use_of given))) (λ _. after instr p.0) t p.2 in
      after-met instr rest p.0 t globals operands (moved-met (moves_of given) s p.0 globals operands m p.1) q.2

  facts-met : (s : State) (globals operands : List ℕ) (facts : List ℕ) (formulas : List Formula) → Meets s globals operands →
      are_facts s facts formulas ≡ true → AreMet formulas globals
  facts-met s globals operands [] [] m e = refl
  facts-met s globals operands [] (formula ∷ formulas) m e = cc
  facts-met s globals operands (k ∷ facts) [] m e = cc
  facts-met s globals operands (k ∷ facts) (formula ∷ formulas) m e =
      let p = and_parts (is_at s.facts k (fact_of s.globals formula)) (are_facts s facts formulas) e in
      let here : int_eq (value_of numbers (term_at s.globals formula.global)) formula.value ≡ true =
      at-true numbers s.facts k (fact_of s.globals formula) m.facts p.0 in
      let now : int_eq (pos (slice_index globals formula.global)) formula.value ≡ true =
      rw (value-term_at s.globals globals formula.global m.globals_are) at here in
      and_from _ _ now (facts-met s globals operands facts formulas m p.1)

  tested : (why : Reason) (b : Bool) (u : Unit {0}) → test_for why b ≡ Ok u → b ≡ true
  tested why true u e = refl
  tested why false u e = cc

  pub entailed-met : (formulas : List Formula) (facts : List ℕ) (s : State) (globals operands : List ℕ) (u : Unit {0}) → Meets s globals operands →
      entailed formulas facts s ≡ Ok u → AreMet formulas globals
  entailed-met formulas facts s globals operands u m e =
      let p = ok_first (test_for reason.Use (nat_eq (length facts) (length formulas))) (λ _. test_for reason.Fact (are_facts s facts formulas)) u e in
      facts-met s globals operands facts formulas m (tested reason.Fact (are_facts s facts formulas) u p.2)

  pub ended-met : (formulas : List Formula) (note : Option Note) (s : State) (globals operands : List ℕ) (u : Unit {0}) → Meets s globals operands →
      ended formulas note s ≡ Ok u → AreMet formulas globals
  ended-met formulas given s globals operands u m e =
      let p = ok_first (moved (moves_of given) s) (entailed formulas (facts_of (use_of given))) u e in
      entailed-met formulas (facts_of (use_of given)) p.0 globals operands u (moved-met (moves_of given) s p.0 globals operands m p.1) p.2

  pub assumed-met : (formulas : List Formula) (s t : State) (globals operands : List ℕ) → Meets s globals operands → AreMet formulas globals →
      assumed formulas s ≡ Ok t → Meets t globals operands
  assumed-met [] s t globals operands m h e = let same : s ≡ t = cc in rw (← same) m
  assumed-met (formula ∷ formulas) s t globals operands m h e =
      let p = ok_first (made (with_fact (fact_of s.globals formula) s)) (assumed formulas) t e in
      let q = and_parts (int_eq (pos (slice_index globals formula.global)) formula.value)
      (list_all (λ f. int_eq (pos (slice_index globals f.global)) f.value) formulas) h in
      let here : is_true numbers (fact_of s.globals formula) ≡ true =
      rw (value-term_at s.globals globals formula.global m.globals_are) q.0 in
      let met : Meets p.0 globals operands =
      rw (made-same (with_fact (fact_of s.globals formula) s) p.0 p.1) (met-fact s globals operands (fact_of s.globals formula) m here) in
      assumed-met formulas p.0 t globals operands met q.1 p.2

placed_ok : {A : Type 0} (at : ℕ) (function : Option ℕ) (r : Result A Why) (a : A) → placed at function r ≡ Ok a → r ≡ Ok a
placed_ok at function (Ok b) a e = cc
placed_ok at function (Err why) a e = cc

module _ (numbers : ℕ → ℤ) (invariant : List Formula) (function : ℕ) (notes : List Note) (places : List ℕ) where
  pub run-met : (i : ℕ) (instrs : List Instr) (s : State) (globals operands : List ℕ) (u : Unit {0}) → Meets numbers s globals operands →
      run_from invariant function notes places i instrs s ≡ Ok u → AreMet invariant (ran globals operands instrs)
  run-met i [] s globals operands u m e =
      ended-met numbers invariant (note_at notes i) s globals operands u m
      (placed_ok (slice_index places i) (Some function) (ended invariant (note_at notes i) s) u e)
  run-met i (instr ∷ instrs) s globals operands u m e =
      let p = ok_first (placed (slice_index places i) (Some function) (stepped (note_at notes i) instr s))
      (run_from invariant function notes places (i + 1) instrs) u e in
      let on = stepped-met numbers (note_at notes i) instr instrs s p.0 globals operands m
      (placed_ok (slice_index places i) (Some function) (stepped (note_at notes i) instr s) p.0 p.1) in
      rw on.run (run-met (i + 1) instrs p.0 on.globals_then on.operands_then u on.met p.2)

-- the values of variables at a function's entry
abbrev pub entry_numbers : List ℕ → ℕ → ℤ
entry_numbers globals v = pos (slice_index globals v)

-- the globals that were added so far
record AreAdded (globals : List ℕ) (count : ℕ) (s : State) : Type 0 where
  counted : s.variables ≡ count
  facts : list_all (is_true (entry_numbers globals)) s.facts ≡ true
  globals_are : map (value_of (entry_numbers globals)) s.globals ≡ map pos (take count globals)
  operands : s.operands ≡ []

at_least : (x : ℕ) → int_le (pos 0) (pos x) ≡ true
at_least x = grind (arith, ints)

at_most : (x : ℕ) → x < 2 ^ 32 → int_le (pos x) (pos 4294967295) ≡ true
at_most x h = grind (arith, ints)

small : (globals : List ℕ) (k : ℕ) → All (λ number. number < 2 ^ 32) globals → k < length globals → slice_index globals k < 2 ^ 32
small globals k h within = h k 0 within

one_more : (globals : List ℕ) (count : ℕ) (s : State) → All (λ number. number < 2 ^ 32) globals → count < length globals →
    AreAdded globals count s → AreAdded globals (suc count) (with_global s)
one_more globals count s h within a =
    let low : is_true (entry_numbers globals) (AtMost (Number (pos 0)) (Variable s.variables)) ≡ true = at_least (slice_index globals s.variables) in
    let high : is_true (entry_numbers globals) (AtMost (Variable s.variables) (Number (pos 4294967295))) ≡ true =
    at_most (slice_index globals s.variables) (rw a.counted (small globals count h within)) in
    let first = all-append (entry_numbers globals) s.facts (AtMost (Number (pos 0)) (Variable s.variables)) a.facts low in
    let both = all-append (entry_numbers globals) (s.facts ++ AtMost (Number (pos 0)) (Variable s.variables) ∷ [])
    (AtMost (Variable s.variables) (Number (pos 4294967295))) first high in
    record {
      counted = ap (λ n. n + 1) a.counted ∙ add-one count;
      facts = rw append_assoc at both;
      globals_are =
          simp map-append
          (rw (a.globals_are, a.counted, take-suc globals count 0) (simp map-append refl));
      operands = a.operands;
    }

added : (globals : List ℕ) (count : ℕ) (s : State) → All (λ number. number < 2 ^ 32) globals → count ≤ length globals →
    with_globals count ≡ Ok s → AreAdded globals count s
added globals zero s h within e =
    let same : nothing ≡ s = cc in
    rw (← same) (record { counted = refl; facts = refl; globals_are = refl; operands = refl })
added globals (suc count) s h within e =
    let p = ok_first (with_globals count) (λ t. made (with_global t)) s e in
    rw (made-same (with_global p.0) s p.2) (one_more globals count p.0 h (omega arith) (added globals count p.0 h (omega arith) p.1))

pub entered-met : (formulas : List Formula) (globals : List ℕ) (count : ℕ) (s : State) → length globals ≡ count →
    All (λ number. number < 2 ^ 32) globals → AreMet formulas globals → entered count formulas ≡ Ok s → Meets (entry_numbers globals) s globals []
entered-met formulas globals count s e h met entry =
    let p = ok_first (with_globals count) (assumed formulas) s entry in
    let a = added globals count p.0 h (omega arith) p.1 in
    assumed-met (entry_numbers globals) formulas p.0 s globals []
    (record {
      facts = a.facts;
      globals_are = a.globals_are ∙ ap (map pos) (take_all count globals (omega arith));
      operands_are = rw a.operands refl;
    })
    met p.2

initial-number : (numbers : ℕ → ℤ) (init : List Instr) → value_of numbers (initial_term init) ≡ pos (initial_value init)
initial-number numbers (Const (value.I32 n) ∷ []) = refl
initial-number numbers _ = refl

initial-map : (numbers : ℕ → ℤ) (globals : List Global) →
    map (value_of numbers) (map (λ global. initial_term global.init) globals) ≡ map pos (map (λ global. initial_value global.init) globals)
initial-map numbers [] = refl
initial-map numbers (global ∷ globals) = rw (initial-number numbers global.init, initial-map numbers globals) refl

pub initial-met : (globals : List Global) (s : State) → initial_state globals ≡ Ok s →
    Meets (λ _. pos 0) s (map (λ global. initial_value global.init) globals) []
initial-met globals s e =
    rw (made-same (record { variables = 0; facts = []; globals = map (λ global. initial_term global.init) globals; operands = [] }) s e)
    (record { facts = refl; globals_are = initial-map (λ _. pos 0) globals; operands_are = refl })

verified : (r : Result (Unit {0}) Refusal) → answered r ≡ Verified → (u : Unit {0}) × (r ≡ Ok u)
verified (Ok u) e = (u, refl)
verified (Err refusal) e = absurd (not_failed refusal.at refusal.function refusal.why e)
  where
    not_failed : (at : ℕ) (function : Option ℕ) (reason : Why) → failed_by at function reason ≡ Verified → ⊥
    not_failed at function (why.Reason r) e = cc
    not_failed at function (why.Limit word) e = cc

module _ (globals : ℕ) (notes : Notes) (code : List (List ℕ)) where
  function-verified : (f k : ℕ) (funcs : List Func) (func : Func) (u : Unit {0}) → functions_from globals notes code f funcs ≡ Ok u →
      slice_get funcs k ≡ Some func → (own : List Note) × (places : List ℕ) × (v : Unit {0})
      × (function_outline notes.invariant.formulas (f + k) own places globals func.body ≡ Ok v)
  function-verified f k [] func u e get = cc
  function-verified f zero (g ∷ funcs) func u e get =
      let same : g ≡ func = cc get in
      let p = ok_first
      (function_outline notes.invariant.formulas f (notes_of notes.funcs f) (slice_index_or code f []) globals g.body)
      (λ _. functions_from globals notes code (f + 1) funcs) u e in (
        notes_of notes.funcs f,
        slice_index_or code f [],
        p.0,
        rw (add-zero, ← same) p.1,
      )
  function-verified f (suc k) (g ∷ funcs) func u e get =
      let p = ok_first
      (function_outline notes.invariant.formulas f (notes_of notes.funcs f) (slice_index_or code f []) globals g.body)
      (λ _. functions_from globals notes code (f + 1) funcs) u e in
      let later = function-verified (f + 1) k funcs func u p.2 get in
      let sum : f + 1 + k ≡ f + suc k = omega arith in
      rw sum at later

  pub function-keeps : (k : ℕ) (funcs : List Func) (func : Func) (u : Unit {0}) (values : List ℕ) → functions_from globals notes code 0 funcs ≡ Ok u →
      slice_get funcs k ≡ Some func → length values ≡ globals → All (λ number. number < 2 ^ 32) values →
      AreMet notes.invariant.formulas values → AreMet notes.invariant.formulas (ran values [] func.body)
  function-keeps k funcs func u values e get count small_values met =
      let found = function-verified 0 k funcs func u e get in
      let p = ok_first (placed (slice_index found.1 0) (Some (0 + k)) (entered globals notes.invariant.formulas))
      (run_from notes.invariant.formulas (0 + k) found.0 found.1 0 func.body) found.2 found.3 in
      run-met (entry_numbers values) notes.invariant.formulas (0 + k) found.0 found.1 0 func.body p.0 values [] found.2
      (entered-met notes.invariant.formulas values globals p.0 count small_values met
      (placed_ok (slice_index found.1 0) (Some (0 + k)) (entered globals notes.invariant.formulas) p.0 p.1))
      p.2

pub initially-met : (m : Module) (notes : Notes) (u : Unit {0}) → initial_outline m notes ≡ Ok u →
    AreMet notes.invariant.formulas (map (λ global. initial_value global.init) m.globals)
initially-met m notes u e =
    let p = ok_first (initial_state m.globals)
    (λ s. and_then (moved notes.initial.moves s) (entailed notes.invariant.formulas notes.initial.with.facts)) u e in
    let q = ok_first (moved notes.initial.moves p.0) (entailed notes.invariant.formulas notes.initial.with.facts) u p.2 in
    let values = map (λ (global : Global). initial_value global.init) m.globals in
    entailed-met (λ _. pos 0) notes.invariant.formulas notes.initial.with.facts q.0 values [] u
    (moved-met (λ _. pos 0) notes.initial.moves p.0 q.0 values [] (initial-met m.globals p.0 p.1) q.1) q.2

pub kept : OutlinesKeepTheInvariant
unfolding outline
kept m marks notes first said =
    let whole = verified (module_outline m marks notes) said in
    let p = ok_first (placed 0 None (test_for reason.Notes (notes_fit m.funcs notes.funcs)))
    (λ _. and_then (placed 0 None (test_for reason.Scope (list_all (in_scope (length m.globals)) notes.invariant.formulas)))
    (λ _. and_then (functions_from (length m.globals) notes marks.code 0 m.funcs)
    (λ _. placed marks.len None (initial_outline m notes)))) whole.0 whole.1 in
    let q = ok_first (placed 0 None (test_for reason.Scope (list_all (in_scope (length m.globals)) notes.invariant.formulas)))
    (λ _. and_then (functions_from (length m.globals) notes marks.code 0 m.funcs)
    (λ _. placed marks.len None (initial_outline m notes))) whole.0 p.2 in
    let r = ok_first (functions_from (length m.globals) notes marks.code 0 m.funcs)
    (λ _. placed marks.len None (initial_outline m notes)) whole.0 q.2 in (
      initially-met m notes whole.0 (placed_ok marks.len None (initial_outline m notes) whole.0 r.2),
      λ f func globals get values met.
          function-keeps (length m.globals) notes marks.code f m.funcs func r.0 globals r.1 get values.each values.values met,
    )

-- States that are made, and globals that are added one by one.
use Rattle.std.proofs.Common.{◌≡◌, ℕ, zero, suc, ◌+◌, ◌-◌, ◌<◌, ◌≤◌, Ok, Err, ◌∙◌, subst, add-zero, add-suc, add-one, arith}
use Rattle.std.proofs.lemmas.Grind.{common_steps}
use Rattle.outline_check.specs.declared.state.State.{State}
use Rattle.outline_check.specs.declared.stop.Why.{Why}
use Rattle.wasm_values.specs.declared.error.OrMemory.{OrMemory}
use Rattle.wasm_values.specs.declared.error.OrMemory.TheVariants as stop
use Rattle.outline_check.specs.Refusals.{IsSaid}
use Rattle.outline_check.specs.States.{made, with_global, with_globals}

pub made-few : (s t : State) → made s ≡ Ok t → t.variables ≤ 1000000
unfolding made
made-few s t e = grind (arith, common_steps)

next_global : (k : ℕ) (s : State) → with_globals k ≡ Ok s → with_globals (k + 1) ≡ made (with_global s)
next_global k s e = rw (add-one, e)

globals_refused : (k d : ℕ) (why : Why) → with_globals k ≡ Err why → with_globals (k + d) ≡ Err why
globals_refused k zero why e = rw add-zero e
globals_refused k (suc d) why e = rw (add-suc, globals_refused k d why e)

refused_by : (k m : ℕ) (why : Why) → k ≤ m → with_globals k ≡ Err why → with_globals m ≡ Err why
refused_by k m why h e =
    let sum : k + (m - k) ≡ m = omega arith in
    subst (λ n. with_globals n ≡ Err why) sum (globals_refused k (m - k) why e)

-- where one more global is refused, so are all
pub with_globals-refused : (k m : ℕ) (s : State) (why : OrMemory Why) → with_globals k ≡ Ok s → k < m →
    IsSaid {A = State} {W = Why} (Err why) (made (with_global s)) → IsSaid {A = State} {W = Why} (Err why) (with_globals m)
with_globals-refused k m s (stop.Fault reason) e h said = refused_by (k + 1) m _ (omega arith) (next_global k s e ∙ said)
with_globals-refused k m s stop.OutOfMemory e h said = tt

pub with_globals-next : (k : ℕ) (s t : State) → with_globals k ≡ Ok s → made (with_global s) ≡ Ok t → with_globals (k + 1) ≡ Ok t
with_globals-next k s t e made_t = next_global k s e ∙ made_t

use Rattle.std.proofs.Common.{◌≡◌, ℕ, ◌-◌, length, Option, refl, sym, subst, arith}
use Rattle.wasm_typing.specs.declared.fault.ValidWord.{ValidWord}
use Rattle.wasm_typing.specs.Typing.{Types}
use Rattle.wasm_typing.specs.faults.Open.{parts_before}
use Rattle.body_check.specs.words.Operands.{Are}
use Rattle.body_check.specs.words.Steps.{context_in}
use Rattle.body_check.specs.words.Walks.{IsAt, Walked}
use Rattle.body_check.proofs.BodyLemmas.{simple_at, begun_at, further, fault_at, ended, fault_at_end, some_items, TypedBefore}
use Rattle.body_check.proofs.body.check_body.Goals as goal

pub loop-n-init : goal.loop-n-init
loop-n-init c = begun_at (context_in c.args.names.now) c.restart.new.self c.args.names.now.func.now.body (c.restart.ensures (context_in c.args.names.now))

pub advance-requires-clause-simple : goal.advance-requires-clause-simple
advance-requires-clause-simple c = simple_at c.args.names.now.func.now.body c.loop-n.n c.at.result.now c.at.ensures.item

pub returns-in-Some : goal.returns-in-Some
returns-in-Some c =
    let body = c.args.names.now.func.now.body in
    let W : Option ValidWord → Type 0 = λ o. Walked o (context_in c.args.names.now) c.advance.new.self (parts_before body c.loop-n.n) c.at.result.now in
    fault_at (context_in c.args.names.now) c.advance.new.self body c.args.places.now c.loop-n.n c.at.result.now c.in-Some.word
    (let h = c.loop-n-test.true in let same = c.requires.places in omega (arith, h, same)) c.requires.places c.at.ensures.item c.loop-n.invariant.1
    (subst W c.in-Some.is (c.in_ok-word.ensures (parts_before body c.loop-n.n) c.loop-n.invariant.0))

pub loop-n-preserved : goal.loop-n-preserved
loop-n-preserved c =
    let body = c.args.names.now.func.now.body in
    let W : Option ValidWord → Type 0 = λ o. Walked o (context_in c.args.names.now) c.advance.new.self (parts_before body c.loop-n.n) c.at.result.now in
    further (context_in c.args.names.now) c.loop-n.walk c.advance.new.self body c.loop-n.n c.at.result.now
    (let h = c.loop-n-test.true in let same = c.requires.places in omega (arith, h, same)) c.at.ensures.item c.loop-n.invariant.1
    (subst W c.in_default.is (c.in_ok-word.ensures (parts_before body c.loop-n.n) c.loop-n.invariant.0))

pub returns-then-finish : goal.returns-then-finish
returns-then-finish c =
    let body = c.args.names.now.func.now.body in
    let A : Types → Type 0 = λ ts. Are c.loop-n.walk.operands ts in
    ended (context_in c.args.names.now) c.loop-n.walk body c.loop-n.n
    (let h = c.loop-n-test.false in let m = c.loop-n.auto.n-end in let same = c.requires.places in let some = some_items body in omega (arith, h, m, same, some))
    c.loop-n.invariant.0 (subst A c.requires.names.results (c.if-finish.ensures.yes refl))

pub returns-else-finish : goal.returns-else-finish
returns-else-finish c =
    let body = c.args.names.now.func.now.body in
    let ctx = context_in c.args.names.now in
    let A : Types → Type 0 = λ ts. Are c.loop-n.walk.operands ts in
    let last = length c.args.places.now - 1 in
    let e : c.loop-n.n ≡ last = let h = c.loop-n-test.false in let m = c.loop-n.auto.n-end in omega (arith, h, m) in
    let I : ℕ → Type 0 = λ k. IsAt ctx c.loop-n.walk (parts_before body k) in
    let B : ℕ → Type 0 = λ k. TypedBefore ctx body k in
    fault_at_end ctx c.loop-n.walk body c.args.places.now last
    (let same = c.requires.places in let some = some_items body in omega (arith, same, some)) c.requires.places
    (subst I e c.loop-n.invariant.0) (subst B e c.loop-n.invariant.1)
    (λ a. c.if-finish.ensures.no refl (subst A (sym c.requires.names.results) a))

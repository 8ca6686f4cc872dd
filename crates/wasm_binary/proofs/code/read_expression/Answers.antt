use Rattle.std.proofs.Common.{◌≡◌, ◌-◌, ◌+◌, suc, ◌∷◌, [], ◌++◌, length, sym, ◌∙◌, refl, arith, true, false, Ok, nat_lt}
use Rattle.std.proofs.lemmas.Result.{err_from_is_err_and}
use Rattle.wasm_syntax.specs.Parts.{may_turn}
use Rattle.binary_grammar.specs.words.Reading.{place}
use Rattle.binary_grammar.specs.words.CodeReading.{item_at, is_last, expression_at}
use Rattle.wasm_binary.proofs.CodeLoop.{goes_on, stops, fails, runs_out, starts, no_items}
use Rattle.wasm_binary.proofs.code.read_expression.Goals as goal

pub loop-init : goal.loop-init
loop-init c = (starts 100 c.args.end (length c.args.bytes.now - 0) c.new-maker.result c.new-places.result c.args.bytes.now (omega arith) c.new-maker.ensures c.new-places.ensures, no_items c.new-maker.result c.new-maker.ensures, omega arith)

pub returns-in_err-item-clause-gives : goal.returns-in_err-item-clause-gives
returns-in_err-item-clause-gives c =
    let p = err_from_is_err_and c.from_residual-in_err-item.result c.from_residual-in_err-item.ensures.1 in
    let n = length c.args.bytes.now in
    let k : n - c.loop.counter ≡ suc (n - (c.loop.counter + 1)) = omega arith in
    rw (p.1, p.2) (fails c.in_err-item.field-0.0 100 (n - c.loop.counter) (n - (c.loop.counter + 1)) c.args.end c.loop.maker c.loop.places c.loop.rest.now (expression_at 100 c.args.end c.args.bytes.now) k
    (rw (← c.may_turn-turn.ensures, ← c.parts-parts.ensures.value) c.in_err-item.ensures.gives) c.loop.invariant.0)

pub returns-then-is_last-clause-gives : goal.returns-then-is_last-clause-gives
returns-then-is_last-clause-gives c =
    let n = length c.args.bytes.now in
    let k : n - c.loop.counter ≡ suc (n - (c.loop.counter + 1)) = omega arith in
    let e : item_at (may_turn c.loop.maker) (nat_lt 100 (length c.loop.maker)) c.args.end c.loop.rest.now ≡ Ok (c.in_ok-item.item, c.in_ok-item.after.now) =
    rw (← c.may_turn-turn.ensures, ← c.parts-parts.ensures.value) c.in_ok-item.ensures.gives in
    let l : is_last (length c.loop.maker) c.in_ok-item.item ≡ true = rw (← c.parts-parts.ensures.value) (sym c.is_last.ensures ∙ c.if-is_last.true) in
    let s = stops 100 (n - c.loop.counter) (n - (c.loop.counter + 1)) c.args.end c.loop.maker c.loop.places c.loop.rest.now c.in_ok-item.item c.in_ok-item.after.now (expression_at 100 c.args.end c.args.bytes.now) k e l c.loop.invariant.0 in
    let ps : c.push.new.self ≡ c.loop.places ++ place c.args.end c.loop.rest.now ∷ [] = rw (← c.place.ensures) c.in_ok-push.ensures.ok in
    s ∙ rw (ps, c.in_ok-finish.ensures.value) refl

pub loop-preserved : goal.loop-preserved
loop-preserved c =
    let n = length c.args.bytes.now in
    let k : n - c.loop.counter ≡ suc (n - (c.loop.counter + 1)) = omega arith in
    let e : item_at (may_turn c.loop.maker) (nat_lt 100 (length c.loop.maker)) c.args.end c.loop.rest.now ≡ Ok (c.in_ok-item.item, c.in_ok-item.after.now) =
    rw (← c.may_turn-turn.ensures, ← c.parts-parts.ensures.value) c.in_ok-item.ensures.gives in
    let l : is_last (length c.loop.maker) c.in_ok-item.item ≡ false = rw (← c.parts-parts.ensures.value) (sym c.is_last.ensures ∙ c.if-is_last.false) in
    let s = goes_on 100 (n - c.loop.counter) (n - (c.loop.counter + 1)) c.args.end c.loop.maker c.loop.places c.loop.rest.now c.in_ok-item.item c.in_ok-item.after.now (expression_at 100 c.args.end c.args.bytes.now) k e l c.loop.invariant.0 in
    let ps : c.push.new.self ≡ c.loop.places ++ place c.args.end c.loop.rest.now ∷ [] = rw (← c.place.ensures) c.in_ok-push.ensures.ok in
    (rw (ps, c.in_ok-take_item.ensures.taken) s, omega (arith, c.in_ok-take_item.ensures.items, c.loop.invariant.1), omega (arith, c.in_ok-item.ensures.shorter))

pub returns-clause-gives : goal.returns-clause-gives
returns-clause-gives c =
    let n = length c.args.bytes.now in
    rw c.malformed.ensures (runs_out 100 (n - c.loop.counter) c.args.end c.loop.maker c.loop.places c.loop.rest.now (expression_at 100 c.args.end c.args.bytes.now) (omega arith) c.loop.invariant.0)

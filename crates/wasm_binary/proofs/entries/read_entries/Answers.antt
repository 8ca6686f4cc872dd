use Rattle.std.proofs.Common.{◌≡◌, ◌++◌, ◌∷◌, [], arith}
use Rattle.std.proofs.lemmas.Result.{err_from_is_err_and}
use Rattle.binary_grammar.specs.words.Reading.{entries_at, place}
use Rattle.wasm_binary.proofs.EntryLoop.{goes_on, ends, is_done}
use Rattle.wasm_binary.proofs.entries.read_entries.Goals as goal

pub returns-in_err-entry-clause-gives : goal.returns-in_err-entry-clause-gives
returns-in_err-entry-clause-gives g c =
    let r = c.from_residual-in_err-entry in
    let p = err_from_is_err_and r.result r.ensures.1 in
    rw (p.1, p.2) (ends g.T.Entry.reads c.in_err-entry.field-0.0 c.loop.entries c.loop.places c.args.count c.loop.counter c.args.end c.loop.rest.now (entries_at g.T.Entry.reads c.args.count c.args.end c.args.bytes.now) c.loop-test.true c.in_err-entry.ensures.gives c.loop.invariant.0)

pub loop-preserved : goal.loop-preserved
loop-preserved g c =
    let e : c.push-in-loop.new.self ≡ c.loop.entries ++ c.in_ok-entry.entry ∷ [] = c.in_ok-push-2.ensures.ok in
    let p : c.push.new.self ≡ c.loop.places ++ place c.args.end c.loop.rest.now ∷ [] = rw (← c.place.ensures) c.in_ok-push.ensures.ok in
    (rw (e, p) (goes_on g.T.Entry.reads c.loop.entries c.loop.places c.args.count c.loop.counter c.args.end c.loop.rest.now c.in_ok-entry.entry c.in_ok-entry.after.now (entries_at g.T.Entry.reads c.args.count c.args.end c.args.bytes.now) c.loop-test.true c.in_ok-entry.ensures.gives c.loop.invariant.0), omega (arith, c.in_ok-entry.ensures.shorter))

pub returns-clause-gives : goal.returns-clause-gives
returns-clause-gives g c = is_done g.T.Entry.reads c.loop.entries c.loop.places c.args.count c.loop.counter c.args.end c.loop.rest.now (entries_at g.T.Entry.reads c.args.count c.args.end c.args.bytes.now) c.loop-test.false c.loop.invariant.0

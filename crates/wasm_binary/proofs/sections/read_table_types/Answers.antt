use Rattle.std.proofs.Common.{◌≡◌, ◌++◌, ◌∷◌, []}
use Rattle.std.proofs.lemmas.Result.{err_from_is_err_and}
use Rattle.binary_grammar.specs.words.Reading.{entries_at, place}
use Rattle.binary_grammar.specs.words.TypeReading.{table_type_at}
use Rattle.wasm_binary.proofs.EntryLoop.{goes_on, ends, is_done}
use Rattle.wasm_binary.proofs.sections.read_table_types.Goals as goal

pub returns-in_err-entry : goal.returns-in_err-entry
returns-in_err-entry c =
    let r = c.from_residual-in_err-entry in
    let p = err_from_is_err_and r.result r.ensures.1 in
    rw (p.1, p.2) (ends table_type_at c.in_err-entry.field-0.0 c.loop.entries c.loop.places c.args.count c.loop.counter c.args.end c.loop.rest.now (entries_at table_type_at c.args.count c.args.end c.args.bytes.now) c.loop-test.true c.in_err-entry.ensures.gives c.loop.invariant)

pub loop-preserved : goal.loop-preserved
loop-preserved c =
    let e : c.push-in-loop.new.self ≡ c.loop.entries ++ c.in_ok-entry.entry ∷ [] = c.in_ok-push-2.ensures.ok in
    let p : c.push.new.self ≡ c.loop.places ++ place c.args.end c.loop.rest.now ∷ [] = rw (← c.place.ensures) c.in_ok-push.ensures.ok in
    rw (e, p) (goes_on table_type_at c.loop.entries c.loop.places c.args.count c.loop.counter c.args.end c.loop.rest.now c.in_ok-entry.entry c.in_ok-entry.after.now (entries_at table_type_at c.args.count c.args.end c.args.bytes.now) c.loop-test.true c.in_ok-entry.ensures.gives c.loop.invariant)

pub returns : goal.returns
returns c = is_done table_type_at c.loop.entries c.loop.places c.args.count c.loop.counter c.args.end c.loop.rest.now (entries_at table_type_at c.args.count c.args.end c.args.bytes.now) c.loop-test.false c.loop.invariant

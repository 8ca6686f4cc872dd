use Rattle.std.proofs.Common.{◌≡◌, ◌-◌, ◌+◌, suc, length, sym, ◌∙◌, arith}
use Rattle.std.proofs.lemmas.Result.{err_from_is_err_and}
use Rattle.binary_grammar.specs.Bounds.{the_bounds}
use Rattle.binary_grammar.specs.words.SectionReading.{sections_at}
use Rattle.wasm_binary.proofs.SectionLoop.{goes_on, fails, runs_out, is_done}
use Rattle.wasm_binary.proofs.decoder.read_sections.Goals as goal

pub returns-in_err-section : goal.returns-in_err-section
returns-in_err-section c =
    let p = err_from_is_err_and c.from_residual.result c.from_residual.ensures.1 in
    let n = length c.args.bytes.now in
    let k : n - c.loop.counter ≡ suc (n - (c.loop.counter + 1)) = omega arith in
    rw (p.1, p.2) (fails c.in_err-section.field-0.0 the_bounds (n - c.loop.counter) (n - (c.loop.counter + 1)) c.args.end c.loop.draft c.loop.rest.now (sections_at the_bounds n c.args.draft.now c.args.end c.args.bytes.now) k (sym c.is_empty.ensures ∙ c.if-is_empty.false)
    (rw (← c.len.ensures) c.in_err-section.ensures) c.loop.invariant)

pub loop-preserved : goal.loop-preserved
loop-preserved c =
    let n = length c.args.bytes.now in
    let k : n - c.loop.counter ≡ suc (n - (c.loop.counter + 1)) = omega arith in
    rw c.in_ok-add_section.ensures (goes_on the_bounds (n - c.loop.counter) (n - (c.loop.counter + 1)) c.args.end c.loop.draft c.loop.rest.now c.in_ok-section.section c.in_ok-section.after.now (sections_at the_bounds n c.args.draft.now c.args.end c.args.bytes.now) k (sym c.is_empty.ensures ∙ c.if-is_empty.false)
    (rw (← c.len.ensures) c.in_ok-section.ensures) c.loop.invariant)

pub returns-after-loop : goal.returns-after-loop
returns-after-loop c =
    let n = length c.args.bytes.now in
    runs_out the_bounds (n - c.loop.counter) c.args.end c.loop.draft c.loop.rest.now (sections_at the_bounds n c.args.draft.now c.args.end c.args.bytes.now) (omega arith) c.loop.invariant

pub returns-then-is_empty : goal.returns-then-is_empty
returns-then-is_empty c =
    let n = length c.args.bytes.now in
    is_done the_bounds (n - c.loop.counter) c.args.end c.loop.draft c.loop.rest.now (sections_at the_bounds n c.args.draft.now c.args.end c.args.bytes.now) (sym c.is_empty.ensures ∙ c.if-is_empty.true) c.loop.invariant

use Rattle.std.proofs.Common.{◌<◌, length, sym, ◌∙◌, arith}
use Rattle.std.proofs.lemmas.Bool.{eqb-true, eqb-false}
use Rattle.wasm_seal.proofs.PartLaws.{is_last, goes_on, comes_back, begins_some}
use Rattle.wasm_seal.proofs.splitting.last_section.Goals as goal

pub returns-then-is_empty-clause-found : goal.returns-then-is_empty-clause-found
returns-then-is_empty-clause-found c =
    let rest = c.loop-after.rest.now in
    let after = c.in-Some.after.now in
    c.loop-after.invariant.back rest (is_last rest after (eqb-true (length after) 0 (sym c.is_empty.ensures ∙ c.if-is_empty.true)) c.in-Some.ensures.found)

pub loop-after-preserved : goal.loop-after-preserved
loop-after-preserved c =
    let rest = c.loop-after.rest.now in
    let after = c.in-Some.after.now in
    let other = eqb-false (length after) 0 (sym c.is_empty.ensures ∙ c.if-is_empty.false) in
    let some : 0 < length after = omega (arith, other) in
    record {
      there = λ last h. goes_on rest after last c.in-Some.ensures.found some (c.loop-after.invariant.there last h);
      back = λ last h. c.loop-after.invariant.back last (comes_back rest after last c.in-Some.ensures.found h);
    }

pub returns-clause-missing : goal.returns-clause-missing
returns-clause-missing c =
    λ last h.
    let b = begins_some c.loop-after.rest.now last (c.loop-after.invariant.there last h) in
    c.in_default.ensures.missing b.0 b.1

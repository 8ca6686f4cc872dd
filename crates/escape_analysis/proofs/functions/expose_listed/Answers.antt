use Rattle.std.proofs.Common.{refl, ◌==◌, get_or}
use Rattle.std.proofs.lemmas.List.{get_or_default}
use Rattle.escape_analysis.specs.words.Changing.{exposing}
use Rattle.escape_analysis.proofs.ChangeLemmas.{changed-next, changed-end}
use Rattle.escape_analysis.proofs.functions.expose_listed.Goals as goal

pub loop-number-preserved : goal.loop-number-preserved
loop-number-preserved c =
    changed-next exposing (λ n f. n == f) c.args.numbers.now c.loop-number.number-index (get_or c.args.numbers.now c.loop-number.number-index 0)
    c.loop-number.marks c.expose.new.marks _ (λ b. refl) c.loop-number-test.true (get_or_default c.args.numbers.now c.loop-number.number-index 0 _ c.loop-number-test.true)
    c.expose.ensures c.loop-number.invariant

pub returns : goal.returns
returns c =
    changed-end exposing (λ n f. n == f) c.args.numbers.now c.loop-number.number-index c.loop-number.marks _ c.loop-number-test.false c.loop-number.invariant

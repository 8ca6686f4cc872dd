use Rattle.std.proofs.Common.{sym, ◌∙◌, arith}
use Rattle.std.proofs.lemmas.Result.{err_from_is_err_and}
use Rattle.first_reader.specs.Lexemes.{lexemes}
use Rattle.first_reader.proofs.ManyLaws.{many_go_on, many_stop, many_done}
use Rattle.first_reader.proofs.part.many.Goals as goal

pub returns-in_err-part-clause-value : goal.returns-in_err-part-clause-value
returns-in_err-part-clause-value g c =
    let p = err_from_is_err_and c.from_residual.result c.from_residual.ensures.1 in
    rw (p.1, p.2) (many_stop g.P.Part.begins g.P.Part.reads c.each.parts (lexemes c.each.rest.now) _ c.in_err-part.field-0.0 c.each.invariant.told (sym c.begins.ensures ∙ c.each-test.true) c.in_err-part.ensures.value)

pub each-preserved : goal.each-preserved
each-preserved g c = record {
  told = rw c.in_ok-push.ensures.ok (many_go_on g.P.Part.begins g.P.Part.reads c.each.parts (lexemes c.each.rest.now) _ c.in_ok-part.part (lexemes c.in_ok-part.others.now) c.each.invariant.told (sym c.begins.ensures ∙ c.each-test.true) c.in_ok-part.ensures.value c.in_ok-part.ensures.less);
  less = omega (arith, c.in_ok-part.ensures.less);
}

pub returns-clause-value : goal.returns-clause-value
returns-clause-value g c = many_done g.P.Part.begins g.P.Part.reads c.each.parts (lexemes c.each.rest.now) _ c.each.invariant.told (sym c.begins.ensures ∙ c.each-test.false)

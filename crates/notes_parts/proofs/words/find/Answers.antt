use Rattle.std.proofs.Common.{map, sym, ap, ◌∙◌}
use Rattle.notes_grammar.specs.Words.{same_word, pick}
use Rattle.notes_parts.proofs.TableLoop.{found, missed, ends}
use Rattle.notes_parts.proofs.words.find.Goals as goal

pub returns-then-eq : goal.returns-then-eq
returns-then-eq g c = found (λ e. (e.0.now, e.1)) c.args.table.now c.loop-name.name-index c.loop-name-item.result c.args.word.now (pick (map (λ e. (e.0.now, e.1)) c.args.table.now) c.args.word.now) c.loop-name-test.true c.loop-name-item.is (ap (same_word c.args.word.now) (sym c.as_bytes.ensures.value) ∙ sym c.eq.ensures ∙ c.if-eq.true) c.loop-name.invariant

pub loop-name-preserved : goal.loop-name-preserved
loop-name-preserved g c = missed (λ e. (e.0.now, e.1)) c.args.table.now c.loop-name.name-index c.loop-name-item.result c.args.word.now (pick (map (λ e. (e.0.now, e.1)) c.args.table.now) c.args.word.now) c.loop-name-test.true c.loop-name-item.is (ap (same_word c.args.word.now) (sym c.as_bytes.ensures.value) ∙ sym c.eq.ensures ∙ c.if-eq.false) c.loop-name.invariant

pub returns : goal.returns
returns g c = ends (λ e. (e.0.now, e.1)) c.args.table.now c.loop-name.name-index c.args.word.now (pick (map (λ e. (e.0.now, e.1)) c.args.table.now) c.args.word.now) c.loop-name-test.false c.loop-name.invariant

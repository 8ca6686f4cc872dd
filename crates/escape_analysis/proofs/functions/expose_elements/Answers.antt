use Rattle.std.proofs.Common.{ℕ, List, refl, ap, ◌∙◌}
use Rattle.wasm_syntax.specs.declared.module.Elem.{Elem}
use Rattle.escape_analysis.specs.words.Changing.{changed_where, exposing, number_among}
use Rattle.escape_analysis.proofs.ChangeLemmas.{changed-next, changed-end}
use Rattle.escape_analysis.proofs.functions.expose_elements.Goals as goal

pub loop-elem-preserved : goal.loop-elem-preserved
loop-elem-preserved c =
    changed-next exposing (λ (e : Elem). number_among e.funcs) c.args.elems.now c.loop-elem.elem-index c.elem-item.result
    c.loop-elem.marks c.expose_listed.new.marks _ (λ b. refl) c.loop-elem-test.true c.elem-item.is
    (c.expose_listed.ensures ∙ ap (λ (ns : List ℕ). changed_where exposing (number_among ns) 0 c.loop-elem.marks) c.as_slice.ensures)
    c.loop-elem.invariant

pub returns : goal.returns
returns c =
    changed-end exposing (λ (e : Elem). number_among e.funcs) c.args.elems.now c.loop-elem.elem-index c.loop-elem.marks _
    c.loop-elem-test.false c.loop-elem.invariant

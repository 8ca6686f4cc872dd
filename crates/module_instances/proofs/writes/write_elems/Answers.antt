use Rattle.std.proofs.Common.{subst, sym}
use Rattle.wasm_syntax.specs.declared.module.Elem.{Elem}
use Rattle.module_instances.specs.words.Building.{HasConstOffset}
use Rattle.module_instances.proofs.WritingLemmas.{elems_more}
use Rattle.module_instances.proofs.writes.write_elems.Goals as goal

pub write_elem-requires-clause-constant : goal.write_elem-requires-clause-constant
write_elem-requires-clause-constant c =
    let P : Elem → Type 0 = λ e. HasConstOffset e.offset in
    subst P (sym c.elem-item.is) (c.requires.constant c.loop-elem.elem-index c.elem-item.result c.loop-elem-test.true)

pub loop-elem-preserved : goal.loop-elem-preserved
loop-elem-preserved c =
    let i = c.loop-elem.invariant in
    let more = elems_more c.args.instance.now c.args.globals.now c.args.tables.now c.loop-elem.tables c.write_elem.new.tables c.args.elems.now c.loop-elem.elem-index c.elem-item.result c.loop-elem-test.true c.elem-item.is i.written i.fits c.write_elem.ensures in
    record { written = more.0; fits = more.1 }

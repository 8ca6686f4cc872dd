use Rattle.wasm_syntax.specs.Trees.{sequence_of}
use Rattle.wasm_typing.specs.Valid.{SequenceInRange, imported_globals_of, GlobalValid}
use Rattle.std.proofs.Common.{List, ap, ◌∙◌, subst}
use Rattle.wasm_syntax.specs.declared.instr.Instr.{Instr}
use Rattle.wasm_syntax.specs.declared.module.Global.{Global}
use Rattle.wasm_typing.specs.Valid.{const_type}
use Rattle.body_check.proofs.SectionLemmas.{each_more, each_all, of_item}
use Rattle.wasm_validate.proofs.ranges.read_globals.Goals as goal

pub loop-global-preserved : goal.loop-global-preserved
loop-global-preserved c = each_more (λ (g : Global). SequenceInRange (sequence_of g.init)) c.args.module.now.globals c.as_slice-global-items.result.now c.loop-global.global-index c.global-item.result c.loop-global.invariant c.as_slice-global-items.ensures c.loop-global-test.true c.global-item.is (let M : List Instr → Type 0 = λ is. SequenceInRange (sequence_of is) in subst M c.as_slice.ensures (c.read_const.ensures (imported_globals_of c.args.module.now) c.global-item.result.ty.value (ap (const_type (imported_globals_of c.args.module.now)) c.as_slice.ensures ∙ of_item (GlobalValid c.args.module.now) c.args.module.now.globals c.as_slice-global-items.result.now c.loop-global.global-index c.global-item.result c.requires c.as_slice-global-items.ensures c.loop-global-test.true c.global-item.is)))

pub returns : goal.returns
returns c = each_all (λ (g : Global). SequenceInRange (sequence_of g.init)) c.args.module.now.globals c.as_slice-global-items.result.now c.loop-global.global-index c.loop-global.invariant c.as_slice-global-items.ensures c.loop-global-test.false

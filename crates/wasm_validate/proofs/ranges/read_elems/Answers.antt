use Rattle.std.specs.List.{All}
use Rattle.wasm_syntax.specs.Trees.{sequence_of}
use Rattle.wasm_typing.specs.Valid.{IsWord, SequenceInRange, globals_of, ElemValid}
use Rattle.wasm_values.specs.declared.number.ValType.TheVariants.{I32}
use Rattle.wasm_syntax.specs.declared.module.Elem.{Elem}
use Rattle.body_check.proofs.SectionLemmas.{each_more, each_all, of_item}
use Rattle.wasm_validate.proofs.ranges.read_elems.Goals as goal

pub loop-elem-preserved : goal.loop-elem-preserved
loop-elem-preserved c = each_more (λ (e : Elem). IsWord e.table × SequenceInRange (sequence_of e.offset) × All IsWord e.funcs) c.args.module.now.elems c.as_slice-elem-items.result.now c.loop-elem.elem-index c.elem-item.result c.loop-elem.invariant c.as_slice-elem-items.ensures c.loop-elem-test.true c.elem-item.is (c.read_one_elem.ensures (globals_of c.args.module.now) I32 (of_item (ElemValid c.args.module.now) c.args.module.now.elems c.as_slice-elem-items.result.now c.loop-elem.elem-index c.elem-item.result c.requires c.as_slice-elem-items.ensures c.loop-elem-test.true c.elem-item.is).1)

pub returns : goal.returns
returns c = each_all (λ (e : Elem). IsWord e.table × SequenceInRange (sequence_of e.offset) × All IsWord e.funcs) c.args.module.now.elems c.as_slice-elem-items.result.now c.loop-elem.elem-index c.loop-elem.invariant c.as_slice-elem-items.ensures c.loop-elem-test.false

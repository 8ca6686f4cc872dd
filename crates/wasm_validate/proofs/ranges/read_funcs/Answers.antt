use Rattle.wasm_syntax.specs.Trees.{sequence_of}
use Rattle.wasm_typing.specs.Valid.{IsWord, SequenceInRange}
use Rattle.wasm_syntax.specs.declared.module.Func.{Func}
use Rattle.body_check.proofs.SectionLemmas.{each_more, each_all}
use Rattle.wasm_validate.proofs.ranges.read_funcs.Goals as goal

pub loop-func-preserved : goal.loop-func-preserved
loop-func-preserved c = each_more (λ (f : Func). IsWord f.ty × SequenceInRange (sequence_of f.body)) c.args.module.now.funcs c.as_slice-func-items.result.now c.loop-func.func-index c.func-item.result c.loop-func.invariant c.as_slice-func-items.ensures c.loop-func-test.true c.func-item.is c.read_one_func.ensures

pub returns : goal.returns
returns c = each_all (λ (f : Func). IsWord f.ty × SequenceInRange (sequence_of f.body)) c.args.module.now.funcs c.as_slice-func-items.result.now c.loop-func.func-index c.loop-func.invariant c.as_slice-func-items.ensures c.loop-func-test.false

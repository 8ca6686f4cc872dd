use Rattle.std.proofs.Common.{◌-◌, arith}
use Rattle.wasm_values.specs.declared.number.ValType.TheVariants.{I32}
use Rattle.body_check.specs.words.Operands.{Are}
use Rattle.body_check.proofs.OperandLemmas.{missing}
use Rattle.body_check.proofs.operands.Operands.take_all.Goals as goal

pub returns-then-not-take-clause-took : goal.returns-then-not-take-clause-took
returns-then-not-take-clause-took c =
    missing (Are c.args.self.now) (Are c.loop-n.self) (Are c.take.new.self) c.args.types.now (c.loop-n.n - 1) c.loop-n.n I32
    (let h = c.loop-n-test.true in omega (arith, h)) (let h = c.loop-n-test.true in let i = c.loop-n.invariant.0 in omega (arith, h, i))
    c.loop-n.invariant.2 c.if-not-take.ensures.took

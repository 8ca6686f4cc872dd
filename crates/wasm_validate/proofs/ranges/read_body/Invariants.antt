use Rattle.wasm_typing.specs.faults.Open.{parts_before}
use Rattle.wasm_validate.proofs.RangeLemmas.{AreInRange}
use Rattle.wasm_validate.proofs.ranges.read_body.Given as goal

abbrev pub invariant-loop-n : goal.invariant-loop-n
invariant-loop-n l = AreInRange (parts_before l.body l.n)

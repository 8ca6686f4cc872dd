use Rattle.std.proofs.Common.{◌≤◌, ◌^◌, arith}
use Rattle.std.proofs.Math.Pow.{pow_mono}
use Rattle.wasm_values.proofs.SignedLemmas.{sign_extended-high}
use Rattle.wasm_values.proofs.extension.sext.Goals as goal

pub overflow_sub-result : goal.overflow_sub-result
overflow_sub-result c =
    let longer : 2 ^ c.args.from ≤ 2 ^ c.args.to = pow_mono c.requires.longer in
    omega arith

pub returns-else-value-from-eq0 : goal.returns-else-value-from-eq0
returns-else-value-from-eq0 c =
    sign_extended-high c.args.from c.args.to c.args.value _ c.requires.some c.requires.longer c.requires.fits c.if-value-from-eq0.false (omega arith)

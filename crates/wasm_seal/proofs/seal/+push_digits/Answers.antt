use Rattle.wasm_seal.proofs.DigitLaws.{on_ok, pushed_digits}
use Rattle.wasm_seal.proofs.seal.+push_digits.Goals as goal

pub returns : goal.returns
returns t c = on_ok c.push_digits.result (pushed_digits c.args.out.now.items _ c.push_digits.new.out.items c.args.more c.args.value c.if-more-eq0.false c.if-value-lt128.false c.in_ok-push-2.ensures.items) c.push_digits.ensures

use Rattle.std.proofs.Common.{◌≡◌, ◌-◌, ◌+◌, suc, ◌++◌, ◌≤◌, length, arith, ap}
use Rattle.std.proofs.lemmas.Result.{err_from_is_err_and}
use Rattle.std.proofs.lemmas.List.{length-append}
use Rattle.binary_grammar.specs.Bounds.{copies}
use Rattle.binary_grammar.specs.words.CodeReading.{runs_at}
use Rattle.wasm_binary.proofs.CodeLoop.{goes_on_runs, fails_runs, runs_done, length-copies}
use Rattle.wasm_binary.proofs.code.read_runs.Goals as goal

pub returns-in_err-number-clause-gives : goal.returns-in_err-number-clause-gives
returns-in_err-number-clause-gives c =
    let p = err_from_is_err_and c.from_residual.result c.from_residual.ensures.1 in
    let k : c.args.count - c.loop.counter ≡ suc (c.args.count - (c.loop.counter + 1)) = omega arith in
    rw (p.1, p.2) (fails_runs c.in_err-number.field-0.0 1000 (c.args.count - c.loop.counter) (c.args.count - (c.loop.counter + 1)) c.args.end c.loop.locals c.loop.rest.now (runs_at 1000 0 c.args.count c.args.end c.args.bytes.now) k
    (rw (← c.len.ensures) c.in_err-number.ensures.gives) c.loop.invariant.0)

pub loop-preserved : goal.loop-preserved
loop-preserved c =
    let k : c.args.count - c.loop.counter ≡ suc (c.args.count - (c.loop.counter + 1)) = omega arith in
    let e : c.push_copies.new.locals ≡ c.loop.locals ++ copies c.in_ok-number.number c.in_ok-number.ty = c.in_ok-push_copies.ensures in
    let few : length c.push_copies.new.locals ≤ 1000 = omega (arith, ap length e, length-append c.loop.locals (copies c.in_ok-number.number c.in_ok-number.ty), length-copies c.in_ok-number.number c.in_ok-number.ty, c.in_ok-number.ensures.few, c.len.ensures) in (
      rw e (goes_on_runs 1000 (c.args.count - c.loop.counter) (c.args.count - (c.loop.counter + 1)) c.args.end c.loop.locals c.loop.rest.now c.in_ok-number.number c.in_ok-number.ty c.in_ok-number.after.now (runs_at 1000 0 c.args.count c.args.end c.args.bytes.now) k
          (rw (← c.len.ensures) c.in_ok-number.ensures.gives) c.loop.invariant.0),
      few,
      omega (arith, c.in_ok-number.ensures.shorter),
    )

pub returns-clause-gives : goal.returns-clause-gives
returns-clause-gives c =
    runs_done 1000 (c.args.count - c.loop.counter) c.args.end c.loop.locals c.loop.rest.now (runs_at 1000 0 c.args.count c.args.end c.args.bytes.now) (omega arith) c.loop.invariant.0

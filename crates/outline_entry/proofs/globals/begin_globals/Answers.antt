use Rattle.std.proofs.Common.{◌<◌, length, List, ap, arith}
use Rattle.std.proofs.lemmas.Result.{err_from_is_err_and}
use Rattle.wasm_syntax.specs.declared.module.GlobalType.{GlobalType}
use Rattle.wasm_typing.specs.Valid.{globals_of}
use Rattle.symbolic_state.specs.Refused.{refusal_of}
use Rattle.outline_entry.proofs.Begun.{globals-next, globals-stop}
use Rattle.outline_entry.proofs.globals.begin_globals.Goals as goal

pub returns-in_err-begin_numbered : goal.returns-in_err-begin_numbered
returns-in_err-begin_numbered c =
    let p = err_from_is_err_and c.from_residual.result c.from_residual.ensures.1 in
    let many = ap (λ (xs : List GlobalType). length xs) c.globals-count.ensures in
    let low : c.loop-k.k < length (globals_of c.args.setting.now.code) = omega arith in
    rw (p.1, p.2)
    (globals-stop c.args.setting.now c.args.at_entry _ c.loop-k.k (globals_of c.args.setting.now.code) c.loop-k.state.state c.loop-k.invariant low (refusal_of c.in_err-begin_numbered.field-0.0) c.in_err-begin_numbered.ensures)

pub loop-k-preserved : goal.loop-k-preserved
loop-k-preserved c =
    let many = ap (λ (xs : List GlobalType). length xs) c.globals-count.ensures in
    let low : c.loop-k.k < length (globals_of c.args.setting.now.code) = omega arith in
    globals-next c.args.setting.now c.args.at_entry _ c.loop-k.k (globals_of c.args.setting.now.code) c.loop-k.state.state c.loop-k.invariant low c.begin_numbered.new.state.state c.in_ok-begin_numbered.ensures

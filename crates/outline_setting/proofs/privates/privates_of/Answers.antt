use Rattle.std.proofs.Common.{◌≡◌, ◌∙◌, sym, ap, length, List, arith}
use Rattle.wasm_typing.specs.Valid.{globals_of}
use Rattle.wasm_syntax.specs.declared.module.GlobalType.{GlobalType}
use Rattle.escape_analysis.specs.declared.stability.Stability.{Stability}
use Rattle.outline_setting.proofs.Walks.{length-stabilities, private_next}
use Rattle.outline_setting.proofs.privates.privates_of.Goals as goal

pub bounds-stabilities-number : goal.bounds-stabilities-number
bounds-stabilities-number c =
    let many : length c.args.stabilities.now ≡ length c.args.globals.now =
    ap (λ (xs : List Stability). length xs) c.requires.stabilities ∙ length-stabilities c.args.module.now 0 (globals_of c.args.module.now) ∙ sym (ap (λ (xs : List GlobalType). length xs) c.requires.globals)
    in omega arith

pub loop-number-preserved : goal.loop-number-preserved
loop-number-preserved c = λ notes.
    private_next c.args.module.now notes c.args.globals.now c.args.stabilities.now c.loop-number.number _ _ _ c.loop-number.privates c.push_private.new.privates
    c.requires.globals c.requires.stabilities c.loop-number-test.true c.in_ok-push_private.ensures (c.loop-number.invariant notes)

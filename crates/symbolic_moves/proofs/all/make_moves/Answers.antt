use Rattle.std.proofs.lemmas.Result.{err_from_is_err_and}
use Rattle.notes.specs.WellFormed.{well_formed_move}
use Rattle.symbolic_state.specs.Refused.{refusal_of}
use Rattle.symbolic_moves.proofs.StepWalks.{all-at}
use Rattle.symbolic_moves.proofs.Moving.{moving-next, moving-stop}
use Rattle.symbolic_moves.proofs.all.make_moves.Goals as goal

pub make_move-requires-clause-well_formed : goal.make_move-requires-clause-well_formed
make_move-requires-clause-well_formed c =
    all-at well_formed_move c.args.moves.now c.loop-m.m-index c.m-item.result c.loop-m-test.true c.m-item.is c.requires.moves

pub returns-in_err-make_move-clause-done : goal.returns-in_err-make_move-clause-done
returns-in_err-make_move-clause-done c =
    let p = err_from_is_err_and c.from_residual.result c.from_residual.ensures.1 in
    rw (p.1, p.2)
    (moving-stop c.args.setting.now c.args.moves.now c.args.state.now c.loop-m.m-index c.loop-m.state c.loop-m.invariant c.m-item.result c.loop-m-test.true c.m-item.is (refusal_of c.in_err-make_move.field-0.0) c.in_err-make_move.ensures.done)

pub loop-m-preserved : goal.loop-m-preserved
loop-m-preserved c =
    moving-next c.args.setting.now c.args.moves.now c.args.state.now c.loop-m.m-index c.loop-m.state c.loop-m.invariant c.m-item.result c.loop-m-test.true c.m-item.is
    c.make_move.new.state c.in_ok-make_move.ensures.done c.in_ok-make_move.ensures.kept

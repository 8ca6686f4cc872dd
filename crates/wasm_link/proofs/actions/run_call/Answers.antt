use Rattle.std.proofs.Common.{refl}
use Rattle.wasm_link.specs.Lines.{Calling}
use Rattle.wasm_link.proofs.Endings.{call_over, stops_turn, limits_turn, seen_turn}
use Rattle.wasm_link.proofs.actions.run_call.Goals as goal

pub returns-in-Ok-Over : goal.returns-in-Ok-Over
returns-in-Ok-Over g c = λ ms rest instance export head.
    let h = c.in-Ok-Over.ensures in
    call_over g.O.Observer.eyes ms _ _ rest c.args.run.now c.run_on.new.run c.run_on.new.observer c.in-Ok-Over.field-0 h.ready h.kept h.ends
    instance export c.end_call.new.run c.end_call.result c.args.head.now head c.in-Ok-Over.field-0-is (h.reaches ms (Calling instance export) rest) (c.end_call.ensures.said instance export) c.end_call.ensures.next

pub returns-in-Ok-Stopped : goal.returns-in-Ok-Stopped
returns-in-Ok-Stopped g c = λ ms rest instance export head.
    let h = c.in-Ok-Stopped.ensures in
    let doing = Calling instance export in
    stops_turn g.O.Observer.eyes ms _ _ rest c.args.run.now c.run_on.new.run c.run_on.new.observer c.in-Ok-Stopped.field-0 h.ready h.kept h.ends
    doing _ c.end.new.run c.end.result c.args.head.now head c.in-Ok-Stopped.field-0-is (h.reaches ms doing rest) c.end.ensures.said c.end.ensures.ended

pub returns-in-Ok-Limit : goal.returns-in-Ok-Limit
returns-in-Ok-Limit g c = λ ms rest instance export head.
    let h = c.in-Ok-Limit.ensures in
    let doing = Calling instance export in
    limits_turn g.O.Observer.eyes ms _ _ rest c.args.run.now c.run_on.new.run c.run_on.new.observer c.in-Ok-Limit.field-0 h.ready h.kept h.ends
    doing _ c.end-in-Ok-Limit.new.run c.end-in-Ok-Limit.result c.args.head.now head c.in-Ok-Limit.field-0-is (h.reaches ms doing rest) c.end-in-Ok-Limit.ensures.said c.end-in-Ok-Limit.ensures.ended

pub returns-in-Ok-Seen : goal.returns-in-Ok-Seen
returns-in-Ok-Seen g c = λ ms rest instance export head.
    let h = c.in-Ok-Seen.ensures in
    let doing = Calling instance export in (
      doing,
      seen_turn g.O.Observer.eyes ms _ _ rest c.args.run.now c.run_on.new.run c.run_on.new.observer c.in-Ok-Seen.field-0 h.ready h.kept h.ends
          doing c.in-Ok-Seen.n c.in-Ok-Seen.field-0-is (h.reaches ms doing rest),
    )

pub returns-in-Err : goal.returns-in-Err
returns-in-Err g c = λ ms rest instance export head.
    record { stage = _; watch = _; reaches = c.in-Err.ensures.reaches ms (Calling instance export) rest; notes_are = refl }

use Rattle.std.proofs.Common.{refl}
use Rattle.wasm_link.specs.Lines.{Making}
use Rattle.wasm_link.proofs.Endings.{start_over, stops_turn, limits_turn, seen_turn}
use Rattle.wasm_link.proofs.actions.run_start.Goals as goal

pub returns-in-Ok-Over : goal.returns-in-Ok-Over
returns-in-Ok-Over g c = λ ms rest.
    let h = c.in-Ok-Over.ensures in
    start_over g.O.Observer.eyes ms _ _ rest c.args.run.now c.run_on.new.run c.run_on.new.observer c.in-Ok-Over.field-0 h.ready h.kept h.ends
    c.args.instance.now c.args.number c.end_start.new.run c.end_start.result c.in-Ok-Over.field-0-is (h.reaches ms (Making c.args.instance.now c.args.number) rest) c.requires.there c.end_start.ensures.said c.end_start.ensures.next

pub returns-in-Ok-Stopped : goal.returns-in-Ok-Stopped
returns-in-Ok-Stopped g c = λ ms rest.
    let h = c.in-Ok-Stopped.ensures in
    let doing = Making c.args.instance.now c.args.number in
    stops_turn g.O.Observer.eyes ms _ _ rest c.args.run.now c.run_on.new.run c.run_on.new.observer c.in-Ok-Stopped.field-0 h.ready h.kept h.ends
    doing _ c.end.new.run c.end.result c.as_bytes.result.now c.as_bytes.ensures.value c.in-Ok-Stopped.field-0-is (h.reaches ms doing rest) c.end.ensures.said c.end.ensures.ended

pub returns-in-Ok-Limit : goal.returns-in-Ok-Limit
returns-in-Ok-Limit g c = λ ms rest.
    let h = c.in-Ok-Limit.ensures in
    let doing = Making c.args.instance.now c.args.number in
    limits_turn g.O.Observer.eyes ms _ _ rest c.args.run.now c.run_on.new.run c.run_on.new.observer c.in-Ok-Limit.field-0 h.ready h.kept h.ends
    doing _ c.end-in-Ok-Limit.new.run c.end-in-Ok-Limit.result c.as_bytes-in-Ok-Limit.result.now c.as_bytes-in-Ok-Limit.ensures.value c.in-Ok-Limit.field-0-is (h.reaches ms doing rest) c.end-in-Ok-Limit.ensures.said c.end-in-Ok-Limit.ensures.ended

pub returns-in-Ok-Seen : goal.returns-in-Ok-Seen
returns-in-Ok-Seen g c = λ ms rest.
    let h = c.in-Ok-Seen.ensures in
    let doing = Making c.args.instance.now c.args.number in (
      doing,
      seen_turn g.O.Observer.eyes ms _ _ rest c.args.run.now c.run_on.new.run c.run_on.new.observer c.in-Ok-Seen.field-0 h.ready h.kept h.ends
          doing c.in-Ok-Seen.n c.in-Ok-Seen.field-0-is (h.reaches ms doing rest),
    )

pub returns-in-Err : goal.returns-in-Err
returns-in-Err g c = λ ms rest.
    record { stage = _; watch = _; reaches = c.in-Err.ensures.reaches ms (Making c.args.instance.now c.args.number) rest; notes_are = refl }

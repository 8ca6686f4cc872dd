use Rattle.symbolic_state.proofs.LeftOver.{left-within, left-widths, left-length, left-nodes, left-again}
use Rattle.symbolic_state.proofs.tracked.TrackedState.keep_chunks.Goals as goal

pub put_chunks-requires-clause-within : goal.put_chunks-requires-clause-within
put_chunks-requires-clause-within c =
    left-within c.args.used.now c.args.self.now c.take_chunks-all.new.self c.take_chunks-all.result c.in_ok-left.left c.take_chunks-all.ensures.state c.take_chunks-all.ensures.chunks c.in_ok-left.ensures
    c.take_chunks-all.ensures.within

pub put_chunks-requires-clause-widths : goal.put_chunks-requires-clause-widths
put_chunks-requires-clause-widths c =
    left-widths c.args.used.now c.args.self.now c.take_chunks-all.new.self c.take_chunks-all.result c.in_ok-left.left c.take_chunks-all.ensures.state c.take_chunks-all.ensures.chunks c.in_ok-left.ensures
    c.take_chunks-all.ensures.widths

pub put_chunks-requires-clause-count : goal.put_chunks-requires-clause-count
put_chunks-requires-clause-count c =
    left-length c.args.used.now c.args.self.now c.take_chunks-all.new.self c.take_chunks-all.result c.in_ok-left.left c.take_chunks-all.ensures.state c.take_chunks-all.ensures.chunks c.in_ok-left.ensures
    c.take_chunks-all.ensures.limits

pub put_chunks-requires-clause-room : goal.put_chunks-requires-clause-room
put_chunks-requires-clause-room c =
    left-nodes c.args.used.now c.args.self.now c.take_chunks-all.new.self c.take_chunks-all.result c.in_ok-left.left c.take_chunks-all.ensures.state c.take_chunks-all.ensures.chunks c.in_ok-left.ensures
    c.take_chunks-all.ensures.limits

pub returns-clause-state : goal.returns-clause-state
returns-clause-state c =
    left-again c.args.used.now c.args.self.now c.take_chunks-all.new.self c.take_chunks-all.result c.in_ok-left.left c.take_chunks-all.ensures.state c.take_chunks-all.ensures.chunks c.in_ok-left.ensures
    c.put_chunks.new.self c.put_chunks.ensures

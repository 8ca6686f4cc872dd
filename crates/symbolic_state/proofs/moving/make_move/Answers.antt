use Rattle.symbolic_state.specs.States.{state_of}
use Rattle.symbolic_state.proofs.HeapMoved.{moved-limits}
use Rattle.symbolic_state.proofs.moving.make_move.Goals as goal

pub returns-in-Ok-clause-limits : goal.returns-in-Ok-clause-limits
returns-in-Ok-clause-limits c = moved-limits c.args.m.now (state_of c.args.table.now c.args.state.now) (state_of c.move_heap.new.table c.move_heap.new.state) c.in-Ok.ensures.moved

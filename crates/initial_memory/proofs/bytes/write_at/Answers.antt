use Rattle.std.proofs.Common.{arith}
use Rattle.initial_memory.proofs.Writes.{behind, passed, ahead, not_reached}
use Rattle.initial_memory.proofs.bytes.write_at.Goals as goal

pub returns-then-skip-bytes : goal.returns-then-skip-bytes
returns-then-skip-bytes c = behind c.args.offset c.args.at c.args.bytes.now c.args.window.now c.overlay.new.window c.if-offset-at.true c.overlay.ensures

pub returns-else-skip-bytes : goal.returns-else-skip-bytes
returns-else-skip-bytes c = passed c.args.offset c.args.at c.args.bytes.now c.args.window.now c.if-offset-at.true c.if-skip-bytes.false

pub returns-then-gap-window : goal.returns-then-gap-window
returns-then-gap-window c =
    ahead c.args.offset c.args.at c.args.bytes.now c.args.window.now c.overlay-then-gap-window.new.window (omega arith) c.overlay-then-gap-window.ensures

pub returns-else-gap-window : goal.returns-else-gap-window
returns-else-gap-window c = not_reached c.args.offset c.args.at c.args.bytes.now c.args.window.now (omega arith) c.if-gap-window.false

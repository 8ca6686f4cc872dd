use Rattle.block_changes.specs.Seen.{changes_seen}
use Rattle.renewed_locals.proofs.Types.{Locals}
use Rattle.renewed_locals.proofs.locals.renew_locals.Given as goal

abbrev pub invariant-loop-k : goal.invariant-loop-k
invariant-loop-k l = Locals l.fn.state l.state (changes_seen l.changes).locals l.k

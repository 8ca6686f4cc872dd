use Rattle.block_changes.specs.words.Gathered.{Gathers}
use Rattle.block_changes.proofs.changes.ChangeSet.see_all.Given as goal

abbrev pub invariant-loop-p : goal.invariant-loop-p
invariant-loop-p l = Gathers l.initial.self l.self l.code l.from l.p

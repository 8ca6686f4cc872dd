use Rattle.std.proofs.Common.{◌≡◌, true}
use Rattle.initial_memory.specs.words.Windows.{true_in}
use Rattle.initial_memory.proofs.rows.are_true.Given as goal

abbrev pub invariant-loop-index : goal.invariant-loop-index
invariant-loop-index l = true_in l.window l.index l.width l.each ≡ true

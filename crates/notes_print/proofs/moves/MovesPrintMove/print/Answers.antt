use Rattle.std.proofs.Common.{rules}
use Rattle.notes_grammar.specs.Shapes.{move}
use Rattle.notes_print.proofs.moves.MovesPrintMove.print.Goals as goal

pub returns-in-Have : goal.returns-in-Have
unfolding move
returns-in-Have c = search rules

pub returns-in-Name : goal.returns-in-Name
unfolding move
returns-in-Name c = search rules

pub returns-in-Let : goal.returns-in-Let
unfolding move
returns-in-Let c = search rules

pub returns-in-Put : goal.returns-in-Put
unfolding move
returns-in-Put c = search rules

pub returns-in-Heap : goal.returns-in-Heap
unfolding move
returns-in-Heap c = search rules

pub returns-in-Each : goal.returns-in-Each
unfolding move
returns-in-Each c = search rules

pub returns-in-Lemma : goal.returns-in-Lemma
unfolding move
returns-in-Lemma c = search rules

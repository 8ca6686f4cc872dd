use Rattle.std.proofs.Common.{◌≡◌, true, [], length}
use Rattle.notes_grammar.specs.Parts.{parts_of}
use Rattle.notes_grammar.specs.Shapes.{names_of}
use Rattle.notes_grammar.specs.Reading.{lemmas_first}
use Rattle.annot_text.specs.words.Lemmas.{behind_lemmas}
use Rattle.annot_text.proofs.lemmas.read_lemmas.Given as goal

abbrev pub invariant-loop-rest : goal.invariant-loop-rest
invariant-loop-rest l = record {
  later : l.context.later ≡ true;
  names : l.context.names ≡ names_of l.lemmas;
  rest : behind_lemmas l.lemmas (lemmas_first l.context.names (parts_of l.rest)) ≡ lemmas_first [] (parts_of l.parts);
}

abbrev pub decreases-loop-rest : goal.decreases-loop-rest
decreases-loop-rest l = length l.rest

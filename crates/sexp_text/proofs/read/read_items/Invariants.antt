use Rattle.std.proofs.Common.{◌≡◌, drop}
use Rattle.sexp_text.specs.Reading.{read, read_from}
use Rattle.sexp_text.specs.words.Fronts.{front_of, Stands}
use Rattle.sexp_text.proofs.read.read_items.Given as goal

abbrev pub invariant-loop-at : goal.invariant-loop-at
invariant-loop-at l = record {
  same : read_from l.at (drop l.at l.text) (front_of l.progress) l.mode ≡ read l.text;
  stands : Stands l.at l.mode;
}

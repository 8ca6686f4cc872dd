use Rattle.std.proofs.Common.{◌∷◌, map}
use Rattle.std.proofs.lemmas.Result.{on_ok_weaker}
use Rattle.notes_grammar.specs.Shapes.{small, lemma, rest_of}
use Rattle.notes_print.specs.Plain.{plain}
use Rattle.notes_print.proofs.ListLemmas.{more_then}
use Rattle.notes_print.proofs.outline.more_parts.Goals as goal

pub returns : goal.returns
returns c =
    on_ok_weaker c.more_rest.result (more_then c.args.out.now c.more_lemmas.new.out c.more_rest.new.out (small 2 ∷ map lemma c.args.notes.now.lemmas) (rest_of plain c.args.notes.now) c.in_ok-more_lemmas.ensures) c.more_rest.ensures

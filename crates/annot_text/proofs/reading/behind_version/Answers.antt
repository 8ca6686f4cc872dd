use Rattle.notes_grammar.specs.Parts.{parts_of}
use Rattle.annot_text.proofs.Same.{rest_given}
use Rattle.annot_text.proofs.reading.behind_version.Goals as goal

pub returns : goal.returns
returns c =
    rest_given c.args.context.now.later c.args.close (parts_of c.args.parts.now) (parts_of c.in_ok-lemmas.rest.now) c.in_ok-lemmas.lemmas c.lemmas_of.new.context c.with_lemmas.result
    c.in_ok-lemmas.ensures.given c.in_ok-lemmas.ensures.context (c.with_lemmas.ensures _ c.read_rest.ensures)

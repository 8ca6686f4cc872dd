use Rattle.std.proofs.Common.{◌∷◌, map}
use Rattle.std.proofs.lemmas.Result.{on_ok_weaker}
use Rattle.notes_grammar.specs.Shapes.{small, move, use_of}
use Rattle.notes_print.specs.Plain.{plain}
use Rattle.notes_print.proofs.ListLemmas.{more_then}
use Rattle.notes_print.proofs.outline.more_note.Goals as goal

pub returns : goal.returns
returns c =
    rw (← c.as_slice.ensures)
    (on_ok_weaker c.more_use.result (more_then c.args.out.now c.more_one_items.new.out c.more_use.new.out (small c.args.note.now.at ∷ map (move plain) c.as_slice.result.now) (use_of plain c.args.note.now.used) c.in_ok-more_one_items.ensures) c.more_use.ensures)

use Rattle.std.proofs.Common.{◌∷◌, ◌++◌, map, codes}
use Rattle.std.proofs.lemmas.Result.{on_ok_weaker}
use Rattle.notes_grammar.specs.Shapes.{small, lemma, rest_of}
use Rattle.notes_print.specs.Plain.{plain}
use Rattle.notes_print.proofs.ListLemmas.{closed}
use Rattle.notes_print.proofs.SettingLemmas.{plain_text}
use Rattle.notes_print.proofs.outline.push_notes.Goals as goal

pub returns : goal.returns
returns c =
    rw (← plain_text c.args.notes.now)
    (on_ok_weaker c.close.result (closed c.args.out.now c.open.new.out c.more_parts.new.out c.close.new.out (codes "notes") (small 2 ∷ (map lemma c.args.notes.now.lemmas ++ rest_of plain c.args.notes.now)) c.in_ok-open.ensures c.in_ok-more_parts.ensures) c.close.ensures)

use Rattle.std.proofs.Common.{length, refl, ap, ◌∙◌, []}
use Rattle.std.proofs.lemmas.Option.{slice_get_read}
use Rattle.std.specs.Option.{option_map_or}
use Rattle.outline_check.proofs.WalkLemmas.{cursor-found, cursor-other, cursor-end}
use Rattle.outline_check.proofs.check.notes_here.Goals as goal
use Rattle.outline_check.proofs.check.notes_here.Goals.{then-cursor-notes+else-func-f, else-cursor-notes}

pub returns-then-func-f : goal.returns-then-func-f
returns-then-func-f c =
    let found = cursor-found (λ func. func.func) c.args.notes.now c.args.cursor c.args.f c.index-notes-cursor.result c.requires
    (slice_get_read c.args.notes.now (length c.args.notes.now) c.args.cursor c.index-notes-cursor.result refl c.if-cursor-notes.true c.index-notes-cursor.is)
    c.if-func-f.true in
    record { notes = c.as_slice.ensures ∙ ap (λ o. option_map_or (λ func. func.notes) o []) found.0; cursor = found.1 }

pub returns : goal.returns
returns c =
    elim c.if-cursor-notes.branch [
      | then-cursor-notes+else-func-f w ↦
          let found = cursor-other (λ func. func.func) c.args.notes.now c.args.cursor c.args.f w.index-notes-cursor.result c.requires
          (slice_get_read c.args.notes.now (length c.args.notes.now) c.args.cursor w.index-notes-cursor.result refl w.if-cursor-notes.true w.index-notes-cursor.is)
          w.if-func-f.false in
          record { notes = ap (λ o. option_map_or (λ func. func.notes) o []) found.0; cursor = found.1 }
      | else-cursor-notes w ↦
          let found = cursor-end (λ func. func.func) c.args.notes.now c.args.cursor c.args.f c.requires w.if-cursor-notes.false in
          record { notes = ap (λ o. option_map_or (λ func. func.notes) o []) found.0; cursor = found.1 }
    ]

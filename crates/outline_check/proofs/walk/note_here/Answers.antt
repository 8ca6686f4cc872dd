use Rattle.std.proofs.Common.{length, refl}
use Rattle.std.proofs.lemmas.Option.{slice_get_read}
use Rattle.outline_check.proofs.WalkLemmas.{cursor-found, cursor-other, cursor-end}
use Rattle.outline_check.proofs.walk.note_here.Goals as goal
use Rattle.outline_check.proofs.walk.note_here.Goals.{then-cursor-notes+else-note-i, else-cursor-notes}

pub returns-then-note-i : goal.returns-then-note-i
returns-then-note-i c =
    let found = cursor-found (λ note. note.at) c.args.notes.now c.args.cursor c.args.i c.index-notes-cursor.result c.requires
    (slice_get_read c.args.notes.now (length c.args.notes.now) c.args.cursor c.index-notes-cursor.result refl c.if-cursor-notes.true c.index-notes-cursor.is)
    c.if-note-i.true in
    record { note = found.0; cursor = found.1 }

pub returns : goal.returns
returns c =
    elim c.if-cursor-notes.branch [
      | then-cursor-notes+else-note-i w ↦
          let found = cursor-other (λ note. note.at) c.args.notes.now c.args.cursor c.args.i w.index-notes-cursor.result c.requires
          (slice_get_read c.args.notes.now (length c.args.notes.now) c.args.cursor w.index-notes-cursor.result refl w.if-cursor-notes.true w.index-notes-cursor.is)
          w.if-note-i.false in
          record { note = found.0; cursor = found.1 }
      | else-cursor-notes w ↦
          let found = cursor-end (λ note. note.at) c.args.notes.now c.args.cursor c.args.i c.requires w.if-cursor-notes.false in
          record { note = found.0; cursor = found.1 }
    ]

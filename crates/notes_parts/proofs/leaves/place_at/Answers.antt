use Rattle.notes_parts.specs.Seen.{headed_seen}
use Rattle.notes_parts.proofs.HeadLemmas.{other_place}
use Rattle.notes_parts.proofs.leaves.place_at.Goals as goal

pub returns-in_default : goal.returns-in_default
returns-in_default c =
    rw c.form.ensures (other_place c.args.later (headed_seen c.args.headed.now) c.args.headed.now.head
    c.in_default.not-Local c.in_default.not-Stack c.in_default.not-Global c.in_default.not-Arg c.in_default.not-Pages c.in_default.not-Result c.in_default.not-Index c.in_default.not-Item)

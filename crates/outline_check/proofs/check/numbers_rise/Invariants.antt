use Rattle.std.proofs.Common.{◌≡◌, map, drop}
use Rattle.outline_check.specs.Outlines.{rise_within}
use Rattle.outline_check.proofs.check.numbers_rise.Given as goal

abbrev pub invariant-loop-note : goal.invariant-loop-note
invariant-loop-note l =
    rise_within l.low l.high (map (λ note. note.at) (drop l.note-index l.notes))
    ≡ rise_within 0 l.fn.high (map (λ note. note.at) l.fn.notes)

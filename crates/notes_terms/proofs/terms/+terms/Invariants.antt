use Rattle.std.proofs.Common.{◌+◌}
use Rattle.notes_grammar.specs.Parts.{part_of, parts_of}
use Rattle.notes_terms.specs.words.Forms.{opening_seen, opening_size}
use Rattle.notes_terms.specs.words.Sizes.{size, sizes}
use Rattle.notes_terms.proofs.terms.+terms.Given as goal

abbrev pub decreases-bare_term : goal.decreases-bare_term
decreases-bare_term l = size (part_of l.part.now)

abbrev pub decreases-listed_term : goal.decreases-listed_term
decreases-listed_term l = sizes (parts_of l.parts.now) + 2

abbrev pub decreases-begun_term : goal.decreases-begun_term
decreases-begun_term l = opening_size (opening_seen l.beginning.now) + 1

abbrev pub decreases-one_term : goal.decreases-one_term
decreases-one_term l = sizes (parts_of l.parts.now)

abbrev pub decreases-two_terms : goal.decreases-two_terms
decreases-two_terms l = sizes (parts_of l.parts.now)

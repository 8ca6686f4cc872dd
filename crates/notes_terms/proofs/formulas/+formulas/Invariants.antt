use Rattle.std.proofs.Common.{◌+◌}
use Rattle.notes_grammar.specs.Parts.{part_of, parts_of}
use Rattle.notes_terms.specs.words.Sizes.{size, sizes}
use Rattle.notes_terms.proofs.formulas.+formulas.Given as goal

abbrev pub decreases-bare_formula : goal.decreases-bare_formula
decreases-bare_formula l = size (part_of l.part.now) + 1

abbrev pub decreases-listed_formula : goal.decreases-listed_formula
decreases-listed_formula l = size (part_of l.part.now)

abbrev pub decreases-formed : goal.decreases-formed
decreases-formed l = sizes (parts_of l.headed.now.rest.now) + 2

abbrev pub decreases-one_formula : goal.decreases-one_formula
decreases-one_formula l = sizes (parts_of l.parts.now) + 1

abbrev pub decreases-two_formulas : goal.decreases-two_formulas
decreases-two_formulas l = sizes (parts_of l.parts.now) + 1

use Rattle.std.proofs.Common.{arith}
use Rattle.notes_grammar.specs.Parts.{part_of, parts_of}
use Rattle.notes_parts.specs.Seen.{headed_seen}
use Rattle.notes_terms.proofs.Claims.{listed_part, headed_size, one_first, two_first}
use Rattle.notes_terms.proofs.formulas.+formulas.Goals as goal

pub bare_formula-returns-in-List : goal.bare_formula-returns-in-List
bare_formula-returns-in-List t c = rw (listed_part c.args.later (part_of c.args.part.now) _ _ _ c.in-List.ensures) c.listed_formula.ensures

pub listed_formula-formed-requires : goal.listed_formula-formed-requires
listed_formula-formed-requires t c = (omega (arith, c.decreases, headed_size (part_of c.args.part.now) (headed_seen c.in_ok-headed.headed) c.in_ok-headed.ensures), tt)

pub one_formula-returns : goal.one_formula-returns
one_formula-returns t c =
    rw (one_first c.args.later c.args.close (parts_of c.args.parts.now) (parts_of c.in_ok-first.rest.now) (part_of c.in_ok-first.first.now) c.in_ok-formula.formula c.in_ok-first.ensures c.in_ok-formula.ensures, ← c.place.ensures) c.last.ensures

pub two_formulas-returns : goal.two_formulas-returns
two_formulas-returns t c =
    rw (two_first c.args.later c.args.close (parts_of c.args.parts.now) (parts_of c.in_ok-first.rest.now) (part_of c.in_ok-first.first.now) c.in_ok-formula.formula c.in_ok-first.ensures c.in_ok-formula.ensures, ← c.place.ensures) (c.both.ensures _ c.one_formula.ensures)

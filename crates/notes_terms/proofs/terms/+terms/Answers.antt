use Rattle.std.proofs.Common.{arith, rules}
use Rattle.notes_grammar.specs.Parts.{part_of, parts_of}
use Rattle.notes_terms.specs.words.Forms.{opening_seen}
use Rattle.notes_terms.proofs.Beginnings.{listed_part, list_opened, opening_smaller, one_first, two_first}
use Rattle.notes_terms.proofs.terms.+terms.Goals as goal

pub bare_term-returns-in-List : goal.bare_term-returns-in-List
bare_term-returns-in-List t c = rw (listed_part c.args.later (part_of c.args.part.now) _ (parts_of c.in-List.parts.now) c.in-List.close c.in-List.ensures) c.listed_term.ensures

pub listed_term-returns-in_err-beginning : goal.listed_term-returns-in_err-beginning
listed_term-returns-in_err-beginning t c = rw (list_opened c.args.later c.args.close (parts_of c.args.parts.now)) (search rules)

pub listed_term-begun_term-requires : goal.listed_term-begun_term-requires
listed_term-begun_term-requires t c = (omega (arith, c.decreases, opening_smaller c.args.later c.args.close (parts_of c.args.parts.now) (opening_seen c.in_ok-beginning.beginning) c.in_ok-beginning.ensures), tt)

pub listed_term-returns : goal.listed_term-returns
listed_term-returns t c =
    rw (list_opened c.args.later c.args.close (parts_of c.args.parts.now), c.in_ok-beginning.ensures) c.begun_term.ensures

pub one_term-returns : goal.one_term-returns
one_term-returns t c =
    rw (one_first c.args.later c.args.close (parts_of c.args.parts.now) (parts_of c.in_ok-first.rest.now) (part_of c.in_ok-first.first.now) c.in_ok-term.term c.in_ok-first.ensures c.in_ok-term.ensures, ← c.place.ensures) c.last.ensures

pub two_terms-returns : goal.two_terms-returns
two_terms-returns t c =
    rw (two_first c.args.later c.args.close (parts_of c.args.parts.now) (parts_of c.in_ok-first.rest.now) (part_of c.in_ok-first.first.now) c.in_ok-term.term c.in_ok-first.ensures c.in_ok-term.ensures, ← c.place.ensures) (c.both.ensures _ c.one_term.ensures)

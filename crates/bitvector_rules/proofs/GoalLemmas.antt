-- What the forms of formula that goals are made of stand for.
use Rattle.term_logic.proofs.Formulas.{formula_of-false, formula_of-not}

pub ruleset shown = (formula_of-false, formula_of-not)

use Rattle.notes_grammar.proofs.ConstructLaws.{chunk_exact, assertion_exact, with_exact}
use Rattle.notes_grammar.proofs.MoveLaws.{move_exact, take_exact}
use Rattle.notes_grammar.proofs.TermLaws.{term_exact, formula_exact}
use Rattle.notes_grammar.proofs.OutlineLaws.{function_exact, initial_exact}
use Rattle.notes_grammar.proofs.UseLaws.{note_exact}
use Rattle.notes_grammar.proofs.laws.read_exactly.Goals as goal

pub returns-clause-terms : goal.returns-clause-terms
returns-clause-terms c s = record { sound = (term_exact s).sound; whole = (term_exact s).whole }

pub returns-clause-formulas : goal.returns-clause-formulas
returns-clause-formulas c s = record { sound = (formula_exact s).sound; whole = (formula_exact s).whole }

pub returns-clause-chunks : goal.returns-clause-chunks
returns-clause-chunks c s = record { sound = (chunk_exact s).sound; whole = (chunk_exact s).whole }

pub returns-clause-assertions : goal.returns-clause-assertions
returns-clause-assertions c s = record { sound = (assertion_exact s).sound; whole = (assertion_exact s).whole }

pub returns-clause-withs : goal.returns-clause-withs
returns-clause-withs c s = record { sound = (with_exact s).sound; whole = (with_exact s).whole }

pub returns-clause-moves : goal.returns-clause-moves
returns-clause-moves c s = record { sound = (move_exact s).sound; whole = (move_exact s).whole }

pub returns-clause-takes : goal.returns-clause-takes
returns-clause-takes c s = record { sound = (take_exact s).sound; whole = (take_exact s).whole }

pub returns-clause-notes : goal.returns-clause-notes
returns-clause-notes c s = record { sound = (note_exact s).sound; whole = (note_exact s).whole }

pub returns-clause-functions : goal.returns-clause-functions
returns-clause-functions c s = record { sound = (function_exact s).sound; whole = (function_exact s).whole }

pub returns-clause-initials : goal.returns-clause-initials
returns-clause-initials c s = record { sound = (initial_exact s).sound; whole = (initial_exact s).whole }

use Rattle.std.proofs.Common.{◌≡◌, map, take}
use Rattle.term_logic.specs.Formulas.{formula_of}
use Rattle.symbolic_moves.proofs.hole.trees_of.Given as goal

abbrev pub invariant-loop-formula : goal.invariant-loop-formula
invariant-loop-formula l = l.trees ≡ map (formula_of l.table) (take l.formula-index l.formulas)

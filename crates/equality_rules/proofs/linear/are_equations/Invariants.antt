use Rattle.std.proofs.Common.{◌≡◌, map, drop}
use Rattle.std.specs.List.{list_all}
use Rattle.term_logic.specs.Formulas.{formula_of}
use Rattle.equality_rules.specs.Linear.{is_equation}
use Rattle.equality_rules.proofs.linear.are_equations.Given as goal

abbrev pub invariant-loop-f : goal.invariant-loop-f
invariant-loop-f l =
    list_all is_equation (map (λ f. formula_of l.table f.now) (drop l.f-index l.premises)) ≡ list_all is_equation (map (λ f. formula_of l.table f.now) l.premises)

-- Sums of the linear forms of premises, as the code computes them.
use Rattle.std.specs.Prelude.{ℤ, Bool, ◌&&◌, int_le, if◌then◌else◌, List, [], ◌∷◌, Option, Some, None}
use Rattle.std.specs.Option.{option_map, option_and_then}
use Rattle.std.specs.List.{list_all}
use Rattle.std.specs.Ordering.{int_eq}
use Rattle.term_trees.specs.declared.term.Term.{Term}
use Rattle.term_trees.specs.declared.term.Formula.{Formula}
use Rattle.term_trees.specs.declared.linear.Way.TheVariants.{Sum, Times}
use Rattle.term_trees.specs.Linear.{Parts, coefficient_in, limited, joined, linear_parts}
use Rattle.equality_rules.specs.Linear.{claimed_term, concluded_term, weighed_term}

-- the form of a claimed term
abbrev pub claimed_form : Formula → Option Parts
claimed_form f = option_and_then linear_parts (claimed_term f)

-- the form of a concluded term
abbrev pub concluded_form : Formula → Option Parts
concluded_form c = option_and_then linear_parts (concluded_term c)

-- the form of the term of a premise that may have the number
abbrev pub weighed_form : Formula → ℤ → Option Parts
weighed_form f k = option_and_then linear_parts (weighed_term f k)

-- a number times a form, where all is low
abbrev pub scaled : ℤ → Parts → Option Parts
scaled k g = option_and_then (λ n. joined (Times k) n g) (option_map (λ c. (c, [])) (limited k))

-- a sum, and a premise's form times its number, where all is low
abbrev pub added : Parts → Formula → ℤ → Option Parts
added s f k = option_and_then (λ g. option_and_then (λ p. joined Sum s p) (scaled k g)) (weighed_form f k)

-- a sum, and then each premise's form times its number, where all is low
abbrev pub total_after : Parts → List Formula → List ℤ → Option Parts
total_after s [] [] = Some s
total_after s (f ∷ fs) (k ∷ ks) = option_and_then (λ t. total_after t fs ks) (added s f k)
total_after _ _ _ = None

-- whether each of the first parts has the coefficient that the second have of its term
abbrev pub agrees : List (Term × ℤ) → List (Term × ℤ) → Bool
agrees ps qs = list_all (λ p. int_eq p.1 (coefficient_in qs p.0)) ps

-- whether a form is the sum and a constant that isn't negative, or is 0
abbrev pub remains : Bool → Parts → Parts → Bool
remains none g s = (agrees g.1 s.1 && agrees s.1 g.1) && (if none then int_eq g.0 s.0 else int_le s.0 g.0)

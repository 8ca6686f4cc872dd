-- What the parts of a term become, where another term has such parts.
use Rattle.std.specs.Prelude.{ℕ, Bool, ◌==◌, ◌&&◌, Option}
use Rattle.term_trees.specs.declared.term.Term.{Term}
use Rattle.term_trees.specs.Same.{passes}
use Rattle.equality_rules.specs.Rewrite.{becomes}

-- whether there are two terms, and t and u become them
abbrev pub parts_become : Term → Term → Term → Term → Option (Term × Term) → Bool
parts_become a b t u o = passes o (λ p. becomes a b t p.0 && becomes a b u p.1)

-- whether there is the number k with a term, and t becomes it
abbrev pub counted_becomes : Term → Term → ℕ → Term → Option (ℕ × Term) → Bool
counted_becomes a b k t o = passes o (λ p. k == p.0 && becomes a b t p.1)

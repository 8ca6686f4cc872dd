-- How large parts of a text are: a measure of walks through them.
use Rattle.std.specs.Prelude.{ℕ, ◌+◌}
use Rattle.notes_grammar.specs.Parts.{Part, Parts, Number, Name, Quote, Branch, Nil, Cons}

abbrev mutual
  pub size : Part → ℕ
  size (Number at z) = 9
  size (Name at w) = 9
  size (Quote at s) = 9
  size (Branch at ps close) = 9 + sizes ps

  pub sizes : Parts → ℕ
  sizes Nil = 0
  sizes (Cons p ps) = 1 + size p + sizes ps

-- Linear forms over a table.
use Rattle.std.specs.Prelude.{ℕ, ◌<◌}
use Rattle.term_trees.specs.declared.linear.Linear.{Linear}
use Rattle.term_trees.specs.Linear.{PartsWithin}

-- The terms of a form are positions below n.
abbrev pub FormWithin : ℕ → Linear ℕ → Type 0
FormWithin n l = PartsWithin (λ id. id < n) l.parts.items

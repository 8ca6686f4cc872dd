-- A `with` that may be missing.
use Rattle.std.specs.Prelude.{List, [], Option, Some, None}
use Rattle.notes.specs.declared.uses.With.{With}

-- The `with`, or the empty one where there is none.
abbrev pub with_or_empty : Option With → With
with_or_empty None = record { terms = []; facts = []; chunks = [] }
with_or_empty (Some w) = w

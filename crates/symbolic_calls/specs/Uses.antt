-- What a missing use counts as.
use Rattle.std.specs.Prelude.{[]}
use Rattle.notes.specs.declared.uses.With.{With}

-- The `with` without terms, facts and chunks.
abbrev pub empty_with : With
empty_with = record { terms = []; facts = []; chunks = [] }

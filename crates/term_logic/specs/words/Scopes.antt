-- Whether a term is in scope, as a word that proofs don't open.
use Rattle.std.specs.Prelude.{Bool}
use Rattle.term_trees.specs.declared.term.Term.{Term}
use Rattle.term_trees.specs.Scopes.{Scope, in_scope}

unfoldable pub scope_of : Scope → Term → Bool
scope_of s t = in_scope s t

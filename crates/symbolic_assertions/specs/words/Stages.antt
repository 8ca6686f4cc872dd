-- An entailment in stages.
use Rattle.std.specs.Prelude.{List, [], ◌++◌, map}
use Rattle.term_trees.specs.declared.term.Term.{Term}
use Rattle.term_trees.specs.Leaves.{Leaves, replaced_formula}
use Rattle.notes.specs.declared.reason.Reason.TheVariants as reason
use Rattle.notes.specs.declared.assertion.Assertion.{Assertion}
use Rattle.notes.specs.declared.uses.With.{With}
use Rattle.outline_rules.specs.Refusals.{Ruling, wanted, ◌>>◌}
use Rattle.outline_rules.specs.Chunks.{replaced_chunk}
use Rattle.outline_rules.specs.States.{State}
use Rattle.outline_rules.specs.Leaves.{move_leaves, all_taken}
use Rattle.outline_rules.specs.Moves.{are_facts}
use Rattle.outline_rules.specs.Entailment.{Wanted, assertion_leaves, are_chunks, fits}

-- the terms of a `with`, whose lists have to be as long as the assertion's
abbrev pub terms_wanted : State → Assertion → With → Ruling (List Term)
terms_wanted s a w = wanted reason.Use (fits a w) >> all_taken (move_leaves s) w.terms

-- the facts and the chunks have to be those of an assertion, whose leaves have these trees in their place
abbrev pub parts_wanted : State → Leaves → Assertion → With → Ruling (Unit {0})
parts_wanted s l a w =
    wanted reason.Fact (are_facts s w.facts (map (replaced_formula l) a.formulas))
    >> wanted reason.Chunk (are_chunks s [] w.chunks (map (replaced_chunk l) a.chunks))

-- the same of what is wanted, where its own variables have these terms
abbrev pub parts_of : State → Wanted → With → List Term → Ruling (Unit {0})
parts_of s want w terms = parts_wanted s (assertion_leaves s (want.fixed ++ terms) want.args want.result) want.assertion w

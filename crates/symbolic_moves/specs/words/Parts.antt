-- Parts of what moves do.
use Rattle.std.specs.Prelude.{ℕ, ◌+◌, ◌==◌, ◌&&◌, List, [], ◌∷◌, ◌++◌, length, map}
use Rattle.term_trees.specs.declared.term.Place.{Place}
use Rattle.term_trees.specs.declared.term.Term.{Term}
use Rattle.term_trees.specs.declared.term.Formula.{Formula}
use Rattle.term_trees.specs.declared.term.Formula.TheVariants as formula
use Rattle.term_trees.specs.Leaves.{replaced_formula}
use Rattle.term_trees.specs.Rows.{at_position}
use Rattle.bitvector_rules.specs.declared.step.Step.{Step}
use Rattle.notes.specs.declared.reason.Reason.TheVariants as reason
use Rattle.notes.specs.declared.chunk.Chunk.TheVariants.{Row}
use Rattle.notes.specs.declared.outline.Lemma.{Lemma}
use Rattle.outline_rules.specs.Refusals.{Ruling, wanted, found, ◌>>=◌, ◌>>◌}
use Rattle.outline_rules.specs.Settings.{Setting, lemma_named}
use Rattle.outline_rules.specs.States.{State, settled, fact_added, with_chunk}
use Rattle.outline_rules.specs.Leaves.{leaves_with, move_leaves, steps_taken}
use Rattle.outline_rules.specs.HeapMoves.{fact_wanted, row_at}
use Rattle.outline_rules.specs.Moves.{slot_at, with_slot, derived, any_index, any_item, row_hyps, lemma_leaves, are_facts, lemma_used}

-- the slot at a place, which a move names
abbrev pub slot_wanted : Setting → Place → State → Ruling (ℕ × Term)
slot_wanted c p s = found reason.Scope (slot_at c s p)

-- what `put` does once its term is taken
abbrev pub put_taken : Setting → Place → Term → (f : ℕ) → State → Ruling State
put_taken c p u f s =
    found reason.Scope (slot_at c s p) >>= λ slot.
    fact_wanted s f (formula.Eq slot.1 u)
    >> settled [] (with_slot p u s)

-- a goal that steps derive is one more fact
abbrev pub derived_added : Formula → List Step → State → Ruling State
derived_added goal steps s = derived s.facts goal steps >> fact_added goal s

-- a goal with steps that are taken, one or more
abbrev pub shown_by : Formula → List Step → State → Ruling State
shown_by goal steps s = steps_taken (move_leaves s) steps >>= λ taken_steps. derived_added goal taken_steps s

-- a lemma by its name
abbrev pub lemma_found : Setting → List ℕ → Ruling Lemma
lemma_found c named = found reason.Use (lemma_named c named)

-- what `lemma` does once its terms are taken
abbrev pub lemma_taken : Setting → List ℕ → List Term → List ℕ → State → Ruling State
lemma_taken c named us facts s = found reason.Use (lemma_named c named) >>= λ l. lemma_used l us facts s

-- the facts have to be the hypotheses of a lemma, for these terms
abbrev pub hyps_wanted : Lemma → List Term → List ℕ → State → Ruling (Unit {0})
hyps_wanted l ts facts s =
    wanted reason.Use (length ts == l.vars && length facts == length l.hyps)
    >> wanted reason.Fact (are_facts s facts (map (replaced_formula (lemma_leaves ts)) l.hyps))

-- what is known of a cell, of which these are the position, the value, the count of the row, and the ends of its range
abbrev pub cell_hyps : (index item count zero greatest : Term) → (says : Formula) → List Formula
cell_hyps i v n zero greatest says =
    formula.Le zero i ∷ formula.Lt i n ∷ formula.Le zero v ∷ formula.Le v greatest ∷ says ∷ []

-- what `each` does with a row and steps that are taken
abbrev pub each_over : ℕ → Formula → List Step → ℕ × Term × Term × Formula → State → Ruling State
each_over c h taken_steps r s =
    derived (s.facts ++ row_hyps s r.0 r.2 r.3) (at_position h (any_index s) (any_item s)) taken_steps
    >> settled [] (with_chunk c (Row r.0 r.1 r.2 h) s)

-- what `each` does with steps that are taken
abbrev pub each_with : ℕ → Formula → List Step → State → Ruling State
each_with c h taken_steps s = row_at s c >>= λ r. each_over c h taken_steps r s

-- what `each` does with a formula that is taken
abbrev pub each_of : ℕ → Formula → List Step → State → Ruling State
each_of c h steps s = steps_taken (leaves_with (s.vars + 2) s) steps >>= λ taken_steps. each_with c h taken_steps s

-- The labels of open blocks, as those of the definitions.
use Rattle.std.specs.Prelude.{List, map, reverse, IsTrue}
use Rattle.std.specs.List.{All}
use Rattle.notes.specs.WellFormed.{well_formed_assertion}
use Rattle.outline_rules.specs.Branches as branches
use Rattle.symbolic_branches.specs.declared.labels.Label.{Label}

-- A label.
abbrev pub label_of_entry : Label → branches.Label
label_of_entry l = record { takes = l.takes; assertion = l.assertion.now }

-- The labels, the innermost first. In code it stands last.
abbrev pub labels_of : List Label → List branches.Label
labels_of ls = map label_of_entry (reverse ls)

-- The assertion of each label is well formed.
abbrev pub AreWellFormed : List Label → Type 0
AreWellFormed ls = All (λ l. IsTrue (well_formed_assertion l.assertion.now)) ls

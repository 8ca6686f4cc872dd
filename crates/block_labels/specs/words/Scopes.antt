-- The leaves that the assertion of a label may have.
use Rattle.term_trees.specs.Leaves.{Leaves}
use Rattle.term_trees.specs.Scopes.{Scope, given}
use Rattle.outline_rules.specs.Leaves.{in_row}
use Rattle.outline_rules.specs.Blocks.{label_leaves}
use Rattle.block_labels.specs.declared.scopes.LabelScope.{LabelScope}
use Rattle.block_labels.specs.declared.scopes.RowScope.{RowScope}

-- the leaves
abbrev pub scope_leaves : LabelScope → Leaves
scope_leaves s = label_leaves s.state.now.state (record { takes = s.takes; assertion = s.assertion.now })

-- those that there are
abbrev pub label_scope : LabelScope → Scope
label_scope s = given (scope_leaves s)

-- those that there are in the formula of a row
abbrev pub row_scope : RowScope → Scope
row_scope s = given (in_row (scope_leaves s.around))

-- What sets of locals and globals say of what code may change.
use Rattle.std.specs.Prelude.{nat_eq, false, ◌||◌}
use Rattle.std.specs.HashSet.{contains}
use Rattle.outline_rules.specs.Blocks.{Changes}
use Rattle.block_changes.specs.declared.changes.ChangeSet.{ChangeSet}

-- What code may change, that these sets tell: the locals in one; the globals in one, or any where it has a call; the page count
-- where it has `memory.grow` or a call.
abbrev pub changes_seen : ChangeSet → Changes
changes_seen s = record {
  locals = λ k. contains nat_eq s.locals k;
  globals = λ k. s.calls || contains nat_eq s.globals k;
  pages = s.calls || s.growth;
}

-- Nothing changes.
abbrev pub no_changes : Changes
no_changes = record { locals = λ k. false; globals = λ k. false; pages = false }

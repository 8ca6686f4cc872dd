use Rattle.std.proofs.Common.{◌≡◌, ◌++◌, drop}
use Rattle.notes.specs.declared.outline.Notes.{Notes}
use Rattle.outline_rules.specs.Settings.{setting, private_globals, private_from}
use Rattle.outline_setting.proofs.privates.privates_of.Given as goal

abbrev pub invariant-loop-number : goal.invariant-loop-number
invariant-loop-number l = (notes : Notes) → private_globals (setting l.module notes) ≡ l.privates ++ private_from (setting l.module notes) l.number (drop l.number l.globals)

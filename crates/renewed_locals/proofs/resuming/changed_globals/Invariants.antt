use Rattle.std.proofs.Common.{◌≡◌, take}
use Rattle.std.specs.Prelude.{filter}
use Rattle.block_changes.specs.Seen.{changes_seen}
use Rattle.renewed_locals.proofs.resuming.changed_globals.Given as goal

abbrev pub invariant-loop-global : goal.invariant-loop-global
invariant-loop-global l = l.changed ≡ filter (λ g. (changes_seen l.changes).globals g.0) (take l.global-index l.globals)

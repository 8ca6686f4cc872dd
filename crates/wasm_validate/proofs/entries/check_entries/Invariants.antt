use Rattle.body_check.proofs.SectionLemmas.{NoneBefore}
use Rattle.wasm_validate.proofs.entries.check_entries.Given as goal

abbrev pub invariant-loop-number : goal.invariant-loop-number
invariant-loop-number g l = NoneBefore (g.R.Rows.fault l.rows) l.entries l.number

use Rattle.std.proofs.Common.{false, refl, sym}
use Rattle.escape_analysis.specs.words.Changing.{exporting}
use Rattle.escape_analysis.proofs.ChangeLemmas.{changed-none}
use Rattle.escape_analysis.proofs.globals.export_by.Goals as goal

pub returns-in-Func : goal.returns-in-Func
returns-in-Func c = rw c.in-Func.is (sym (changed-none exporting (λ f. false) 0 c.args.globals.now (λ j from. refl)))

pub returns-in-Table : goal.returns-in-Table
returns-in-Table c = rw c.in-Table.is (sym (changed-none exporting (λ f. false) 0 c.args.globals.now (λ j from. refl)))

pub returns-in-Memory : goal.returns-in-Memory
returns-in-Memory c = rw c.in-Memory.is (sym (changed-none exporting (λ f. false) 0 c.args.globals.now (λ j from. refl)))

use Rattle.std.proofs.Common.{false, refl, sym}
use Rattle.escape_analysis.specs.words.Changing.{exposing}
use Rattle.escape_analysis.proofs.ChangeLemmas.{changed-none}
use Rattle.escape_analysis.proofs.functions.expose_by.Goals as goal

pub returns-in-Table : goal.returns-in-Table
returns-in-Table c = rw c.in-Table.is (sym (changed-none exposing (λ f. false) 0 c.args.marks.now (λ j from. refl)))

pub returns-in-Memory : goal.returns-in-Memory
returns-in-Memory c = rw c.in-Memory.is (sym (changed-none exposing (λ f. false) 0 c.args.marks.now (λ j from. refl)))

pub returns-in-Global : goal.returns-in-Global
returns-in-Global c = rw c.in-Global.is (sym (changed-none exposing (λ f. false) 0 c.args.marks.now (λ j from. refl)))

use Rattle.step_bound.proofs.Tables.{try_right, try_fewer}
use Rattle.step_bound.proofs.table.settle.Goals as goal

pub returns-in-Some-clause-right : goal.returns-in-Some-clause-right
returns-in-Some-clause-right c =
    try_right c.args.sought.now.module.now c.args.known.now c.as_slice.result.now c.set.new.self c.args.k c.in-Some.bound c.in_ok-bound.field-0
    c.as_slice.ensures c.in-Some.is c.set.ensures c.requires.right c.in_ok-bound.ensures

pub returns-in-Some-clause-found : goal.returns-in-Some-clause-found
returns-in-Some-clause-found c =
    try_fewer c.args.sought.now.module.now c.args.known.now c.as_slice.result.now c.set.new.self c.args.k c.in-Some.bound c.in_ok-bound.field-0
    c.as_slice.ensures c.in-Some.is c.set.ensures c.requires.there c.in_ok-bound.ensures

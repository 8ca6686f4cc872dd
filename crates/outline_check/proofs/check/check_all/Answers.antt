use Rattle.std.proofs.Common.{length}
use Rattle.outline_check.proofs.ModuleLemmas.{first-AreSimple, marked-places}
use Rattle.outline_check.proofs.check.check_all.Goals as goal

pub check_functions-requires-clause-first : goal.check_functions-requires-clause-first
check_functions-requires-clause-first c =
    rw c.as_slice-funcs.ensures
    (first-AreSimple (length c.args.m.now.types) (length c.args.m.now.globals) c.args.m.now.funcs c.requires.first.funcs)

pub check_functions-requires-clause-marked : goal.check_functions-requires-clause-marked
check_functions-requires-clause-marked c =
    rw (c.as_slice-funcs.ensures, c.as_slice-3.ensures) (marked-places c.args.m.now c.args.marks.now c.requires.marked)

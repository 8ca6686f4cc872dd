use Rattle.first_reader.proofs.FirstLaws.{tests_are_exact}
use Rattle.first_reader.proofs.first.is_first.Goals as goal

pub returns : goal.returns
returns c = rw (c.passes.ensures, c.module.ensures.same) (tests_are_exact c.args.module.now c.module.ensures.valid)

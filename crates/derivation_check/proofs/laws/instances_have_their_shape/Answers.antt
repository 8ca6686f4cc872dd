use Rattle.derivation_check.proofs.Instances.{shape_of, alone_is}
use Rattle.derivation_check.proofs.laws.instances_have_their_shape.Goals as goal

pub returns-clause-shape : goal.returns-clause-shape
returns-clause-shape c hyps earlier s h = shape_of hyps earlier s h

pub returns-clause-alone : goal.returns-clause-alone
returns-clause-alone c hyps earlier s none h = alone_is hyps earlier s none h

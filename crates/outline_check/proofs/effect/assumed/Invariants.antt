use Rattle.std.proofs.Common.{◌≡◌, drop}
use Rattle.outline_check.specs.States.{assumed}
use Rattle.outline_check.proofs.effect.assumed.Given as goal

abbrev pub invariant-loop-formula : goal.invariant-loop-formula
invariant-loop-formula l = assumed (drop l.formula-index l.formulas) l.state ≡ assumed l.fn.formulas l.fn.state

use Rattle.symbolic_renewal.proofs.Assumed.{Facts}
use Rattle.symbolic_renewal.proofs.assuming.assume_facts.Given as goal

abbrev pub invariant-loop-formula : goal.invariant-loop-formula
invariant-loop-formula l = Facts l.fn.state l.state l.fn.terms l.fn.formulas l.formula-index

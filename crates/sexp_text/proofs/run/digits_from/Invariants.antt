use Rattle.std.proofs.Common.{◌≡◌, ◌<◌, ◌^◌, drop}
use Rattle.sexp_text.specs.Reading.{digits_from}
use Rattle.sexp_text.proofs.run.digits_from.Given as goal

abbrev pub invariant-loop-b : goal.invariant-loop-b
invariant-loop-b l = (digits_from l.n (drop l.b-index l.digits) ≡ digits_from l.first l.digits) × (l.n < 2 ^ 120)

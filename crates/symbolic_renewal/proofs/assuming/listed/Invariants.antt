use Rattle.std.proofs.Common.{◌≡◌, take}
use Rattle.symbolic_renewal.proofs.assuming.listed.Given as goal

abbrev pub invariant-loop-id : goal.invariant-loop-id
invariant-loop-id l = l.listed ≡ take l.id-index l.ids

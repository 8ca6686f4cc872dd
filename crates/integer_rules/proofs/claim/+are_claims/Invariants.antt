use Rattle.std.proofs.Common.{length}
use Rattle.integer_rules.proofs.claim.+are_claims.Given as goal

abbrev pub decreases-are_claims : goal.decreases-are_claims
decreases-are_claims l = length l.claims.now

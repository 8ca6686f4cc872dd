-- Terms that are found the same are equal.
use Rattle.term_trees.proofs.Sameness.{same-exact}

pub ruleset alike = (same-exact)

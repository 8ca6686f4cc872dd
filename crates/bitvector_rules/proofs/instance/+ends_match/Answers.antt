use Rattle.std.proofs.Common.{◌≤◌, length, ap, subst, arith}
use Rattle.std.proofs.lemmas.List.Elements.{All-tail}
use Rattle.term_logic.specs.Formulas.{formula_bound}
use Rattle.bitvector_rules.specs.Goals.{GoalsWithin}
use Rattle.bitvector_rules.proofs.instance.+ends_match.Goals as goal

pub ends_match-requires : goal.ends_match-requires
ends_match-requires t c =
    let cases = c.in-Some-split_first.ensures.cases.0 in (
      omega (arith, c.decreases, ap length cases),
      All-tail (λ g. (formula_bound g.assumption ≤ length c.args.table.now) × (formula_bound g.goal ≤ length c.args.table.now)) c.in-Some-split_first.goal.now _ (subst (GoalsWithin (length c.args.table.now)) cases c.requires),
    )

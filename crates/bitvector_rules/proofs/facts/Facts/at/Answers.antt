use Rattle.std.proofs.Common.{◌∙◌, sym, ap}
use Rattle.term_logic.specs.Formulas.{formula_of}
use Rattle.bitvector_rules.specs.Facts.{fact_at, hyps_of, earlier_of}
use Rattle.bitvector_rules.proofs.FactLemmas.{seen_within, seen_past}
use Rattle.bitvector_rules.proofs.facts.Facts.at.Goals as goal

pub returns-then-k-self-clause-fact : goal.returns-then-k-self-clause-fact
returns-then-k-self-clause-fact c =
    c.look_up.ensures.fact
    ∙ sym (seen_within (formula_of c.args.table.now) c.args.self.now.hyps.now _ c.in-Hyp.k c.if-k-self.true)
    ∙ ap (fact_at (hyps_of c.args.table.now c.args.self.now) (earlier_of c.args.table.now c.args.self.now)) (sym c.in-Hyp.is)

pub returns-else-k-self-clause-fact : goal.returns-else-k-self-clause-fact
returns-else-k-self-clause-fact c =
    c.look_up-else-k-self.ensures.fact
    ∙ sym (seen_past (formula_of c.args.table.now) c.args.self.now.hyps.now _ c.in-Hyp.k c.if-k-self.false)
    ∙ ap (fact_at (hyps_of c.args.table.now c.args.self.now) (earlier_of c.args.table.now c.args.self.now)) (sym c.in-Hyp.is)

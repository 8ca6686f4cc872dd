use Rattle.std.proofs.Common.{arith}
use Rattle.term_trees.specs.Leaves.{no_leaves}
use Rattle.term_logic.proofs.IdFormulas.{true-nodes, false-nodes, compared-nodes, not-nodes, joined-nodes}
use Rattle.term_logic.proofs.table.TermTable.+formula_nodes.Goals as goal

pub returns-in-True : goal.returns-in-True
returns-in-True t c = omega (arith, true-nodes c.args.self.now no_leaves c.args.f.now c.in-True.ensures)

pub returns-in-False : goal.returns-in-False
returns-in-False t c = omega (arith, false-nodes c.args.self.now no_leaves c.args.f.now c.in-False.ensures)

pub returns-in-Compared : goal.returns-in-Compared
returns-in-Compared t c =
    omega (arith, c.nodes_of.ensures.count, c.nodes_of-in-Compared.ensures.count, c.nodes_of.ensures.small, c.nodes_of-in-Compared.ensures.small, compared-nodes c.args.self.now no_leaves c.args.f.now c.in-Compared.field-0 _ _ c.in-Compared.ensures)

pub returns-in-Not : goal.returns-in-Not
returns-in-Not t c =
    omega (arith, c.saturating_add.ensures, c.formula_nodes.ensures, not-nodes c.args.self.now no_leaves c.args.f.now _ c.in-Not.ensures)

pub returns-in-Joined : goal.returns-in-Joined
returns-in-Joined t c =
    omega (arith, c.saturating_add-in-Joined.ensures, c.saturating_add-in-Joined-2.ensures, c.formula_nodes-in-Joined.ensures, c.formula_nodes-in-Joined-2.ensures, joined-nodes c.args.self.now no_leaves c.args.f.now c.in-Joined.field-0 _ _ c.in-Joined.ensures)

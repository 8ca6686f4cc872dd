use Rattle.std.proofs.Common.{arith}
use Rattle.term_logic.specs.Leaves.{leaves_of}
use Rattle.term_logic.proofs.IdFormulas.{true-size, false-size, compared-size, not-size, joined-size}
use Rattle.term_logic.proofs.table.TermTable.+replaced_id_formula_nodes.Goals as goal

pub returns-in-True : goal.returns-in-True
returns-in-True t c = omega (arith, true-size c.args.self.now (leaves_of c.args.self.now c.args.leaves.now) c.args.f.now c.in-True.ensures)

pub returns-in-False : goal.returns-in-False
returns-in-False t c = omega (arith, false-size c.args.self.now (leaves_of c.args.self.now c.args.leaves.now) c.args.f.now c.in-False.ensures)

pub returns-in-Compared : goal.returns-in-Compared
returns-in-Compared t c =
    omega (
      arith,
      c.saturating_add.ensures,
      c.saturating_add-in-Compared.ensures,
      c.replaced_id_nodes.ensures,
      c.replaced_id_nodes-in-Compared.ensures,
      compared-size c.args.self.now (leaves_of c.args.self.now c.args.leaves.now) c.args.f.now c.in-Compared.field-0 _ _ c.in-Compared.ensures,
    )

pub returns-in-Not : goal.returns-in-Not
returns-in-Not t c =
    omega (arith, c.saturating_add-in-Not.ensures, c.replaced_id_formula_nodes.ensures, not-size c.args.self.now (leaves_of c.args.self.now c.args.leaves.now) c.args.f.now _ c.in-Not.ensures)

pub returns-in-Joined : goal.returns-in-Joined
returns-in-Joined t c =
    omega (
      arith,
      c.saturating_add-in-Joined.ensures,
      c.saturating_add-in-Joined-2.ensures,
      c.replaced_id_formula_nodes-in-Joined.ensures,
      c.replaced_id_formula_nodes-in-Joined-2.ensures,
      joined-size c.args.self.now (leaves_of c.args.self.now c.args.leaves.now) c.args.f.now c.in-Joined.field-0 _ _ c.in-Joined.ensures,
    )

use Rattle.std.proofs.Common.{length, arith, ◌<◌}
use Rattle.std.proofs.lemmas.Map.Entries.{length-keys_of}
use Rattle.indexmap.specs.IndexMap.{keys}
use Rattle.term_logic.proofs.Tables.{seen-within, seen-count, seen-small, seen-well_formed}
use Rattle.term_logic.proofs.table.TermTable.nodes_of.Goals as goal

pub index-requires : goal.index-requires
index-requires c =
    let low : c.id.inside.at < length (keys c.self.inside.cells) = seen-within _ _ c.self.invariant _ c.self.view_is _ (rw c.id.view_is c.requires) in
    omega (arith, low, length-keys_of c.self.inside.cells.entries)

pub returns-clause-count : goal.returns-clause-count
returns-clause-count c = seen-count _ _ c.self.invariant _ c.self.view_is c.args.id c.requires _ (rw (← c.id.view_is) c.index.ensures)

pub returns-clause-small : goal.returns-clause-small
returns-clause-small c = seen-small _ _ c.self.invariant _ c.self.view_is c.args.id c.requires _ (rw (← c.id.view_is) c.index.ensures)

pub returns-clause-well_formed : goal.returns-clause-well_formed
returns-clause-well_formed c = seen-well_formed _ _ c.self.invariant _ c.self.view_is c.args.id c.requires

use Rattle.std.proofs.Common.{◌≡◌, None, sym}
use Rattle.indexmap.specs.IndexMap.{get}
use Rattle.term_logic.proofs.Interned.{eq, none_of, found, table_after, new_within, new_tree, extends}
use Rattle.term_logic.proofs.table.TermTable.intern.Goals as goal
use Rattle.term_logic.proofs.table.TermTable.intern.Goals.{In-Ok}

pub returns-in-Some-clause-within : goal.returns-in-Some-clause-within
returns-in-Some-clause-within c =
    (found _ _ c.self.invariant _ c.self.view_is c.args.cell c.in-Some.at (sym c.in-Some.ensures.index)).0

pub returns-in-Some-clause-tree : goal.returns-in-Some-clause-tree
returns-in-Some-clause-tree c =
    (found _ _ c.self.invariant _ c.self.view_is c.args.cell c.in-Some.at (sym c.in-Some.ensures.index)).1

none : (c : In-Ok) → get eq c.self.inside.cells c.args.cell ≡ None
none c = none_of _ (sym c.in_default.ensures.found)

pub invariant_of-self-2 : goal.invariant_of-self-2
invariant_of-self-2 c =
    table_after c.self.inside.cells c.insert.new.self c.args.cell c.nodes_here-nodes.result c.self.invariant _ c.self.view_is (none c) c.in-Ok.ensures.entries c.requires.within c.nodes_here-nodes.ensures c.requires.small c.requires.well_formed

pub returns-clause-within : goal.returns-clause-within
returns-clause-within c =
    new_within c.self.inside.cells c.insert.new.self c.args.cell c.nodes_here-nodes.result c.self.invariant _ c.self.view_is (none c) c.in-Ok.ensures.entries c.requires.within c.nodes_here-nodes.ensures c.requires.small c.requires.well_formed
    c.len-at.result c.len-at.ensures.len

pub returns-clause-tree : goal.returns-clause-tree
returns-clause-tree c =
    new_tree c.self.inside.cells c.insert.new.self c.args.cell c.nodes_here-nodes.result c.self.invariant _ c.self.view_is (none c) c.in-Ok.ensures.entries c.requires.within c.nodes_here-nodes.ensures c.requires.small c.requires.well_formed
    c.len-at.result c.len-at.ensures.len

pub returns-clause-kept : goal.returns-clause-kept
returns-clause-kept c =
    extends c.self.inside.cells c.insert.new.self c.args.cell c.nodes_here-nodes.result c.self.invariant _ c.self.view_is (none c) c.in-Ok.ensures.entries c.requires.within c.nodes_here-nodes.ensures c.requires.small c.requires.well_formed

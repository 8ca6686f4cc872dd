use Rattle.std.proofs.Common.{length, arith, ap, ◌<◌, ◌∙◌, sym, ◌≡◌, slice_index_or}
use Rattle.indexmap.specs.IndexMap.{keys}
use Rattle.term_trees.specs.declared.term.Term.{out-Term}
use Rattle.term_logic.proofs.Trees.{out-tree_here}
use Rattle.term_logic.proofs.Tables.{seen-within, seen-cell, seen-earlier, seen-sound, seen-well_formed}
use Rattle.term_logic.proofs.table.TermTable.cell.Goals as goal

within : (c : goal.After-id) → c.id.inside.at < length c.as_slice.result.now
within c =
    let low : c.id.inside.at < length (keys c.self.inside.cells) = seen-within _ _ c.self.invariant _ c.self.view_is _ (rw c.id.view_is c.requires) in
    omega (arith, low, ap length (c.as_slice.ensures ∙ c.keys.ensures.rest))

pub offset_bounds-as_slice-id-inside : goal.offset_bounds-as_slice-id-inside
offset_bounds-as_slice-id-inside c = omega (arith, within c, c.as_slice.type_inv)

pub bounds-as_slice-id-inside : goal.bounds-as_slice-id-inside
bounds-as_slice-id-inside c = within c

is_read : (c : goal.After-index-as_slice-id) → c.index-as_slice-id.result ≡ slice_index_or (keys c.self.inside.cells) c.args.id c.index-as_slice-id.result
is_read c =
    c.index-as_slice-id.is
    ∙ ap (λ ks. slice_index_or ks c.id.inside.at c.index-as_slice-id.result) (c.as_slice.ensures ∙ c.keys.ensures.rest)
    ∙ ap (λ i. slice_index_or (keys c.self.inside.cells) i c.index-as_slice-id.result) c.id.view_is

pub returns-clause-tree : goal.returns-clause-tree
returns-clause-tree c = seen-cell _ _ c.self.invariant _ c.self.view_is c.args.id c.requires _ (is_read c)

pub returns-clause-earlier : goal.returns-clause-earlier
returns-clause-earlier c = seen-earlier _ _ c.self.invariant _ c.self.view_is c.args.id c.requires _ (is_read c)

pub returns-clause-layer : goal.returns-clause-layer
returns-clause-layer c =
    ap out-Term (sym (returns-clause-tree c)) ∙ out-tree_here c.args.self.now c.index-as_slice-id.result

pub returns-clause-well_formed : goal.returns-clause-well_formed
returns-clause-well_formed c = seen-sound _ _ c.self.invariant _ c.self.view_is c.args.id c.requires _ (is_read c)

pub returns-clause-tree_well_formed : goal.returns-clause-tree_well_formed
returns-clause-tree_well_formed c = seen-well_formed _ _ c.self.invariant _ c.self.view_is c.args.id c.requires

use Rattle.std.proofs.Common.{◌≡◌, ◌++◌, drop, map}
use Rattle.notes_grammar.specs.Printed.{printed_more}
use Rattle.notes_grammar.specs.Shapes.{trees_in}
use Rattle.notes_print.proofs.lists.more_items.Given as goal

abbrev pub invariant-loop-item : goal.invariant-loop-item
invariant-loop-item g l =
    l.out ++ printed_more (trees_in (map g.P.Print.shape (drop l.item-index l.items))) ≡ l.initial.out ++ printed_more (trees_in (map g.P.Print.shape l.items))

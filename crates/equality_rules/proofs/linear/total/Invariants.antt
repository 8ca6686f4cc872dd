use Rattle.std.proofs.Common.{◌≡◌, pos, [], length, map, drop}
use Rattle.term_logic.specs.Table.{tree_at}
use Rattle.term_logic.specs.Formulas.{formula_of}
use Rattle.term_trees.specs.Linear.{shown_form}
use Rattle.term_logic.specs.Linear.{FormWithin}
use Rattle.equality_rules.specs.words.Sums.{total_after}
use Rattle.equality_rules.proofs.linear.total.Given as goal

abbrev pub invariant-loop-f : goal.invariant-loop-f
invariant-loop-f l = record {
  left :
      total_after (shown_form (tree_at l.table) l.sum) (map (λ f. formula_of l.table f.now) (drop l.f-index l.premises)) l.rest
      ≡ total_after (pos 0, []) (map (λ f. formula_of l.table f.now) l.premises) l.numbers;
  within : FormWithin (length l.table) l.sum;
}

-- What a heap move wants and changes, its terms taken first.
use Rattle.term_trees.specs.Leaves.{Leaves}
use Rattle.notes.specs.declared.heap_move.HeapMove.{HeapMove}
use Rattle.notes.specs.declared.heap_move.HeapMove.TheVariants.{Split, Merge, Forget, View, Halve, Unite, Readdr, Reval, Relen, Pick, Join, Enrow, Rows}
use Rattle.outline_rules.specs.Refusals.{Ruling, ◌>>=◌}
use Rattle.outline_rules.specs.States.{State}
use Rattle.outline_rules.specs.Leaves.{in_row, taken, taken_formula}
use Rattle.heap_logic.specs.words.Effects.{Effect}
use Rattle.heap_logic.specs.words.Plans.{split_plan, merge_plan, forget_plan, view_plan, halve_plan, unite_plan, readdr_plan, reval_plan, relen_plan}
use Rattle.heap_logic.specs.words.RowPlans.{pick_plan, join_plan, enrow_plan, rows_plan}

-- what a move wants and changes, where its terms may have these leaves
abbrev pub planned : HeapMove → Leaves → State → Ruling Effect
planned (Split c t f g) l s = taken l t >>= λ k. split_plan c k f g s
planned (Merge c d f) l s = merge_plan c d f s
planned (Forget c) l s = forget_plan c s
planned (View c) l s = view_plan c s
planned (Halve c) l s = halve_plan c s
planned (Unite c d f) l s = unite_plan c d f s
planned (Readdr c t f) l s = taken l t >>= λ b. readdr_plan c b f s
planned (Reval c t f) l s = taken l t >>= λ v. reval_plan c v f s
planned (Relen c t f) l s = taken l t >>= λ n. relen_plan c n f s
planned (Pick c t f g) l s = taken l t >>= λ i. pick_plan c i f g s
planned (Join c d f) l s = join_plan c d f s
planned (Enrow c each f) l s = taken_formula (in_row l) each >>= λ g. enrow_plan c g f s
planned (Rows c w each) l s = taken_formula (in_row l) each >>= λ g. rows_plan c w g s

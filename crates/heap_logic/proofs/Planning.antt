-- A heap move is what is planned for it, and then the change within the limits.
use Rattle.std.proofs.Common.{◌≡◌}
use Rattle.notes.specs.declared.heap_move.HeapMove.{HeapMove}
use Rattle.notes.specs.declared.heap_move.HeapMove.TheVariants.{Split, Merge, Forget, View, Halve, Unite, Readdr, Reval, Relen, Pick, Join, Enrow, Rows}
use Rattle.outline_rules.specs.Refusals.{◌>>=◌}
use Rattle.outline_rules.specs.States.{State}
use Rattle.outline_rules.specs.Leaves.{move_leaves, in_row, taken, taken_formula}
use Rattle.outline_rules.specs.HeapMoves.{heap_moved}
use Rattle.heap_logic.specs.words.Planned.{planned}
use Rattle.heap_logic.proofs.Binds.{through}
use Rattle.heap_logic.proofs.Moved.{done, split-is, merge-is, forget-is, view-is, halve-is, unite-is, readdr-is, reval-is, relen-is}
use Rattle.heap_logic.proofs.RowMoved.{pick-is, join-is, enrow-is, rows-is}

pub moved-is : (m : HeapMove) (s : State) → heap_moved m s ≡ (planned m (move_leaves s) s >>= done s)
moved-is (Split c t f g) s = through (taken (move_leaves s) t) _ _ _ (λ k. split-is s c k f g)
moved-is (Merge c d f) s = merge-is s c d f
moved-is (Forget c) s = forget-is s c
moved-is (View c) s = view-is s c
moved-is (Halve c) s = halve-is s c
moved-is (Unite c d f) s = unite-is s c d f
moved-is (Readdr c t f) s = through (taken (move_leaves s) t) _ _ _ (λ b. readdr-is s c b f)
moved-is (Reval c t f) s = through (taken (move_leaves s) t) _ _ _ (λ v. reval-is s c v f)
moved-is (Relen c t f) s = through (taken (move_leaves s) t) _ _ _ (λ n. relen-is s c n f)
moved-is (Pick c t f g) s = through (taken (move_leaves s) t) _ _ _ (λ i. pick-is s c i f g)
moved-is (Join c d f) s = join-is s c d f
moved-is (Enrow c each f) s = through (taken_formula (in_row (move_leaves s)) each) _ _ _ (λ g. enrow-is s c g f)
moved-is (Rows c w each) s = through (taken_formula (in_row (move_leaves s)) each) _ _ _ (λ g. rows-is s c w g)

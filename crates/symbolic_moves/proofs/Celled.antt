-- What is known of any cell of a row, over a table that has grown.
use Rattle.std.proofs.Common.{◌≡◌, ℕ, List, ◌++◌, sym, ap, ◌∙◌}
use Rattle.std.specs.Prelude.{Ok}
use Rattle.term_trees.specs.declared.term.Term.{Term}
use Rattle.term_trees.specs.declared.term.Formula.{Formula}
use Rattle.term_trees.specs.Rows.{at_position}
use Rattle.bitvector_rules.specs.declared.step.Step.{Step}
use Rattle.outline_rules.specs.Refusals.{◌>>=◌}
use Rattle.outline_rules.specs.States.{State, number}
use Rattle.outline_rules.specs.HeapMoves.{greatest_in}
use Rattle.outline_rules.specs.Leaves.{move_leaves, in_row, taken_formula}
use Rattle.outline_rules.specs.Moves.{any_index, any_item, row_hyps, derived, each}
use Rattle.symbolic_moves.specs.words.Parts.{cell_hyps, each_of}

-- terms and what is said, one by one
pub hyps-are : (s : State) (w : ℕ) (n : Term) (f : Formula) (i v m least greatest : Term) (says : Formula) → i ≡ any_index s → v ≡ any_item s → m ≡ n → least ≡ number 0 → greatest ≡ number (greatest_in w) → says ≡ at_position f (any_index s) (any_item s) → cell_hyps i v m least greatest says ≡ row_hyps s w n f
hyps-are s w n f i v m least greatest says a b c d e g = λ j. cell_hyps (a j) (b j) (c j) (d j) (e j) (g j)

pub derived-over : (s t : State) (w : ℕ) (n m : Term) (f g goal shown : Formula) (steps : List Step) → t ≡ s → m ≡ n → g ≡ f → shown ≡ goal → derived (t.facts ++ row_hyps t w m g) shown steps ≡ derived (s.facts ++ row_hyps s w n f) goal steps
derived-over s t w n m f g goal shown steps a b c d = λ j. derived ((a j).facts ++ row_hyps (a j) w (b j) (c j)) (d j) steps

pub each-is : (c : ℕ) (g h : Formula) (steps : List Step) (s t : State) → taken_formula (in_row (move_leaves s)) g ≡ Ok h → t ≡ s → each_of c h steps t ≡ each c g steps s
each-is c g h steps s t is same = ap (each_of c h steps) same ∙ sym (ap (λ r. r >>= λ k. each_of c k steps s) is)

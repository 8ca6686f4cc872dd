-- What terms and formulas mean under numbers for their variables.
use Rattle.std.specs.Prelude.{ℕ, ◌-◌, ◌%◌, ◌^◌, ℤ, pos, negsuc, ◌+ℤ◌, ◌-ℤ◌, ◌*ℤ◌, Bool, true, false, not, ◌&&◌, ◌||◌, int_lt, int_le, List, slice_index_or, unwrap_or}
use Rattle.std.specs.Ordering.{int_eq}
use Rattle.wasm_values.specs.Operators.{num_width, num_unary, num_binary, signed, sign_extended}
use Rattle.term_trees.specs.declared.term.Place.{Place}
use Rattle.term_trees.specs.declared.term.Term.{Term, fold-Term}
use Rattle.term_trees.specs.declared.term.Term.TheOpen.{Term-F, Num, Var, Own, At, Add, Sub, Mul, One, Two, Low, Sext, Sgn}
use Rattle.term_trees.specs.declared.term.Formula.{Formula, fold-Formula}
use Rattle.term_trees.specs.declared.term.Formula.TheOpen.{Formula-F, True, False, Eq, Le, Lt, Not, And, Or, Imp}

-- The numbers that terms speak of: a list for the variables, a list for the own variables, and one for each place.
-- A variable past the end of its list stands for 0.
pub record Numbers : Type 0 where
  pub variables : List ℤ
  pub own : List ℤ
  pub places : Place → ℤ

-- A whole number modulo n: the number from 0 to n - 1 that differs from it by a multiple of n.
abbrev pub modulo : ℤ → ℕ → ℕ
modulo (pos a) n = a % n
modulo (negsuc a) n = n - 1 - a % n

-- the value of one layer, from those of its parts
abbrev pub value_here : Numbers → Term-F ℤ → ℤ
value_here n (Num k) = k
value_here n (Var k) = slice_index_or n.variables k (pos 0)
value_here n (Own k) = slice_index_or n.own k (pos 0)
value_here n (At p) = n.places p
value_here n (Add a b) = a +ℤ b
value_here n (Sub a b) = a -ℤ b
value_here n (Mul a b) = a *ℤ b
value_here n (One op a) = pos (num_unary op (modulo a (2 ^ num_width op)))
value_here n (Two op a b) =
    pos (unwrap_or (num_binary op (modulo a (2 ^ num_width op)) (modulo b (2 ^ num_width op))) 0)
value_here n (Low k a) = pos (modulo a (2 ^ k))
value_here n (Sext k m a) = pos (sign_extended k m (modulo a (2 ^ k)))
value_here n (Sgn k a) = signed k (modulo a (2 ^ k))

-- The value of a term, a whole number (its operators: section 4.3.2). Sums, differences and products are exact. An
-- operator takes each operand modulo 2 to its width, and gives 0 where the standard leaves it undefined.
abbrev pub value : Numbers → Term → ℤ
value n t = fold-Term ℤ (value_here n) t

-- whether one layer holds, from whether its parts do
abbrev pub holds_here : Numbers → Formula-F Bool → Bool
holds_here n True = true
holds_here n False = false
holds_here n (Eq a b) = int_eq (value n a) (value n b)
holds_here n (Le a b) = int_le (value n a) (value n b)
holds_here n (Lt a b) = int_lt (value n a) (value n b)
holds_here n (Not f) = not f
holds_here n (And f g) = f && g
holds_here n (Or f g) = f || g
holds_here n (Imp f g) = not f || g

-- Whether a formula is true, as a truth value that computes.
abbrev pub holds : Numbers → Formula → Bool
holds n f = fold-Formula Bool (holds_here n) f
